-- The result of a line, as the definitions see it.
use Rattle.std.specs.Prelude.{◌≡◌, ◌≤◌, ◌<◌, ◌↔◌, ℕ, ◌+◌, ◌-◌, ◌==◌, is_some, Bool, true, false, not, if◌then◌else◌}
use Rattle.std.specs.Prelude.{List, drop}
use Rattle.std.specs.Prelude.{length, slice_get, Option, Some, None, option_to_list, Result, IfOk, OnOk}
use Rattle.std.specs.Prelude.{OnErr, IsErrOf}
use Rattle.std.specs.List.{list_any}
use Rattle.n2k_wire.specs.Packet.{PacketParts}
use Rattle.n2k_wire.specs.declared.entry.Entry.{Entry}
use Rattle.n2k_wire.specs.declared.entry.Entry.TheVariants as entries
use Rattle.n2k_table.specs.Table.{KnownParts, TableParts}
use Rattle.n2k_table.specs.declared.definition.Kind.{Kind}
use Rattle.n2k_join.specs.declared.fault.JoinFault.{JoinFault}
use Rattle.n2k_join.specs.declared.fault.JoinFault.TheVariants.{Memory, TooManyLines}
use Rattle.n2k_join.specs.declared.step.Step.{Step}
use Rattle.n2k_join.specs.declared.step.InPlaceStep.{InPlaceStep}
use Rattle.n2k_join.specs.Frames.{same_key, Frame, frame_in}
use Rattle.n2k_join.specs.Open.{Group}
use Rattle.n2k_join.specs.State.{State, Given, next_line, overdue, step_given, step_after, AreWaiting}
use Rattle.n2k_join.specs.Counts.{most_lines}

-- A line breaks at most one group besides the groups whose window ends at it.
abbrev pub given_of : Step → Given
given_of step = record { message = step.message; cause = step.bad; broken = option_to_list step.broken }

-- the packet of an entry, if it has one
abbrev pub packet_in : Entry → Option PacketParts
packet_in entries.Skip = None
packet_in (entries.Bad cause) = None
packet_in (entries.Frame packet) = Some packet
packet_in (entries.Whole packet) = Some packet

-- the packet of a line, if it is a message
abbrev pub message_in : Bool → Option PacketParts → Option PacketParts
message_in is_message own = if is_message then own else None

-- a message that an entry now has, and its PGN in the table
abbrev pub IsOwn : TableParts → Option KnownParts → Option PacketParts → Type 0
IsOwn t None own = Unit {0}
IsOwn t (Some known) None = ⊥
IsOwn t (Some known) (Some packet) = known ≡ record { table = t; pgn = packet.id.pgn }

-- the step of a line that left this entry, without its number
abbrev pub step_in : Entry → InPlaceStep → Step
step_in e step = record {
  message = message_in (is_some step.message) (packet_in e);
  bad = step.bad;
  broken = step.broken;
}

abbrev pub opens_by : List Group → Option Frame → Bool
opens_by groups None = false
opens_by groups (Some f) = not (list_any (λ (g : Group). same_key f.key g.key) groups)

-- the frame of the next entry opens a group of a key that has none open
abbrev pub opens : (ℕ → Option Kind) → State → Entry → Bool
opens kind s e = opens_by s.groups (frame_in kind (next_line s) e)

-- The oldest open group whose window has ended by the next line. After the most lines there is no next line.
abbrev pub due : State → Option Group
due s = if s.counts.lines == most_lines then None else slice_get (overdue s) 0

-- the state after that group is broken: it is the first, since the groups are ordered by first line
unfoldable pub expired : State → State
expired s = record {
  id = s.id;
  window = s.window;
  counts = record s.counts { broken = s.counts.broken + 1; held = s.counts.held - 1 };
  groups = drop 1 s.groups;
}

-- The result of a line that a join takes in the state `old`, and the state after it. An accepted line is a step of the
-- definition. It is refused exactly at the most lines, or if memory for a new group is refused; then nothing changes.
pub record TakesLine {Answer : Type 0} (gives : Answer → Given) (kind : ℕ → Option Kind) (old new : State) (e : Entry)
    (result : Result Answer JoinFault) : Type 0 where
  pub given : IfOk result (λ answer. gives answer ≡ step_given kind old e)
  pub after : OnOk result (new ≡ step_after kind old e)
  pub waiting : OnOk result (AreWaiting new)
  pub few_open : OnOk result (length new.groups ≤ new.window.lines)
  pub unchanged : OnErr result (new ≡ old)
  pub few : OnOk result (old.counts.lines < most_lines)
  pub full : IsErrOf result TooManyLines ↔ (old.counts.lines ≡ most_lines)
  pub memory : IsErrOf result Memory → opens kind old e ≡ true
