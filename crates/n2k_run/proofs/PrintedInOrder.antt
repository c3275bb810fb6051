-- In order, each printed line shows a message that is alone in its line or made of consecutive frames.
use Rattle.std.proofs.Common.{arith, ◌≡◌, ℕ, Bool, List, [], ◌∷◌, ◌++◌, refl, Option, Some, None, ◌⊎◌, filter_map, option_map, option_and_then, inl, inr}
use Rattle.std.specs.List.{AllByRecursion}
use Rattle.std.specs.Option.{option_or}
use Rattle.std.proofs.lemmas.List.Elements.{All-from_recursion}
use Rattle.std.proofs.lemmas.Option.{none-some, same_Some}
use Rattle.n2k_wire.specs.declared.entry.Entry.{Entry}
use Rattle.n2k_wire.specs.Packet.{PacketParts}
use Rattle.n2k_table.specs.Json.{json}
use Rattle.n2k_table.specs.OneLine.{IsOneLine}
use Rattle.n2k_table.specs.Table.{TableParts, kind}
use Rattle.n2k_join.specs.Frames.{frames}
use Rattle.n2k_join.specs.Groups.{within}
use Rattle.n2k_join.specs.Messages.{Keyed, alone, entry_at, gathered, message, numbers}
use Rattle.n2k_join.specs.Replay.{messages}
use Rattle.n2k_join.specs.Consecutive.{ComesOfConsecutive}
use Rattle.n2k_run.specs.declared.options.Options.{Options}
use Rattle.n2k_run.specs.Decoded.{out, out_of}
use Rattle.n2k_run.specs.Entries.{entries}
use Rattle.n2k_run.specs.InOrder.{ComesAlone, ComesInOrder, EachTellsOne, TellsOne}
use Rattle.n2k_run.specs.Lines.{lines}
use Rattle.n2k_run.specs.Replayed.{json_lines, with_line_feeds}
use Rattle.n2k_run.proofs.PrintedBack.{out_of-lines}

-- the facts that the laws below need, under a rule in order
pub record OrderLaws (t : TableParts) (o : Options) : Type 0 where
  pub one_line : (m : PacketParts) (empty : Bool) → IsOneLine (json t m empty)
  pub consecutive : (es : List Entry) (line : ℕ) (m : Keyed) → gathered (within o.window) (frames (kind t) es) line ≡ Some m → ComesOfConsecutive (kind t) es line m

abbrev Comes : TableParts → List Entry → PacketParts → Type 0
Comes t es m = ComesAlone t es m ⊎ ComesInOrder t es m

-- a property of each line's value
all_given : {Y : Type 0} (P : Y → Type 0) (gives : ℕ → Option Y) → ((n : ℕ) (y : Y) → gives n ≡ Some y → P y) → (ns : List ℕ) → AllByRecursion P (filter_map gives ns)
all_given P gives each [] = tt
all_given {Y} P gives each (n ∷ ns) = grind (arith, all_given P gives each ns)

-- JSON lines of messages show them
told : (t : TableParts) (o : Options) (es : List Entry) (ls : List (List ℕ)) (ms : List PacketParts) → with_line_feeds ls ≡ json_lines t o ms → AllByRecursion (Comes t es) ms → AllByRecursion (TellsOne t o es) ls
told t o es [] ms is each = tt
told t o es (l ∷ ls) [] is each = absurd (cc)
told t o es (l ∷ ls) (m ∷ ms) is each =
    let first : l ++ 10 ∷ [] ≡ json t m o.empty = cc in
    let rest : with_line_feeds ls ≡ json_lines t o ms = cc in
    (record { message = m; printed = first; comes = each.0 }, told t o es ls ms rest each.1)

module _ (t : TableParts) (o : Options) (laws : OrderLaws t o) (es : List Entry) where
  of_group : (k : Keyed) (m : PacketParts) (line : ℕ) → k.message ≡ m → ComesOfConsecutive (kind t) es line k → ComesInOrder t es m
  of_group k m line is one = grind arith

  -- the message of a line
  comes : (line : ℕ) (m : PacketParts) → message o.window (kind t) es line ≡ Some m → Comes t es m
  comes line m given = by (gathered (within o.window) (frames (kind t) es) line) refl (entry_at es line) refl given
    where
      by : (g : Option Keyed) → gathered (within o.window) (frames (kind t) es) line ≡ g → (x : Option Entry) → entry_at es line ≡ x
          → option_or (option_map (λ (k : Keyed). k.message) g) (option_and_then (alone (kind t)) x) ≡ Some m → Comes t es m
      by (Some k) gathers x stands is = inr (of_group k m line (same_Some _ _ is) (laws.consecutive es line k gathers))
      by None gathers (Some entry) stands is = inl (record { line = line; entry = entry; stands = stands; is = is })
      by None gathers None stands is = absurd (none-some m is)

  pub each_tells_one : EachTellsOne t o es (out_of t o es)
  each_tells_one = All-from_recursion (TellsOne t o es) (lines (out_of t o es))
      (told t o es (lines (out_of t o es)) (messages o.window (kind t) es) (out_of-lines t o es laws.one_line) (all_given (Comes t es) (message o.window (kind t) es) comes (numbers es)))

-- each line that a log prints is of a message that comes alone or in order
pub log_in_order : (t : TableParts) (o : Options) (log : List ℕ) → OrderLaws t o → EachTellsOne t o (entries o.packing log) (out t o log)
unfolding out
log_in_order t o log laws = each_tells_one t o laws (entries o.packing log)
