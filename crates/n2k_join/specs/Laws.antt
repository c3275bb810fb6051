-- Laws of the groups of frames, of the step, and of bad lines.
use Rattle.std.specs.Prelude.{◌≡◌, ◌<◌, ◌≤◌, ◌⊎◌, ℕ, ◌+◌, false, true, List, [], ◌∷◌, ◌++◌, length, flat_map, slice_get}
use Rattle.std.specs.Prelude.{All, Option, Some, option_map}
use Rattle.n2k_wire.specs.declared.entry.Entry.{Entry}
use Rattle.n2k_wire.specs.declared.entry.Entry.TheVariants as entries
use Rattle.n2k_table.specs.declared.definition.Kind.{Kind}
use Rattle.n2k_join.specs.Frames.{Frame, frames}
use Rattle.n2k_join.specs.Groups.{EndTest, has_twice, complete, cut, IsFirstGroup, first}
use Rattle.n2k_join.specs.Messages.{message, cause_in, as_broken, broken, counts}
use Rattle.n2k_join.specs.Open.{Group, open_within}
use Rattle.n2k_join.specs.State.{State, state, step_given, step_after}
use Rattle.n2k_join.specs.Step.{expired}
use Rattle.n2k_join.specs.Window.{Window}

-- The groups that frames are cut into are the frames in their order; none is empty, and none has a repeated number.
pub record CutJoins (ends : EndTest) (fs : List Frame) : Type 0 where
  pub joined : flat_map (λ (group : List Frame). group) (cut ends fs) ≡ fs
  pub nonempty : All (λ (group : List Frame). 0 < length group) (cut ends fs)
  pub once : All (λ (group : List Frame). has_twice group ≡ false) (cut ends fs)

-- frames begin with a first group
pub record HasFirstGroup (ends : EndTest) (fs : List Frame) : Type 0 where
  pub group : List Frame
  pub rest : List Frame
  pub is : IsFirstGroup ends fs group rest

-- No frames have no groups. Otherwise the first group is the shortest prefix that has ended, and the rest is cut in the
-- same way. This determines the groups.
pub record CutFirst (ends : EndTest) (fs : List Frame) : Type 0 where
  pub none : cut ends [] ≡ []
  pub begins : 0 < length fs → HasFirstGroup ends fs
  pub follows : (group rest : List Frame) → IsFirstGroup ends fs group rest → cut ends fs ≡ group ∷ cut ends rest

-- The group at a place is settled: it is complete, or another follows.
abbrev pub IsSettled : List (List Frame) → ℕ → List Frame → Type 0
IsSettled groups place group = (complete group ≡ true) ⊎ (place + 1 < length groups)

-- More frames leave each settled group in its place. Each group begins where it began, so a broken group stays broken
-- at the same line. The number of groups never falls.
pub record CutGrows (ends : EndTest) (fs back : List Frame) : Type 0 where
  pub stays : (place : ℕ) (group : List Frame) → slice_get (cut ends fs) place ≡ Some group
      → IsSettled (cut ends fs) place group → slice_get (cut ends (fs ++ back)) place ≡ Some group
  pub begins : (place : ℕ) (group : List Frame) → slice_get (cut ends fs) place ≡ Some group
      → option_map first (slice_get (cut ends (fs ++ back)) place) ≡ Some (first group)
  pub no_fewer : length (cut ends fs) ≤ length (cut ends (fs ++ back))

-- The results of the lines of `prefix` are settled: whatever follows, they give the same messages and the same broken
-- groups.
pub record HasSettled (window : Window) (kind : ℕ → Option Kind) (prefix back : List Entry) : Type 0 where
  pub messages : (line : ℕ) → 1 ≤ line → line ≤ length prefix
      → message window kind (prefix ++ back) line ≡ message window kind prefix line
  pub broken_groups : (line : ℕ) → line ≤ length prefix
      → broken window kind (prefix ++ back) line ≡ broken window kind prefix line

-- The step from the state of a log is the state of the log with the entry, and has the result of that log's last line.
pub record StepsAgree (id : List ℕ) (window : Window) (kind : ℕ → Option Kind) (es : List Entry) (e : Entry)
    : Type 0 where
  pub after : step_after kind (state id window kind es) e ≡ state id window kind (es ++ e ∷ [])
  pub given : step_given kind (state id window kind es) e ≡ record {
    message = message window kind (es ++ e ∷ []) (length es + 1);
    cause = cause_in kind e;
    broken = broken window kind (es ++ e ∷ []) (length es + 1);
  }

-- With one more entry each earlier line keeps its result.
pub record LinesStay (window : Window) (kind : ℕ → Option Kind) (es : List Entry) (e : Entry) : Type 0 where
  pub messages : (line : ℕ) → 1 ≤ line → line ≤ length es
      → message window kind (es ++ e ∷ []) line ≡ message window kind es line
  pub broken_groups : (line : ℕ) → line ≤ length es
      → broken window kind (es ++ e ∷ []) line ≡ broken window kind es line

-- For a bad entry: with a skipped line in its place, only the count of bad lines changes.
pub record BadAlone (window : Window) (kind : ℕ → Option Kind) (prefix : List Entry) (e : Entry) (back : List Entry)
    : Type 0 where
  pub messages : (line : ℕ)
      → message window kind (prefix ++ e ∷ back) line ≡ message window kind (prefix ++ entries.Skip ∷ back) line
  pub broken_groups : (line : ℕ)
      → broken window kind (prefix ++ e ∷ back) line ≡ broken window kind (prefix ++ entries.Skip ∷ back) line
  pub open_still : open_within window (length (prefix ++ e ∷ back)) (frames kind (prefix ++ e ∷ back))
      ≡ open_within window (length (prefix ++ entries.Skip ∷ back)) (frames kind (prefix ++ entries.Skip ∷ back))
  pub counted : counts window kind (prefix ++ e ∷ back)
      ≡ record (counts window kind (prefix ++ entries.Skip ∷ back)) {
        bad = (counts window kind (prefix ++ entries.Skip ∷ back)).bad + 1;
      }

-- A group that is due may be broken before its line is taken: without it, the step leads to the same state and gives
-- the same except for that group, the first that the line breaks.
pub record ExpiresFirst (kind : ℕ → Option Kind) (s : State) (e : Entry) (group : Group) : Type 0 where
  pub after : step_after kind s e ≡ step_after kind (expired s) e
  pub given : step_given kind s e ≡ record {
    message = (step_given kind (expired s) e).message;
    cause = (step_given kind (expired s) e).cause;
    broken = as_broken group ∷ (step_given kind (expired s) e).broken;
  }
