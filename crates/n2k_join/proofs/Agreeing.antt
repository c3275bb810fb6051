-- The step from a log's state is the state of the longer log.
use Rattle.std.proofs.Common.{◌≡◌, ◌<◌, ◌+◌, ℕ, Bool, true, false, cond, ◌||◌, List, [], ◌∷◌, ◌++◌, length, map, refl, sym, ap, ◌∙◌, subst, arith, Option, Some, None, option_map, option_and_then, option_to_list, filter_map, ◌≤◌, is_some, IfSome, sum_by, count_by, append-nil, length-append}
use Rattle.std.specs.Option.{option_or}
use Rattle.std.specs.List.{AllByRecursion}
use Rattle.std.proofs.lemmas.List.Sums.{sum_by_push}
use Rattle.n2k_wire.specs.declared.entry.Entry.{Entry}
use Rattle.n2k_wire.specs.Packet.{PacketParts}
use Rattle.n2k_table.specs.declared.definition.Kind.{Kind}
use Rattle.n2k_join.specs.declared.step.Broken.{Broken}
use Rattle.n2k_join.specs.Frames.{Key, Frame, of_key, frame_in, frames}
use Rattle.n2k_join.specs.Groups.{within, complete, incomplete}
use Rattle.n2k_join.specs.Open.{Group, group_of, open_groups, is_waiting, waiting, ended, open_within}
use Rattle.n2k_join.specs.Messages.{Keyed, message_of, alone, cause_in, gathered, as_broken, broken_with, message, broken, entry_at, numbers, counts}
use Rattle.n2k_join.specs.State.{Given, state, held_of, step_after, counts_after, one_if, IsOpen, AreOpen}
use Rattle.n2k_join.specs.Laws.{StepsAgree}
use Rattle.n2k_join.specs.Window.{Window, IsWindow}
use Rattle.n2k_join.proofs.Advanced.{of_the_key, advanced}
use Rattle.n2k_join.proofs.BrokenGroups.{told_if, runs_out, breaks, broken-none, broken-last}
use Rattle.n2k_join.proofs.Carried.{carried-push, data_of-same}
use Rattle.n2k_join.proofs.Cuts.{next, so_far, within-ends}
use Rattle.n2k_join.proofs.Held.{carried-kept}
use Rattle.n2k_join.proofs.Given.{completed, keyed, gathered-last, gathered-none, message_by}
use Rattle.n2k_join.proofs.Opened.{IsFine, so_far-fine, numbers_of_key, found-open, open_of-so_far, ends-kept, complete-kept, complete-kept_push}
use Rattle.n2k_join.proofs.Overdue.{told-waiting, told-prefix, runs_out-past, runs_out-now, breaks-past, breaks-now, none-run_out, next-waiting}
use Rattle.n2k_join.proofs.Resumed.{open_groups-open}
use Rattle.n2k_join.proofs.Rising.{range-push, all-map, all-zip}
use Rattle.n2k_join.proofs.Logs.{frames-log, frames-push, entry_at-last, message-before, broken-before, sum_by-range}
use Rattle.n2k_join.proofs.Steps.{StepsTo, only_frame, frame_message, message_alone, step-none, step-frame}
use Rattle.n2k_join.proofs.Windows.{waiting-later, all-waiting, open_within-push, open_within-none, open_within-open}

-- the held frames of the open group of a key
abbrev kept_of : Key → Option (List Frame) → Option (List Frame)
kept_of k s = option_map held_of (option_map (group_of k) (option_and_then incomplete s))

-- the message of a group, if it is complete
abbrev message_from : Frame → List Frame → Option PacketParts
message_from x g = option_map (message_of x) (cond (complete g) (Some g) None)

module _ (w : Window) (some : 0 < w.lines) where
  message-joined : (x : Frame) (g : List Frame) → IsFine g → message_from x (g ++ x ∷ []) ≡ message_from x (held_of (group_of x.key g) ++ x ∷ [])
  message-joined x g fine = grind (arith, carried-kept x.key g fine.numbers, message_by x (complete (g ++ x ∷ [])) (g ++ x ∷ []), data_of-same ((held_of (group_of x.key g)) ++ x ∷ []) (g ++ x ∷ []) (carried-push (held_of (group_of x.key g)) g x (carried-kept x.key g fine.numbers)), carried-push (held_of (group_of x.key g)) g x (carried-kept x.key g fine.numbers), complete-kept_push x.key g x fine)

  next-open : (x : Frame) (g : List Frame) (e : Bool) → complete g ≡ false → within w g x ≡ e → next (within w) (Some g) x ≡ cond e (x ∷ []) (g ++ x ∷ [])
  next-open x g e c t = ap (λ b. cond (b || within w g x) (x ∷ []) (g ++ x ∷ [])) c ∙ ap (λ e. cond e (x ∷ []) (g ++ x ∷ [])) t

  gives-kept_open : (x : Frame) (g : List Frame) (e : Bool) → IsFine g → complete g ≡ false → within w g x ≡ e
      → option_map (message_of x) (completed (within w) (Some g) x) ≡ option_map (message_of x) (completed (within w) (Some (held_of (group_of x.key g))) x)
  gives-kept_open x g e fine c t =
      let h = held_of (group_of x.key g) in
      let c' = complete-kept x.key g fine ∙ c in
      let t' = ends-kept (within w) (within-ends w some) x.key g x fine ∙ t in
      ap (message_from x) (next-open x g e c t) ∙ joins e ∙ sym (ap (message_from x) (next-open x h e c' t'))
    where
      joins : (e : Bool) → message_from x (cond e (x ∷ []) (g ++ x ∷ [])) ≡ message_from x (cond e (x ∷ []) (held_of (group_of x.key g) ++ x ∷ []))
      joins e = grind (arith, message-joined)

  -- a frame gives the same message with a key's group so far and with its held frames
  gives-kept : (x : Frame) (s : Option (List Frame)) → IfSome s IsFine → option_map (message_of x) (completed (within w) s x) ≡ option_map (message_of x) (completed (within w) (kept_of x.key s) x)
  gives-kept x s fine = grind (arith, gives-kept_open)

-- ---- the result of the last line of a log

module _ (w : Window) (some : 0 < w.lines) (kind : ℕ → Option Kind) (es : List Entry) (e : Entry) where
  -- the result of the longer log's last line
  abbrev pub last_given : Given
  last_given = record { message = message w kind (es ++ e ∷ []) (length es + 1); cause = cause_in kind e; broken = broken w kind (es ++ e ∷ []) (length es + 1) }

  -- the open groups of the log, and the groups of them that wait at the next line
  abbrev pub log_groups : List Group
  log_groups = open_within w (length es) (frames kind es)

  abbrev pub log_kept : List Group
  log_kept = waiting w (length es + 1) log_groups

  given_of : Option Keyed → Option PacketParts → List Broken → Given
  given_of m a b = record { message = option_or (option_map (λ (m : Keyed). m.message) m) a; cause = cause_in kind e; broken = b }

  last-alone : option_and_then (alone kind) (entry_at (es ++ e ∷ []) (length es + 1)) ≡ alone kind e
  last-alone = ap (option_and_then (alone kind)) (entry_at-last es e)

  log-open : AreOpen (length es) log_groups
  log-open = open_within-open w (length es) some (frames kind es) (frames-log kind es)

  log-wait : AllByRecursion (λ (g : Group). is_waiting w (length es) g ≡ true) log_groups
  log-wait = all-waiting w (length es) (open_groups (within w) (length es) (frames kind es))

  -- the result of a last line without a frame
  last-none : frame_in kind (length es + 1) e ≡ None → last_given ≡ record { message = alone kind e; cause = cause_in kind e; broken = map as_broken (ended w (length es + 1) log_groups) }
  unfolding given_of
  last-none none =
      let log = frames-log kind es in
      let n = length es in
      let fs : frames kind (es ++ e ∷ []) ≡ frames kind es = frames-push kind es e ∙ ap (λ o. frames kind es ++ option_to_list o) none ∙ append-nil (frames kind es) in
      let t = runs_out w some (n + 1) in
      λ i. given_of
      ((ap (λ fs. gathered (within w) fs (n + 1)) fs ∙ gathered-none (within w) n (n + 1) (frames kind es) log (omega arith)) i)
      (last-alone i)
      ((ap (λ fs. broken_with w fs (n + 1)) fs ∙ broken-none w some n (frames kind es) log
      ∙ told-waiting w some n t (open_groups (within w) n (frames kind es)) (λ o past. runs_out-past w some n o past)
      ∙ told-prefix w some n 1 t log_groups (all-map (λ (g : Group). is_waiting w n g ≡ true) (λ (g : Group). is_waiting w (n + 1) g ≡ false → t g ≡ true) log_groups (λ o now next. runs_out-now w some n o now next) log-wait) log-open.rise
      ∙ ap (λ bs. map as_broken (ended w (n + 1) log_groups) ++ bs) (none-run_out w some (n + 1) log_kept (all-waiting w (n + 1) log_groups))
      ∙ append-nil (map as_broken (ended w (n + 1) log_groups))) i)

  groups-none : frame_in kind (length es + 1) e ≡ None → open_within w (length (es ++ e ∷ [])) (frames kind (es ++ e ∷ [])) ≡ log_kept
  groups-none none = grind (arith, length-append, frames-push, append-nil, open_within-none, frames-log)

  -- the result of a last line with a frame
  last-frame : (x : Frame) → frame_in kind (length es + 1) e ≡ Some x
      → last_given ≡ record { message = frame_message w x log_kept; cause = None; broken = map as_broken (ended w (length es + 1) log_groups) ++ filter_map (told_if w some (breaks w some x)) log_kept }
  unfolding given_of
  last-frame x found =
      let log = frames-log kind es in
      let n = length es in
      let only = only_frame kind (n + 1) e x found in
      let s = so_far (within w) (of_key x.key (frames kind es)) in
      let all = open_groups (within w) n (frames kind es) in
      let opens : AreOpen n all = open_groups-open (within w) (within-ends w some) n (frames kind es) log in
      let fs : frames kind (es ++ e ∷ []) ≡ frames kind es ++ x ∷ [] = frames-push kind es e ∙ ap (λ o. frames kind es ++ option_to_list o) found in
      let past : n < x.line = omega (arith, only.line) in
      let kept_is : option_map (group_of x.key) (option_and_then incomplete s) ≡ of_the_key x.key all =
      sym (found-open (within w) (within-ends w some) n x.key (frames kind es) log ∙ ap (option_map (group_of x.key)) (open_of-so_far (within w) (within-ends w some) x.key (frames kind es))) in
      let like = gives-kept w some x s (so_far-fine (within w) (within-ends w some) (of_key x.key (frames kind es)) (numbers_of_key x.key (frames kind es) log.numbers)) in
      let gathered_is : gathered (within w) (frames kind (es ++ e ∷ [])) (n + 1) ≡ option_map (keyed (within w) x) (completed (within w) s x) =
      ap (λ fs. gathered (within w) fs (n + 1)) fs ∙ ap (gathered (within w) (frames kind es ++ x ∷ [])) (sym only.line) ∙ gathered-last (within w) n (frames kind es) x log past in
      let message_is : option_map (message_of x) (completed (within w) s x) ≡ frame_message w x log_kept =
      like ∙ ap (λ q. option_map (message_of x) (completed (within w) (option_map held_of q) x)) kept_is
      ∙ ap (message_from x) (next-waiting w some x all opens.each opens.apart)
      ∙ ap (λ l. frame_message w x (waiting w l all)) only.line
      ∙ ap (frame_message w x) (sym (waiting-later w n all)) in
      let t = breaks w some x in
      let broken_is : broken_with w (frames kind (es ++ e ∷ [])) (n + 1) ≡ map as_broken (ended w (n + 1) log_groups) ++ filter_map (told_if w some t) log_kept =
      ap (λ fs. broken_with w fs (n + 1)) fs ∙ broken-last w some n (frames kind es) x log only.line
      ∙ told-waiting w some n t all (λ o p. breaks-past w some n x o only.line p)
      ∙ told-prefix w some n 1 t log_groups
      (all-map (λ (g : Group). IsOpen g × (is_waiting w n g ≡ true)) (λ (g : Group). is_waiting w (n + 1) g ≡ false → t g ≡ true) log_groups (λ o h next. breaks-now w some n x o only.line h.0 h.1 next) (all-zip IsOpen (λ (g : Group). is_waiting w n g ≡ true) log_groups log-open.each log-wait))
      log-open.rise in
      (λ i. given_of (gathered_is i) ((last-alone ∙ only.alone) i) (broken_is i))
      ∙ (λ i. record { message = (message_alone w x (completed (within w) s x) ∙ message_is) i; cause = only.cause i; broken = map as_broken (ended w (n + 1) log_groups) ++ filter_map (told_if w some t) log_kept })

  groups-frame : (x : Frame) → frame_in kind (length es + 1) e ≡ Some x → open_within w (length (es ++ e ∷ [])) (frames kind (es ++ e ∷ [])) ≡ advanced (within w) log_kept x
  groups-frame x found = grind (arith, length-append, frames-push, open_within-push, frames-log, only_frame)

  -- ---- the counts

  -- a sum over the lines of the longer log, of values that earlier lines keep
  lines-push : (f g : ℕ → ℕ) → ((i : ℕ) → 1 ≤ i → i ≤ length es → f i ≡ g i)
      → sum_by f (numbers (es ++ e ∷ [])) ≡ sum_by g (numbers es) + f (length es + 1)
  lines-push f g same = grind (arith, length-append, range-push, sum_by_push, sum_by-range)

  one_is : (b : Bool) → cond b 1 0 ≡ one_if b
  one_is b = grind arith

  messages-push : count_by (λ i. is_some (message w kind (es ++ e ∷ []) i)) (numbers (es ++ e ∷ [])) ≡ count_by (λ i. is_some (message w kind es i)) (numbers es) + one_if (is_some (message w kind (es ++ e ∷ []) (length es + 1)))
  messages-push = grind (arith, lines-push, message-before)

  broken-push : sum_by (λ i. length (broken w kind (es ++ e ∷ []) i)) (numbers (es ++ e ∷ [])) ≡ sum_by (λ i. length (broken w kind es i)) (numbers es) + length (broken w kind (es ++ e ∷ []) (length es + 1))
  broken-push = grind (arith, lines-push, broken-before)

  one_more : (p : Entry → Bool) → count_by p (es ++ e ∷ []) ≡ count_by p es + one_if (p e)
  one_more p = sum_by_push (λ x. cond (p x) 1 0) es e ∙ ap (λ n. count_by p es + n) (one_is (p e))

  pub counts-push : counts w kind (es ++ e ∷ []) ≡ counts_after kind (counts w kind es) e last_given (length (open_within w (length (es ++ e ∷ [])) (frames kind (es ++ e ∷ []))))
  counts-push = grind (arith, length-append, messages-push, one_more, broken-push)

  module _ (id : List ℕ) where
    -- the step in terms of the longer log
    agrees : (gives : Given) (leaves : List Group) → StepsTo kind (state id w kind es) e gives leaves → last_given ≡ gives → open_within w (length (es ++ e ∷ [])) (frames kind (es ++ e ∷ [])) ≡ leaves → StepsTo kind (state id w kind es) e last_given (open_within w (length (es ++ e ∷ [])) (frames kind (es ++ e ∷ [])))
    agrees gives leaves steps g h = subst (λ gs. StepsTo kind (state id w kind es) e last_given gs) (sym h) (subst (λ g. StepsTo kind (state id w kind es) e g leaves) (sym g) steps)

    pub steps_to_longer : StepsTo kind (state id w kind es) e last_given (open_within w (length (es ++ e ∷ [])) (frames kind (es ++ e ∷ [])))
    steps_to_longer = by (frame_in kind (length es + 1) e) refl
      where
        by : (o : Option Frame) → frame_in kind (length es + 1) e ≡ o → StepsTo kind (state id w kind es) e last_given (open_within w (length (es ++ e ∷ [])) (frames kind (es ++ e ∷ [])))
        by None none = agrees _ _ (step-none kind (state id w kind es) e some log-open none) (last-none none) (groups-none none)
        by (Some x) is = agrees _ _ (step-frame kind (state id w kind es) e some log-open x is) (last-frame x is) (groups-frame x is)

    pub after_longer : step_after kind (state id w kind es) e ≡ state id w kind (es ++ e ∷ [])
    after_longer = steps_to_longer.after ∙ (λ i. record { id = id; window = w; counts = sym counts-push i; groups = open_within w (length (es ++ e ∷ [])) (frames kind (es ++ e ∷ [])) })

pub steps_agree : (id : List ℕ) (w : Window) (kind : ℕ → Option Kind) (es : List Entry) (e : Entry) → IsWindow w.lines → StepsAgree id w kind es e
steps_agree id w kind es e is =
    let some : 0 < w.lines = omega (arith, is.least) in
    record { after = after_longer w some kind es e id; given = (steps_to_longer w some kind es e id).given }
