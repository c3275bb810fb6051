-- The step leads from a state that a join can have to another.
use Rattle.std.proofs.Common.{◌≡◌, ◌≤◌, ◌<◌, ◌+◌, ◌%◌, ℕ, suc, zero, Bool, true, List, [], ◌∷◌, ◌++◌, length, map, refl, sym, ap, subst, arith, append_assoc, Option, Some, None, option_to_list, drop, ◌-◌, filter_map, ◌⊎◌, inl, inr, is_some, slice_index_or, slice_index}
use Rattle.std.specs.List.{range_with_len, AllByRecursion}
use Rattle.std.proofs.lemmas.List.{append-nil, length-append, length-map}
use Rattle.std.proofs.lemmas.Bool.{eqb-true, eq-eqb, leb-true, ltb-true, not-true, or_cases, cases_lt, false≢true}
use Rattle.std.proofs.lemmas.Option.{none-some}
use Rattle.n2k_wire.specs.declared.entry.Entry.{Entry}
use Rattle.n2k_wire.specs.Entry.{IsEntry}
use Rattle.n2k_wire.specs.Packet.{PacketParts, IsPacketParts, longest_message}
use Rattle.n2k_table.specs.declared.definition.Kind.{Kind}
use Rattle.n2k_table.specs.declared.definition.Kind.TheVariants.{Fast}
use Rattle.n2k_join.specs.Counts.{most_lines}
use Rattle.n2k_join.specs.Frames.{Key, Frame, most_frames, filler, is_fast_payload, frame_with, frame_in}
use Rattle.n2k_join.specs.Groups.{EndTest, within, carried}
use Rattle.n2k_join.specs.Open.{Piece, Group, piece_at, pieces_of, begun_at, open_groups, is_waiting, waiting, ended}
use Rattle.n2k_join.specs.Messages.{alone, cause_in, as_broken, is_unknown}
use Rattle.n2k_join.specs.State.{State, state, Given, held_of, held, next_line, overdue, step_frames, step_given, step_groups, step_after, one_if, IsKey, IsPiece, HasParts, Rise, AreOpen, IsState, AreFast, AreWaiting}
use Rattle.n2k_join.specs.Window.{Window, IsWindow}
use Rattle.n2k_join.proofs.BrokenGroups.{told_if, breaks}
use Rattle.n2k_join.proofs.Cuts.{IsEnding, so_far, within-ends}
use Rattle.n2k_join.proofs.Lines.{frame_in-line, frame_of_packet}
use Rattle.n2k_join.proofs.Logs.{frame_in-number}
use Rattle.n2k_join.proofs.Opened.{IsLog, key_at, at_line, at_last, begun_group, begun_all}
use Rattle.n2k_join.proofs.Overdue.{ended-counted, advanced-counted}
use Rattle.n2k_join.proofs.Resumed.{held_of-all, held_of-any, held-log}
use Rattle.n2k_join.proofs.Agreeing.{after_longer}
use Rattle.n2k_join.proofs.Steps.{StepsTo, kept, frame_message, only_frame, kept-open, kept-wait, step-none, step-frame}
use Rattle.n2k_join.proofs.Rising.{all-map, all-append, all-zip, all-flat_map, all-range, all-filter_map, option_map_some, rise-few, all-option}
use Rattle.n2k_join.proofs.Windows.{all-filter, all-waiting, open_within-open}

-- the limits of a frame's parts in the program's packets
pub record IsFramePart (f : Frame) : Type 0 where
  pub key : IsKey f.key
  pub piece : IsPiece (record { number = f.number; bytes = f.bytes })

-- ---- frames of entries

abbrev pub AreBytes : List ℕ → Type 0
AreBytes xs = (i : ℕ) → slice_index xs i < 256

pub filled : (xs : List ℕ) (j : ℕ) → AreBytes xs → slice_index_or xs j filler < 256
filled [] j bytes = omega arith
filled (x ∷ xs) zero bytes = bytes 0
filled (x ∷ xs) (suc j) bytes = filled xs j (λ i. bytes (suc i))

total_is : (header : ℕ) (rest : List ℕ) → is_fast_payload (header ∷ rest) ≡ true → header % 32 ≡ 0 → slice_index_or rest 0 filler ≤ longest_message
total_is header rest fast zero_is = grind (arith, or_cases, false≢true, leb-true, not-true, eq-eqb)

frame_part : (line : ℕ) (packet : PacketParts) (header : ℕ) (rest : List ℕ) → IsPacketParts packet → packet.payload ≡ header ∷ rest → is_fast_payload (header ∷ rest) ≡ true → IsFramePart (frame_with line packet header rest)
frame_part line packet header rest parts is fast =
    let bytes : AreBytes (header ∷ rest) = subst AreBytes is parts.bytes_ok in
    let small : header < 256 = bytes 0 in
    let rest_bytes : AreBytes rest = λ i. bytes (suc i) in
    record {
      key = record { src = omega (arith, parts.src_ok); dst = omega (arith, parts.dst_ok); pgn = omega (arith, parts.packet_ok.pgn_ok); sequence = omega arith };
      piece = record {
        seven = refl;
        are_bytes = (filled rest 0 rest_bytes, (filled rest 1 rest_bytes, (filled rest 2 rest_bytes, (filled rest 3 rest_bytes, (filled rest 4 rest_bytes, (filled rest 5 rest_bytes, (filled rest 6 rest_bytes, tt)))))));
        total = λ z. total_is header rest fast z;
      };
    }

pub frame_in-part : (kind : ℕ → Option Kind) (line : ℕ) (e : Entry) (x : Frame) → IsEntry e → frame_in kind line e ≡ Some x → IsFramePart x
frame_in-part kind line e x valid is =
    let of = frame_of_packet kind line e x is in
    subst IsFramePart of.is (by of.packet (subst IsEntry of.entry valid).0 of.packet.payload refl of.fits)
  where
    by : (p : PacketParts) → IsPacketParts p → (payload : List ℕ) → p.payload ≡ payload → is_fast_payload payload ≡ true
        → IsFramePart (frame_with line p (slice_index_or payload 0 0) (drop 1 payload))
    by p parts [] at fast = absurd (false≢true fast)
    by p parts (header ∷ rest) at fast = frame_part line p header rest parts at fast

-- frames that are held of groups
pub held-parts : (gs : List Group) → AllByRecursion HasParts gs → AllByRecursion IsFramePart (held gs)
held-parts gs all = all-flat_map IsFramePart held_of gs (all-map HasParts (λ (g : Group). AllByRecursion IsFramePart (held_of g)) gs (λ g parts. held_of-all IsFramePart IsPiece g (λ p is. record { key = parts.key; piece = is }) parts.pieces) all)

-- ---- groups of frames

carried-part : (fs : List Frame) (n : ℕ) (b : List ℕ) → AllByRecursion IsFramePart fs → carried fs n ≡ Some b → IsPiece (record { number = n; bytes = b })
carried-part [] n b all is = absurd (none-some b is)
carried-part (f ∷ fs) n b all is = grind (arith, carried-part fs n b all.1, eqb-true)

pieces-parts : (fs : List Frame) → AllByRecursion IsFramePart fs → AllByRecursion IsPiece (pieces_of fs)
unfolding pieces_of
pieces-parts fs all = all-filter_map IsPiece (piece_at (carried fs)) (range_with_len 0 most_frames) each
  where
    each : (n : ℕ) (p : Piece) → piece_at (carried fs) n ≡ Some p → IsPiece p
    each n p is =
        option_map_some (λ (bytes : List ℕ). let p : Piece = record { number = n; bytes = bytes } in p)
        (carried fs n) p is (λ b there same. subst IsPiece same (carried-part fs n b all there))

-- a property of the keys of a group's frames holds of its key
key_part : (P : Key → Type 0) (k : Key) (g : List Frame) → AllByRecursion (λ (f : Frame). P f.key × (f.key ≡ k)) g → 0 < length g → P k
key_part P k [] all some = absurd (omega (arith, some))
key_part P k (f ∷ g) all some = subst P all.0.1 all.0.0

module _ (ends : EndTest) (is_ending : IsEnding ends) where
  begun_at-parts : (fs : List Frame) (i : ℕ) (o : Group) → AllByRecursion IsFramePart fs → begun_at ends fs i ≡ Some o → HasParts o
  begun_at-parts fs i o parts is =
      let begun = begun_group ends is_ending fs i o is in
      let g = begun.group in
      let all = begun_all ends is_ending IsFramePart fs o begun parts in
      let keys = all-map _ (λ (f : Frame). IsKey f.key × (f.key ≡ o.key)) g (λ f p. (p.0.key, p.1)) all in
      subst HasParts begun.is (record {
        key = key_part IsKey o.key g keys begun.nonempty;
        pieces = pieces-parts g (all-map _ IsFramePart g (λ f p. p.0) all);
      })

  pub open_groups-parts : (n : ℕ) (fs : List Frame) → AllByRecursion IsFramePart fs → AllByRecursion HasParts (open_groups ends n fs)
  unfolding open_groups
  open_groups-parts n fs parts = all-range HasParts (begun_at ends fs) 1 n (λ i o l u is. begun_at-parts fs i o parts is)

  -- a property of the key of each frame holds of the keys of the open groups
  begun_at-key_part : (P : Key → Type 0) (fs : List Frame) (i : ℕ) (o : Group) → AllByRecursion (λ (f : Frame). P f.key) fs → begun_at ends fs i ≡ Some o → P o.key
  begun_at-key_part P fs i o all is =
      let begun = begun_group ends is_ending fs i o is in
      key_part P o.key begun.group (begun_all ends is_ending (λ (f : Frame). P f.key) fs o begun all) begun.nonempty

  pub open_groups-keys : (P : Key → Type 0) (n : ℕ) (fs : List Frame) → AllByRecursion (λ (f : Frame). P f.key) fs → AllByRecursion (λ (g : Group). P g.key) (open_groups ends n fs)
  unfolding open_groups
  open_groups-keys P n fs all = all-range (λ (g : Group). P g.key) (begun_at ends fs) 1 n (λ i o l u is. begun_at-key_part P fs i o all is)

-- the frame of an entry is of a fast PGN
frame_in-fast : (kind : ℕ → Option Kind) (line : ℕ) (e : Entry) (x : Frame) → frame_in kind line e ≡ Some x → kind x.key.pgn ≡ Some Fast
frame_in-fast kind line e x is = grind (arith, frame_of_packet kind line e x is)

-- ---- a log with one frame more

log-wider : (n : ℕ) (fs : List Frame) → IsLog n fs → IsLog (n + 1) fs
log-wider n fs log = grind (arith, all-map)

log-push : (n : ℕ) (fs : List Frame) (x : Frame) → IsLog n fs → x.line ≡ n + 1 → x.number < most_frames → IsLog (n + 1) (fs ++ x ∷ [])
log-push n fs x log at number = grind (arith, all-zip (λ (f : Frame). (1 ≤ f.line) × (f.line ≤ n)) (λ (f : Frame). key_at f.line fs ≡ Some f.key) fs log.lines log.keys, at_last n fs x log (omega (arith, at)), all-append, all-map, at_line)

-- ---- the step

step-log : (kind : ℕ → Option Kind) (s : State) (e : Entry) → 0 < s.window.lines → AreOpen s.counts.lines s.groups → IsLog (next_line s) (step_frames kind s e)
step-log kind s e some are = grind (arith, held-log, kept-open kind s e some are, append-nil, log-wider, log-push, frame_in-line, frame_in-number)

-- after a line the open groups can be open
pub step-groups_open : (kind : ℕ → Option Kind) (s : State) (e : Entry) → 0 < s.window.lines → AreOpen s.counts.lines s.groups → AreOpen (next_line s) (step_groups kind s e)
step-groups_open kind s e some are = open_within-open s.window (next_line s) some (step_frames kind s e) (step-log kind s e some are)

-- a line gives at most one of a message, a cause and an unknown PGN
one_of : (kind : ℕ → Option Kind) (e : Entry) → one_if (is_some (alone kind e)) + one_if (is_some (cause_in kind e)) + one_if (is_unknown kind e) ≤ 1
one_of kind e = grind arith

one-le : (b : Bool) → one_if b ≤ 1
one-le b = grind arith

-- The result of a line, in numbers: at most one of a message, a cause and an unknown PGN; the broken and the remaining
-- groups are at most one more than the groups before.
pub record GivesOnce (kind : ℕ → Option Kind) (s : State) (e : Entry) (gives : Given) (leaves : List Group) : Type 0 where
  pub one : one_if (is_some gives.message) + one_if (is_some gives.cause) + one_if (is_unknown kind e) ≤ 1
  pub groups : length gives.broken + length leaves ≤ length s.groups + 1

module _ (kind : ℕ → Option Kind) (s : State) (e : Entry) (is : IsState s) where
  window-some : 0 < s.window.lines
  window-some = omega (arith, is.window.least)

  step-open : AreOpen s.counts.lines (kept s)
  step-open = kept-open kind s e window-some is.groups

  kept-parts : AllByRecursion HasParts (kept s)
  unfolding waiting
  kept-parts = all-filter HasParts (is_waiting s.window (next_line s)) s.groups is.parts

  step-parts : IsEntry e → AllByRecursion IsFramePart (step_frames kind s e)
  step-parts valid =
      all-append IsFramePart (held (kept s)) (option_to_list (frame_in kind (next_line s) e))
      (held-parts (kept s) kept-parts)
      (all-option IsFramePart (frame_in kind (next_line s) e) (λ x. frame_in-part kind (next_line s) e x valid))

  pub step-once : GivesOnce kind s e (step_given kind s e) (step_groups kind s e)
  unfolding step_after
  step-once = by (frame_in kind (next_line s) e) refl
    where
      split : length (ended s.window (next_line s) s.groups) + length (kept s) ≡ length s.groups
      split = ended-counted s.window window-some (next_line s) s.groups

      both : (gives : Given) (leaves : List Group) → StepsTo kind s e gives leaves → GivesOnce kind s e gives leaves → GivesOnce kind s e (step_given kind s e) (step_groups kind s e)
      both gives leaves steps once = subst (λ gs. GivesOnce kind s e (step_given kind s e) gs) (ap (λ (t : State). t.groups) (sym steps.after)) (subst (λ g. GivesOnce kind s e g leaves) (sym steps.given) once)

      by : (o : Option Frame) → frame_in kind (next_line s) e ≡ o → GivesOnce kind s e (step_given kind s e) (step_groups kind s e)
      by None none = both _ _ (step-none kind s e window-some is.groups none) (record {
        one = one_of kind e;
        groups = omega (arith, split, length-map (overdue s) as_broken);
      })
      by (Some x) found = both _ _ (step-frame kind s e window-some is.groups x found) (record {
        one =
            let message = one-le (is_some (frame_message s.window x (kept s))) in
            let unknown : one_if (is_unknown kind e) ≡ 0 = ap one_if (only_frame kind (next_line s) e x found).known in
            omega (arith, message, unknown);
        groups =
            let wait : AllByRecursion (λ (g : Group). is_waiting s.window x.line g ≡ true) (kept s) = subst (λ l. AllByRecursion (λ (g : Group). is_waiting s.window l g ≡ true) (kept s)) (sym (only_frame kind (next_line s) e x found).line) (kept-wait kind s e window-some is.groups) in
            omega (arith, split, length-map (overdue s) as_broken, advanced-counted s.window window-some x (kept s) step-open.each wait, length-append (map as_broken (overdue s)) (filter_map (told_if s.window window-some (breaks s.window window-some x)) (kept s)));
      })

  -- after one more line the state is again one that a join can have
  pub step-keeps : IsEntry e → s.counts.lines < most_lines → IsState (step_after kind s e)
  unfolding step_after waiting
  step-keeps valid below = grind (arith, step-once, step-groups_open kind s e window-some is.groups, all-filter, open_groups-parts, within-ends, step-parts)

-- after one more line, no group's window has ended
pub step-waits : (kind : ℕ → Option Kind) (s : State) (e : Entry) → AreWaiting (step_after kind s e)
unfolding step_after
step-waits kind s e =
    all-map (λ (g : Group). is_waiting s.window (next_line s) g ≡ true) (λ (g : Group). next_line s < g.first + s.window.lines) (step_groups kind s e) (λ g w. ltb-true (next_line s) (g.first + s.window.lines) w)
    (all-waiting s.window (next_line s) (open_groups (within s.window) (next_line s) (step_frames kind s e)))

-- ---- how many groups are open

-- If no group's window has ended, at most as many groups are open as the window has lines: each began at its own line.
pub few-open : (s : State) → IsState s → AreWaiting s → length s.groups ≤ s.window.lines
few-open s is wait = by (cases_lt s.counts.lines s.window.lines)
  where
    starts : (a b : ℕ) (gs : List Group) → Rise (λ (g : Group). g.first) b gs → AllByRecursion (λ (g : Group). a ≤ g.first) gs → Rise (λ (g : Group). g.first) a gs
    starts a b [] r all = tt
    starts a b (g ∷ gs) r all = (all.0, r.1)

    by : (s.counts.lines < s.window.lines) ⊎ (s.window.lines ≤ s.counts.lines) → length s.groups ≤ s.window.lines
    by (inl l) =
        rise-few (λ (g : Group). g.first) 1 s.window.lines s.groups is.groups.rise
        (all-map (λ (g : Group). g.first ≤ s.counts.lines) (λ (g : Group). g.first < 1 + s.window.lines) s.groups (λ g u. omega (arith, u, l)) is.groups.begun)
    by (inr l) =
        let least = s.counts.lines - s.window.lines + 1 in
        rise-few (λ (g : Group). g.first) least s.window.lines s.groups (starts least 1 s.groups is.groups.rise (all-map (λ (g : Group). s.counts.lines < g.first + s.window.lines) (λ (g : Group). least ≤ g.first) s.groups (λ g u. omega (arith, u, l)) wait))
        (all-map (λ (g : Group). g.first ≤ s.counts.lines) (λ (g : Group). g.first < least + s.window.lines) s.groups (λ g u. omega (arith, u, l)) is.groups.begun)

-- before the first line
pub state-new : (id : List ℕ) (w : Window) (kind : ℕ → Option Kind) → IsWindow w.lines → IsState (state id w kind [])
unfolding open_groups waiting
state-new id w kind is = grind arith

-- groups remain of fast PGNs
pub step-fast : (kind : ℕ → Option Kind) (s : State) (e : Entry) → 0 < s.window.lines → AreFast kind s.groups → AreFast kind (step_after kind s e).groups
unfolding step_after waiting
step-fast kind s e some fast =
    all-filter (λ (g : Group). kind g.key.pgn ≡ Some Fast) (is_waiting s.window (next_line s)) (open_groups (within s.window) (next_line s) (step_frames kind s e))
    (open_groups-keys (within s.window) (within-ends s.window some) (λ (k : Key). kind k.pgn ≡ Some Fast) (next_line s) (step_frames kind s e)
    (all-append (λ (f : Frame). kind f.key.pgn ≡ Some Fast) (held (kept s)) (option_to_list (frame_in kind (next_line s) e))
    (all-flat_map (λ (f : Frame). kind f.key.pgn ≡ Some Fast) held_of (kept s) (all-map (λ (g : Group). kind g.key.pgn ≡ Some Fast) (λ (g : Group). AllByRecursion (λ (f : Frame). kind f.key.pgn ≡ Some Fast) (held_of g)) (kept s) (λ g k. held_of-any (λ (f : Frame). kind f.key.pgn ≡ Some Fast) g (λ p. k))
    (all-filter (λ (g : Group). kind g.key.pgn ≡ Some Fast) (is_waiting s.window (next_line s)) s.groups fast)))
    (all-option (λ (f : Frame). kind f.key.pgn ≡ Some Fast) (frame_in kind (next_line s) e)
    (frame_in-fast kind (next_line s) e))))

-- ---- the states of logs

-- the state of a log is one that a join can have, and its groups are of fast PGNs and wait
pub record IsLogState (kind : ℕ → Option Kind) (s : State) : Type 0 where
  pub valid : IsState s
  pub fast : AreFast kind s.groups
  pub waits : AreWaiting s

state-from : (id : List ℕ) (w : Window) (kind : ℕ → Option Kind) (prefix es : List Entry) → 0 < w.lines → IsLogState kind (state id w kind prefix) → AllByRecursion IsEntry es → length prefix + length es ≤ most_lines → IsLogState kind (state id w kind (prefix ++ es))
state-from id w kind prefix [] some so_far entries_valid few = subst (λ es. IsLogState kind (state id w kind es)) (sym (append-nil prefix)) so_far
state-from id w kind prefix (e ∷ es) some so_far entries_valid few =
    let next : IsLogState kind (state id w kind (prefix ++ e ∷ [])) = subst (IsLogState kind) (after_longer w some kind prefix e id) (record {
      valid = step-keeps kind (state id w kind prefix) e so_far.valid entries_valid.0 (omega (arith, few));
      fast = step-fast kind (state id w kind prefix) e some so_far.fast;
      waits = step-waits kind (state id w kind prefix) e;
    }) in
    subst (λ es. IsLogState kind (state id w kind es)) (append_assoc prefix (e ∷ []) es) (state-from id w kind (prefix ++ e ∷ []) es some next entries_valid.1 (omega (arith, few, length-append prefix (e ∷ []))))

pub state-valid : (id : List ℕ) (w : Window) (kind : ℕ → Option Kind) (es : List Entry) → IsWindow w.lines → AllByRecursion IsEntry es → length es ≤ most_lines → IsLogState kind (state id w kind es)
unfolding open_groups waiting
state-valid id w kind es is entries_valid few =
    state-from id w kind [] es (omega (arith, is.least)) (record { valid = state-new id w kind is; fast = tt; waits = tt }) entries_valid (omega (arith, few))
