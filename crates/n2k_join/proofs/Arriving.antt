-- Scattered frames arrive whole.
use Rattle.std.proofs.Common.{arith, ◌≡◌, ◌<◌, ◌+◌, ℕ, true, List, [], ◌∷◌, refl, ap, subst, ◌∙◌, Option, Some, None, find, option_map, option_and_then}
use Rattle.std.specs.Option.{option_or}
use Rattle.std.specs.List.{AllByRecursion, AllZip, last_or}
use Rattle.std.proofs.lemmas.List.Elements.{recursion_from_All}
use Rattle.n2k_wire.specs.Packet.{PacketParts}
use Rattle.n2k_wire.specs.declared.entry.Entry.{Entry}
use Rattle.n2k_table.specs.declared.definition.Kind.{Kind}
use Rattle.n2k_join.specs.Frames.{Key, same_key, Frame, frames, of_key, frame_at}
use Rattle.n2k_join.specs.Groups.{EndTest, within, first, complete, cut, last_line, data_of, incomplete}
use Rattle.n2k_join.specs.Messages.{Keyed, message_of, is_done_at, gathered, alone, entry_at, broken_among, broken_with}
use Rattle.n2k_join.specs.Open.{begun_at, open_groups, waiting, open_within}
use Rattle.n2k_join.specs.Pieces.{Sending, last_piece}
use Rattle.n2k_join.specs.Scattered.{all_frames, IsPieceOf, IsStretchOf, IsStretchWithin, FallInto, sendings_of, IsScattered}
use Rattle.n2k_join.specs.Arrival.{Brings, ArriveWhole}
use Rattle.n2k_join.proofs.Keys.{of_key-keeps}
use Rattle.n2k_join.proofs.PieceFrames.{piece_says}
use Rattle.n2k_join.proofs.WholePieces.{data_pieces}
use Rattle.n2k_join.proofs.Stretches.{IsStretch, cut_stretches, GoesOn, goes_on-within, stretch_pieces}
use Rattle.n2k_join.proofs.Lines.{RiseFrom, frames-rise, line_of}
use Rattle.n2k_join.proofs.GroupLines.{IsGroup, IsDone, LastFrame, last_frame, done_found}
use Rattle.n2k_join.specs.Window.{Window}
use Rattle.n2k_join.proofs.Rising.{filter_map-none, all-map, all-zip, all-joined, rise-filter, look-all, all_with}
use Rattle.n2k_join.proofs.Held.{all-any}

-- a property of the second list that R gives
pub zip-all : {X Y : Type 0} (R : X → Y → Type 0) (Q : Y → Type 0) → ((x : X) (y : Y) → R x y → Q y) → (xs : List X) (ys : List Y) → AllZip R xs ys → AllByRecursion Q ys
zip-all R Q h [] [] each = tt
zip-all R Q h [] (y ∷ ys) each = absurd each
zip-all R Q h (x ∷ xs) [] each = absurd each
zip-all R Q h (x ∷ xs) (y ∷ ys) each = (h x y each.0, zip-all R Q h xs ys each.1)

zip-with : {X Y : Type 0} (R S : X → Y → Type 0) (Q : Y → Type 0) → ((x : X) (y : Y) → R x y → Q y → S x y) → (xs : List X) (ys : List Y) → AllZip R xs ys → AllByRecursion Q ys → AllZip S xs ys
zip-with R S Q h [] [] each all = tt
zip-with R S Q h [] (y ∷ ys) each all = absurd each
zip-with R S Q h (x ∷ xs) [] each all = absurd each
zip-with R S Q h (x ∷ xs) (y ∷ ys) each all = (h x y each.0 all.0, zip-with R S Q h xs ys each.1 all.1)

pub zip-map : {X Y : Type 0} (R S : X → Y → Type 0) → ((x : X) (y : Y) → R x y → S x y) → (xs : List X) (ys : List Y) → AllZip R xs ys → AllZip S xs ys
zip-map R S h xs ys each =
    zip-with R S (λ _. Unit {0}) (λ x y r _. h x y r) xs ys each (all-any (λ _. Unit {0}) (λ _. tt) ys)

-- a frame is the one at its line, and has the key
abbrev pub StandsAt : List Frame → Key → Frame → Type 0
StandsAt fs k f = (frame_at f.line fs ≡ Some f) × (f.key ≡ k)

-- the frames of a key, each found at its line
pub stand : (kind : ℕ → Option Kind) (es : List Entry) (k : Key) → AllByRecursion (StandsAt (frames kind es) k) (of_key k (frames kind es))
stand kind es k = of_key-keeps (λ (f : Frame). frame_at f.line (frames kind es) ≡ Some f) k (frames kind es) (look-all line_of 1 (frames kind es) (frames-rise kind 1 es))

pub key-rise : (kind : ℕ → Option Kind) (es : List Entry) (k : Key) → RiseFrom 1 (of_key k (frames kind es))
key-rise kind es k = rise-filter line_of (λ (f : Frame). same_key k f.key) 1 (frames kind es) (frames-rise kind 1 es)

-- a group that is done at its last line is gathered there
pub gathered_group : (ends : EndTest) (fs : List Frame) (k : Key) (g : List Frame) (f : Frame) → last_line g ≡ f.line → StandsAt fs k f → find (is_done_at (last_line g)) (cut ends (of_key k fs)) ≡ Some g → gathered ends fs (last_line g) ≡ Some (record { key = k; message = message_of f g })
unfolding gathered
gathered_group ends fs k g f at stands found = grind arith

message_is : (m : PacketParts) (f : Frame) (g : List Frame) → f.stamp ≡ m.stamp → f.id ≡ m.id → data_of g ≡ m.payload → message_of f g ≡ m
message_is m f g stamp id payload = λ i. record { stamp = stamp i; id = id i; payload = payload i }

-- the group is a sending's stretch, goes on to its end, and is found at its last line among the groups of its key
pub record Comes (ends : EndTest) (kind : ℕ → Option Kind) (es : List Entry) (k : Key) (x : Sending) (g : List Frame) : Type 0 where
  pub stretch : IsStretchOf x g
  pub goes_on : GoesOn ends g
  pub stands : AllByRecursion (StandsAt (frames kind es) k) g
  pub found : find (is_done_at (last_line g)) (cut ends (of_key k (frames kind es))) ≡ Some g

abbrev pub pieces_in : (x : Sending) (g : List Frame) → IsStretchOf x g → AllByRecursion (IsPieceOf x) g
pieces_in x g is = recursion_from_All (IsPieceOf x) g is.pieces.each

abbrev pub as_stretch : (ends : EndTest) (x : Sending) (g : List Frame) → IsStretchOf x g → GoesOn ends g → IsStretch ends g
as_stretch ends x g is goes = stretch_pieces ends x g (pieces_in x g is) is.pieces.apart is.whole goes

-- all pieces of a message are gathered as that message
pub gathers : (ends : EndTest) (kind : ℕ → Option Kind) (es : List Entry) (k : Key) (x : Sending) (g : List Frame) → Comes ends kind es k x g → gathered ends (frames kind es) (last_line g) ≡ Some (record { key = k; message = x.message })
gathers ends kind es k x g comes =
    let pieces = pieces_in x g comes.stretch in
    let last : LastFrame (λ f. StandsAt (frames kind es) k f × IsPieceOf x f) g =
    last_frame (λ f. StandsAt (frames kind es) k f × IsPieceOf x f) g (as_stretch ends x g comes.stretch comes.goes_on).nonempty (all_with (StandsAt (frames kind es) k) (IsPieceOf x) _ (λ f a b. (a, b)) g comes.stands pieces) in
    let says = piece_says x last.frame last.holds.1 in
    gathered_group ends (frames kind es) k g last.frame last.at last.holds.0 comes.found
    ∙ ap (λ m. Some (record { key = k; message = m })) (message_is x.message last.frame g says.stamp says.id (data_pieces x g pieces comes.stretch.pieces.apart comes.stretch.whole))

-- a sending's stretch brings its message
pub brings : (w : Window) (kind : ℕ → Option Kind) (es : List Entry) (k : Key) (x : Sending) (g : List Frame) → Comes (within w) kind es k x g → Brings w kind es x g
brings w kind es k x g comes = record {
  stretch = comes.stretch;
  whole = (as_stretch (within w) x g comes.stretch comes.goes_on).whole;
  carries = data_pieces x g (pieces_in x g comes.stretch) comes.stretch.pieces.apart comes.stretch.whole;
  given = ap (λ (o : Option Keyed). option_or (option_map (λ (m : Keyed). m.message) o) (option_and_then (alone kind) (entry_at es (last_line g)))) (gathers (within w) kind es k x g comes);
}

-- the groups of a key are the stretches of its messages
pub record Settled (ends : EndTest) (kind : ℕ → Option Kind) (ms : List PacketParts) (es : List Entry) (k : Key) : Type 0 where
  pub groups : List (List Frame)
  pub cut_is : cut ends (of_key k (frames kind es)) ≡ groups
  pub nonempty : AllByRecursion IsGroup groups
  pub rise : RiseFrom 1 (all_frames groups)
  pub each : AllZip (Comes ends kind es k) (sendings_of k ms) groups

-- each message of a scattered log is settled: its stretch goes on to its end, and so is a group
pub settles : (w : Window) (kind : ℕ → Option Kind) (ms : List PacketParts) (es : List Entry) → IsScattered w kind ms es → (k : Key) → Settled (within w) kind ms es k
settles w kind ms es scattered k =
    let fs = of_key k (frames kind es) in
    let xs = sendings_of k ms in
    let falls : FallInto w xs fs = scattered.falls k in
    let gs = falls.stretches in
    let Fits : Sending → List Frame → Type 0 = λ x g. IsStretchOf x g × GoesOn (within w) g in
    let on : AllZip Fits xs gs =
    zip-map (IsStretchWithin w) Fits
    (λ x g is. (
      is.stretch,
      goes_on-within w (last_piece x.message + 1) g is.stretch.pieces.apart is.ordered
          (recursion_from_All (λ (f : Frame). f.line < first g + w.lines) g is.in_time),
    )) xs gs falls.each in
    let whole : AllByRecursion (IsStretch (within w)) gs =
    zip-all Fits (IsStretch (within w)) (λ x g is. as_stretch (within w) x g is.0 is.1) xs gs on in
    let cut_is : cut (within w) fs ≡ gs = ap (cut (within w)) falls.one_after_the_other ∙ cut_stretches (within w) gs whole in
    let rise : RiseFrom 1 (all_frames gs) = subst (RiseFrom 1) falls.one_after_the_other (key-rise kind es k) in
    let Stand : List Frame → Type 0 = AllByRecursion (StandsAt (frames kind es) k) in
    let standing : AllByRecursion Stand gs =
    all-joined (StandsAt (frames kind es) k) gs (subst Stand falls.one_after_the_other (stand kind es k)) in
    let nonempty : AllByRecursion IsGroup gs = all-map (IsStretch (within w)) IsGroup gs (λ g is. is.nonempty) whole in
    let both = all-zip Stand (IsDone gs) gs standing (done_found 1 gs nonempty rise) in
    record {
      groups = gs;
      cut_is = cut_is;
      nonempty = nonempty;
      rise = rise;
      each =
          zip-with Fits (Comes (within w) kind es k) (λ g. Stand g × IsDone gs g)
          (λ x g is facts. record {
            stretch = is.0;
            goes_on = is.1;
            stands = facts.0;
            found = ap (find (is_done_at (last_line g))) cut_is ∙ facts.1 (as_stretch (within w) x g is.0 is.1).whole;
          })
          xs gs on both;
    }

pub brought : (w : Window) (kind : ℕ → Option Kind) (ms : List PacketParts) (es : List Entry) → IsScattered w kind ms es → (k : Key) → AllZip (Brings w kind es) (sendings_of k ms) (cut (within w) (of_key k (frames kind es)))
brought w kind ms es scattered k = grind (arith, settles w kind ms es scattered k, brings w kind es k, zip-map)

-- no group of any key is incomplete
abbrev pub AllWhole : EndTest → List Frame → Type 0
AllWhole ends fs = (k : Key) → AllByRecursion (λ g. complete g ≡ true) (cut ends (of_key k fs))

broken_among-none : (w : Window) (begun line : ℕ) (gs : List (List Frame)) → AllByRecursion (λ g. complete g ≡ true) gs → broken_among w begun line gs ≡ None
broken_among-none w begun line [] each = refl
broken_among-none w begun line (g ∷ gs) each = rw each.0 (broken_among-none w begun line gs each.1)

pub none_broken : (w : Window) (fs : List Frame) → AllWhole (within w) fs → (line : ℕ) → broken_with w fs line ≡ []
unfolding broken_with
none_broken w fs whole line = grind (arith, filter_map-none, broken_among-none)

none_last : (o : Option (List Frame)) (gs : List (List Frame)) → option_and_then incomplete o ≡ None → AllByRecursion (λ g. complete g ≡ true) gs → option_and_then incomplete (last_or o gs) ≡ None
none_last o [] e each = e
none_last o (g ∷ gs) e each = none_last (Some g) gs (rw each.0 refl) each.1

pub none_open : (ends : EndTest) (fs : List Frame) (n : ℕ) → AllWhole ends fs → open_groups ends n fs ≡ []
unfolding open_groups begun_at
none_open ends fs n whole = grind (arith, filter_map-none, none_last)

none_open-within : (w : Window) (fs : List Frame) (n : ℕ) → AllWhole (within w) fs → open_within w n fs ≡ []
unfolding waiting
none_open-within w fs n whole = ap (waiting w n) (none_open (within w) fs n whole)

pub arrive : (w : Window) (kind : ℕ → Option Kind) (ms : List PacketParts) (es : List Entry) → IsScattered w kind ms es → ArriveWhole w kind ms es
arrive w kind ms es scattered = grind (arith, brought w kind ms es scattered, zip-all, none_broken, none_open-within)
