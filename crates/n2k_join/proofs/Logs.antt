-- The frames of a log's entries, and what one more entry leaves unchanged.
use Rattle.std.proofs.Common.{◌≡◌, ◌≤◌, ◌<◌, ◌+◌, ℕ, suc, zero, List, [], ◌∷◌, ◌++◌, length, refl, sym, ap, ◌∙◌, arith, Option, Some, option_map, option_and_then, option_to_list, sum_by, append-nil}
use Rattle.std.specs.Option.{option_or}
use Rattle.std.specs.List.{range_with_len, AllByRecursion}
use Rattle.std.proofs.lemmas.List.Sums.{sum_by-cons}
use Rattle.n2k_wire.specs.declared.entry.Entry.{Entry}
use Rattle.n2k_table.specs.declared.definition.Kind.{Kind}
use Rattle.n2k_join.specs.Frames.{Frame, most_frames, frame_in, frames_from, frames, frame_at}
use Rattle.n2k_join.specs.Groups.{EndTest}
use Rattle.n2k_join.specs.Messages.{Keyed, gathered, broken_with, message_with, alone, entry_at}
use Rattle.n2k_join.proofs.BrokenGroups.{broken-stays}
use Rattle.n2k_join.proofs.Given.{gathered-stays}
use Rattle.n2k_join.proofs.Lines.{frames-rise, frame_in-line, frame_of_packet, line_of}
use Rattle.n2k_join.proofs.Opened.{IsLog, key_at}
use Rattle.n2k_join.proofs.Order.{slice_get-push, slice_get-prefix}
use Rattle.n2k_join.proofs.Rising.{all-map, all-zip, look-all, rise-least}
use Rattle.n2k_join.specs.Window.{Window}

-- A property of the frame of each entry holds of all frames.
pub frames-all : (P : Frame → Type 0) (kind : ℕ → Option Kind) (n : ℕ) (es : List Entry)
    → ((i : ℕ) (e : Entry) (f : Frame) → i < n + length es → frame_in kind i e ≡ Some f → P f)
    → AllByRecursion P (frames_from kind n es)
frames-all P kind n [] each = tt
frames-all P kind n (e ∷ es) each = grind (arith, frames-all P kind (n + 1) es (λ i e f u is. each i e f (omega (arith, u)) is))

pub frames-below : (kind : ℕ → Option Kind) (n : ℕ) (es : List Entry) → AllByRecursion (λ (f : Frame). f.line < n + length es) (frames_from kind n es)
frames-below kind n es =
    frames-all (λ (f : Frame). f.line < n + length es) kind n es
    (λ i e f u is. let at : f.line ≡ i = frame_in-line kind i e f is in omega (arith, at, u))

-- a frame's number has five bits
pub frame_in-number : (kind : ℕ → Option Kind) (i : ℕ) (e : Entry) (f : Frame) → frame_in kind i e ≡ Some f → f.number < most_frames
frame_in-number kind i e f is = grind (arith, frame_of_packet kind i e f is)

pub frames-log : (kind : ℕ → Option Kind) (es : List Entry) → IsLog (length es) (frames kind es)
frames-log kind es =
    let rises = frames-rise kind 1 es in
    record {
      lines = all-map _ (λ (f : Frame). (1 ≤ f.line) × (f.line ≤ length es)) (frames kind es) (λ f h. (h.0, omega (arith, h.1))) (all-zip (λ (f : Frame). 1 ≤ f.line) (λ (f : Frame). f.line < 1 + length es) (frames kind es) (rise-least line_of 1 (frames kind es) rises) (frames-below kind 1 es));
      numbers = frames-all (λ (f : Frame). f.number < most_frames) kind 1 es (λ i e f _ is. frame_in-number kind i e f is);
      keys = all-map (λ (f : Frame). frame_at f.line (frames kind es) ≡ Some f) (λ (f : Frame). key_at f.line (frames kind es) ≡ Some f.key) (frames kind es) (λ f h. ap (option_map (λ (f : Frame). f.key)) h) (look-all line_of 1 (frames kind es) rises);
    }

-- the frames of entries followed by other entries
pub frames_from-append : (kind : ℕ → Option Kind) (line : ℕ) (es fs : List Entry)
    → frames_from kind line (es ++ fs) ≡ frames_from kind line es ++ frames_from kind (line + length es) fs
frames_from-append kind line [] fs = let e : line ≡ line + 0 = omega arith in ap (λ n. frames_from kind n fs) e
frames_from-append kind line (e ∷ es) fs = grind (arith, frames_from-append kind (line + 1) es fs)

-- one entry more
pub frames-push : (kind : ℕ → Option Kind) (es : List Entry) (e : Entry) → frames kind (es ++ e ∷ []) ≡ frames kind es ++ option_to_list (frame_in kind (length es + 1) e)
frames-push kind es e = grind (arith, frames_from-append)

pub entry_at-before : (es : List Entry) (e : Entry) (i : ℕ) → 1 ≤ i → i ≤ length es → entry_at (es ++ e ∷ []) i ≡ entry_at es i
entry_at-before es e zero l u = absurd (omega arith)
entry_at-before es e (suc i) l u = slice_get-prefix es e i (omega arith)

pub entry_at-last : (es : List Entry) (e : Entry) → entry_at (es ++ e ∷ []) (length es + 1) ≡ Some e
entry_at-last es e = let at : length es + 1 ≡ suc (length es) = omega arith in ap (entry_at (es ++ e ∷ [])) at ∙ slice_get-push es e

-- a value that a frame of the next line leaves unchanged is unchanged by one more entry
frames-before : {X : Type 0} (F : List Frame → X) (kind : ℕ → Option Kind) (es : List Entry) (e : Entry)
    → ((x : Frame) → x.line ≡ length es + 1 → F (frames kind es ++ x ∷ []) ≡ F (frames kind es))
    → F (frames kind (es ++ e ∷ [])) ≡ F (frames kind es)
frames-before F kind es e stays = grind (arith, frames-push, frame_in-line, append-nil)

-- earlier lines keep their results
gathered-before : (ends : EndTest) (kind : ℕ → Option Kind) (es : List Entry) (e : Entry) (i : ℕ) → i ≤ length es → gathered ends (frames kind (es ++ e ∷ [])) i ≡ gathered ends (frames kind es) i
gathered-before ends kind es e i u = grind (arith, frames-before (λ fs. gathered ends fs i) kind es e (λ x at. gathered-stays ends (frames kind es) x i (λ t. omega (arith, t, at, u))))

pub message-before : (ends : EndTest) (kind : ℕ → Option Kind) (es : List Entry) (e : Entry) (i : ℕ) → 1 ≤ i → i ≤ length es → message_with ends kind (es ++ e ∷ []) i ≡ message_with ends kind es i
message-before ends kind es e i l u = λ j. option_or (option_map (λ (m : Keyed). m.message) (gathered-before ends kind es e i u j)) (option_and_then (alone kind) (entry_at-before es e i l u j))

pub broken-before : (w : Window) → 0 < w.lines → (kind : ℕ → Option Kind) (es : List Entry) (e : Entry) (i : ℕ) → i ≤ length es → broken_with w (frames kind (es ++ e ∷ [])) i ≡ broken_with w (frames kind es) i
broken-before w some kind es e i u = grind (arith, frames-before (λ fs. broken_with w fs i) kind es e (λ x at. broken-stays w some (length es) (frames kind es) x i (frames-log kind es) (omega (arith, at, u))))

-- sums over a range of functions that agree there
pub sum_by-range : (f g : ℕ → ℕ) (a n : ℕ) → ((i : ℕ) → a ≤ i → i < a + n → f i ≡ g i) → sum_by f (range_with_len a n) ≡ sum_by g (range_with_len a n)
sum_by-range f g a zero e = refl
sum_by-range f g a (suc n) e =
    sum_by-cons f a (range_with_len (a + 1) n)
    ∙ (λ j. e a (omega arith) (omega arith) j + sum_by-range f g (a + 1) n (λ i l u. e i (omega arith) (omega arith)) j)
    ∙ sym (sum_by-cons g a (range_with_len (a + 1) n))
