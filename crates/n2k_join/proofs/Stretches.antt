-- If frames fall into stretches, each ending at its last frame and not before, the stretches are the groups.
use Rattle.std.proofs.Common.{◌≡◌, ℕ, zero, suc, ◌+◌, ◌<◌, ◌≤◌, ◌&&◌, Bool, map, true, false, List, [], ◌∷◌, ◌++◌, length, refl, ap, subst, ◌∙◌, sym, arith, length-append, ◌==◌, nat_lt}
use Rattle.std.specs.List.{AllByRecursion, range_with_len}
use Rattle.std.proofs.lemmas.Bool.{or_parts, or_from, and_right, eq-eqb, ne_eqb, lt-leb}
use Rattle.n2k_join.specs.Frames.{Frame}
use Rattle.n2k_join.specs.Groups.{EndTest, has_number, has_twice, complete, repeats, has_from, falls_back, misfits, is_late, within, first, closes, cut}
use Rattle.n2k_join.specs.Pieces.{last_piece, Sending}
use Rattle.n2k_join.specs.Scattered.{IsPieceOf, all_frames}
use Rattle.n2k_join.proofs.WholePieces.{complete_pieces}
use Rattle.n2k_join.specs.Window.{Window}
use Rattle.n2k_join.proofs.Carried.{has_number-cons, eqb-sym}
use Rattle.n2k_join.proofs.CutLaws.{first_follows}
use Rattle.n2k_join.proofs.Rising.{all-prefix, all-back}

-- frames that are complete, and don't end before the last
pub record IsStretch (ends : EndTest) (g : List Frame) : Type 0 where
  pub nonempty : 0 < length g
  pub whole : complete g ≡ true
  pub goes_on : (f h : Frame) (prefix back : List Frame) → g ≡ (f ∷ prefix) ++ (h ∷ back) → closes ends (f ∷ prefix) h ≡ false

-- a stretch at the start is the first group
pub cut_stretch : (ends : EndTest) (g rest : List Frame) → IsStretch ends g → cut ends (g ++ rest) ≡ g ∷ cut ends rest
cut_stretch ends g rest is = grind (arith, first_follows)

-- consecutive stretches are the groups
pub cut_stretches : (ends : EndTest) (gs : List (List Frame)) → AllByRecursion (IsStretch ends) gs → cut ends (all_frames gs) ≡ gs
unfolding cut
cut_stretches ends [] each = refl
cut_stretches ends (g ∷ gs) each = cut_stretch ends g (all_frames gs) each.0 ∙ ap (λ l. g ∷ l) (cut_stretches ends gs each.1)

-- a prefix of frames without a repeated number
has_number-push : (n : ℕ) (fs back : List Frame) (h : Frame) → has_number n (fs ++ (h ∷ back)) ≡ false → (has_number n fs ≡ false) × ((h.number == n) ≡ false)
has_number-push n [] back h e = grind arith
has_number-push n (f ∷ fs) back h e =
    let parts = or_parts _ _ (sym (has_number-cons f (fs ++ (h ∷ back)) n) ∙ e) in
    let rest = has_number-push n fs back h parts.1 in
    (has_number-cons f fs n ∙ or_from _ _ parts.0 rest.0, rest.1)

pub apart-prefix : (fs back : List Frame) (h : Frame) → has_twice (fs ++ (h ∷ back)) ≡ false → (has_twice fs ≡ false) × (has_number h.number fs ≡ false)
apart-prefix [] back h e = (refl, refl)
apart-prefix (f ∷ fs) back h e =
    let parts = or_parts _ _ e in
    let mine = has_number-push f.number fs back h parts.0 in
    let rest = apart-prefix fs back h parts.1 in
    (or_from _ _ mine.0 rest.0, has_number-cons f fs h.number ∙ or_from _ _ (eqb-sym f.number h.number ∙ mine.1) rest.1)

-- the frames go on together: no prefix of them ends before the next frame
pub record GoesOn (ends : EndTest) (g : List Frame) : Type 0 where
  pub on : (f h : Frame) (prefix back : List Frame) → g ≡ (f ∷ prefix) ++ (h ∷ back) → ends (f ∷ prefix) h ≡ false

-- if numbers rise one by one, none falls back
above : (a n : ℕ) (prefix : List Frame) (h : Frame) (back : List Frame) → map (λ (f : Frame). f.number) (prefix ++ (h ∷ back)) ≡ range_with_len a n → (a ≤ h.number) × (has_from h.number prefix ≡ false)
above a zero [] h back numbers = absurd (cc)
above a (suc n) [] h back numbers = let here : h.number ≡ a = cc in (omega (arith, here), refl)
above a zero (f ∷ prefix) h back numbers = absurd (cc)
above a (suc n) (f ∷ prefix) h back numbers = grind (arith, above (a + 1) n prefix h back cc, lt-leb)

-- no number falls back, and no window ends before the last frame
pub goes_on-within : (w : Window) (n : ℕ) (g : List Frame) → has_twice g ≡ false → (w.in_order ≡ true → map (λ (f : Frame). f.number) g ≡ range_with_len 0 n) → AllByRecursion (λ (f : Frame). f.line < first g + w.lines) g → GoesOn (within w) g
goes_on-within w n g apart ordered each = record {
  on = λ f h prefix back e.
      let l : h.line < first g + w.lines = (all-back (λ (i : Frame). i.line < first g + w.lines) (f ∷ prefix) (h ∷ back) (subst (AllByRecursion (λ (i : Frame). i.line < first g + w.lines)) e each)).0 in
      let same : first g ≡ f.line = ap first e in
      or_from (misfits w (f ∷ prefix) h) (is_late w (f ∷ prefix) h) (or_from (repeats (f ∷ prefix) h) (w.in_order && falls_back (f ∷ prefix) h) (apart-prefix (f ∷ prefix) back h (ap has_twice (sym e) ∙ apart)).1 (rises f h prefix back e w.in_order refl)) (lt-leb (f.line + w.lines) h.line (omega (arith, l, same)));
}
  where
    rises : (f h : Frame) (prefix back : List Frame) → g ≡ (f ∷ prefix) ++ (h ∷ back) → (b : Bool) → w.in_order ≡ b → (b && falls_back (f ∷ prefix) h) ≡ false
    rises f h prefix back e true t = and_right (nat_lt f.line h.line) (has_from h.number (f ∷ prefix)) (above 0 n (f ∷ prefix) h back (ap (map (λ (f : Frame). f.number)) (sym e) ∙ ordered t)).1
    rises f h prefix back e false t = refl

-- all pieces of a message are a stretch, if they go on together
pub stretch_pieces : (ends : EndTest) (x : Sending) (g : List Frame) → AllByRecursion (IsPieceOf x) g → has_twice g ≡ false → length g ≡ last_piece x.message + 1 → GoesOn ends g → IsStretch ends g
stretch_pieces ends x g each apart full goes = record {
  nonempty = omega arith;
  whole = complete_pieces x g each apart ∙ eq-eqb _ _ full;
  goes_on = λ f h prefix back e.
      let apart' : has_twice ((f ∷ prefix) ++ (h ∷ back)) ≡ false = ap has_twice (sym e) ∙ apart in
      let pieces : AllByRecursion (IsPieceOf x) ((f ∷ prefix) ++ (h ∷ back)) = subst (AllByRecursion (IsPieceOf x)) e each in
      let lengths : length g ≡ length (f ∷ prefix) + length (h ∷ back) = ap length e ∙ length-append (f ∷ prefix) (h ∷ back) in
      let unfinished : complete (f ∷ prefix) ≡ false = complete_pieces x (f ∷ prefix) (all-prefix (IsPieceOf x) (f ∷ prefix) (h ∷ back) pieces) (apart-prefix (f ∷ prefix) back h apart').0 ∙ ne_eqb _ _ (λ same. omega arith) in
      or_from _ _ unfinished (goes.on f h prefix back e);
}
