-- A list of places: one appended, one removed, and the last place moved to a removed one.
use Rattle.std.proofs.Common.{◌≡◌, ℕ, zero, suc, ◌+◌, ◌<◌, ◌≤◌, ◌==◌, ◌⊎◌, inl, inr, Bool, true, false, cond, List, [], ◌∷◌, ◌++◌, map, refl, sym, ap, ◌∙◌, subst, arith, append-nil}
use Rattle.std.proofs.lemmas.Bool.{cases_eq, eqb-true, eq-eqb, ne_eqb, cases_lt}
use Rattle.n2k_join.specs.Inner.Places.{nowhere, Path, times, AreLinked, put}

pub times-append : (at : ℕ) (xs ys : List ℕ) → times at (xs ++ ys) ≡ times at xs + times at ys
times-append at [] ys = omega arith
times-append at (x ∷ xs) ys = omega (arith, times-append at xs ys)

pub times-here : (p : ℕ) (xs : List ℕ) → times p (p ∷ xs) ≡ 1 + times p xs
times-here p xs = ap (λ b. cond b 1 0 + times p xs) (eq-eqb p p refl)

pub times-other : (p at : ℕ) (xs : List ℕ) → (p ≡ at → ⊥) → times at (p ∷ xs) ≡ times at xs
times-other p at xs other = ap (λ b. cond b 1 0 + times at xs) (ne_eqb p at other) ∙ omega arith

-- a place that isn't among places isn't the first
not-first : (x at : ℕ) (xs : List ℕ) → times at (x ∷ xs) ≡ 0 → x ≡ at → ⊥
not-first x at xs none e = omega (arith, none, subst (λ p. times p (x ∷ xs) ≡ 1 + times p xs) e (times-here x xs))

-- a place among places
pub record Split (p : ℕ) (order : List ℕ) : Type 0 where
  pub xs : List ℕ
  pub ys : List ℕ
  pub is : order ≡ xs ++ p ∷ ys

pub split : (p : ℕ) (order : List ℕ) → 0 < times p order → Split p order
split p [] l = absurd (omega (arith, l))
split p (x ∷ xs) l = by (x == p) refl l (split p xs)
  where
    next : Split p xs → Split p (x ∷ xs)
    next s = record { xs = x ∷ s.xs; ys = s.ys; is = ap (λ zs. x ∷ zs) s.is }

    by : (b : Bool) → (x == p) ≡ b → 0 < cond b 1 0 + times p xs → (0 < times p xs → Split p xs) → Split p (x ∷ xs)
    by true e l rest = record { xs = []; ys = xs; is = ap (λ q. q ∷ xs) (eqb-true x p e) }
    by false e l rest = next (rest (omega (arith, l)))

-- ---- paths

path-parts : (f : ℕ → ℕ) (a : ℕ) (xs : List ℕ) (p : ℕ) (ys : List ℕ) (z : ℕ) → Path f a (xs ++ p ∷ ys) z → Path f a xs p × Path f p ys z
path-parts f a [] p ys z h = (h.0, h.1)
path-parts f a (x ∷ xs) p ys z h = let r = path-parts f x xs p ys z h.1 in ((h.0, r.0), r.1)

path-from : (f : ℕ → ℕ) (a : ℕ) (xs : List ℕ) (p : ℕ) (ys : List ℕ) (z : ℕ) → Path f a xs p → Path f p ys z → Path f a (xs ++ p ∷ ys) z
path-from f a [] p ys z h r = (h, r)
path-from f a (x ∷ xs) p ys z h r = (h.0, path-from f x xs p ys z h.1 r)

-- no place is after itself
pub no-loop : (f : ℕ → ℕ) (j a : ℕ) (xs : List ℕ) (z : ℕ) → Path f a xs z → f j ≡ j → times j xs ≡ 1 → z ≡ j
no-loop f j a [] z h e t = absurd (omega (arith, t))
no-loop f j a (x ∷ xs) z h e t = by (x == j) refl t (no-loop f j x xs z h.1 e)
  where
    here : (xs : List ℕ) → Path f j xs z → times j xs ≡ 0 → z ≡ j
    here [] h t = sym h ∙ e
    here (y ∷ ys) h t = absurd (not-first y j ys t (sym h.0 ∙ e))

    by : (b : Bool) → (x == j) ≡ b → cond b 1 0 + times j xs ≡ 1 → (times j xs ≡ 1 → z ≡ j) → z ≡ j
    by true s t rest = here xs (subst (λ i. Path f i xs z) (eqb-true x j s) h.1) (omega (arith, t))
    by false s t rest = rest (omega (arith, t))

-- A path that is unchanged except at `but`, and leads to u instead of t.
path-changed : (f f' : ℕ → ℕ) (but t u : ℕ) → ((j : ℕ) → (j ≡ but → ⊥) → f j ≡ t → f' j ≡ u) → ((j : ℕ) → (j ≡ but → ⊥) → (f j ≡ t → ⊥) → f' j ≡ f j)
    → (a : ℕ) (xs : List ℕ) → (a ≡ but → ⊥) → times but xs ≡ 0 → times t xs ≡ 0 → Path f a xs t → Path f' a xs u
path-changed f f' but t u at other a [] n b c h = at a n h
path-changed f f' but t u at other a (x ∷ xs) n b c h = grind (arith, path-changed f f' but t u at other x xs (not-first x but xs b) (omega (arith, b)) (omega (arith, c)) h.1)

-- A path that is unchanged except at `but`, and doesn't lead to t.
path-same : (f f' : ℕ → ℕ) (but t : ℕ) → ((j : ℕ) → (j ≡ but → ⊥) → (f j ≡ t → ⊥) → f' j ≡ f j)
    → (a : ℕ) (xs : List ℕ) (z : ℕ) → (a ≡ but → ⊥) → (z ≡ t → ⊥) → times but xs ≡ 0 → times t xs ≡ 0 → Path f a xs z → Path f' a xs z
path-same f f' but t other a [] z n m b c h = other a n (λ e. m (sym h ∙ e)) ∙ h
path-same f f' but t other a (x ∷ xs) z n m b c h = grind (arith, path-same f f' but t other x xs z (not-first x but xs b) m (omega (arith, b)) (omega (arith, c)) h.1)

-- ---- the places beside a place

pub put-here : (at to : ℕ) (f : ℕ → ℕ) (j : ℕ) → j ≡ at → put at to f j ≡ to
put-here at to f j e = ap (λ b. cond b to (f j)) (eq-eqb j at e)

pub put-other : (at to : ℕ) (f : ℕ → ℕ) (j : ℕ) → (j ≡ at → ⊥) → put at to f j ≡ f j
put-other at to f j e = ap (λ b. cond b to (f j)) (ne_eqb j at e)

-- Going to one side of a place and back gives the place, and the place on that side isn't `but`.
abbrev pub Inverse : (ℕ → ℕ) → (ℕ → ℕ) → ℕ → Type 0
Inverse f g but = (j : ℕ) → (j ≡ but → ⊥) → (g (f j) ≡ j) × (f j ≡ but → ⊥)

-- one is taken out
out : (f g : ℕ → ℕ) (p : ℕ) → ((j : ℕ) → g (f j) ≡ j) → Inverse (put (g p) (f p) f) (put (f p) (g p) g) p
out f g p back j other = by (cases_eq j (g p))
  where
    by : (j ≡ g p) ⊎ (j ≡ g p → ⊥) → (put (f p) (g p) g (put (g p) (f p) f j) ≡ j) × (put (g p) (f p) f j ≡ p → ⊥)
    by (inl e) =
        let at = put-here (g p) (f p) f j e in
        (ap (put (f p) (g p) g) at ∙ put-here (f p) (g p) g (f p) refl ∙ sym e, λ loop. other (e ∙ sym (ap g (sym at ∙ loop)) ∙ back p))
    by (inr e) =
        let at = put-other (g p) (f p) f j e in
        (ap (put (f p) (g p) g) at ∙ put-other (f p) (g p) g (f j) (λ same. other (sym (back j) ∙ ap g same ∙ back p)) ∙ back j, λ to. e (sym (back j) ∙ ap g (sym at ∙ to)))

-- one is put between two
between : (f g : ℕ → ℕ) (p n u v : ℕ) → Inverse f g p → g v ≡ u → (p ≡ u → ⊥) → (p ≡ v → ⊥) → (p ≡ n → ⊥) → (v ≡ n → ⊥) → g n ≡ n
    → Inverse (put u p (put p v f)) (put v p (put p u g)) n
between f g p n u v back gv pu pv pn vn gn j other = grind arith

-- another name of one
abbrev pub renamed : ℕ → ℕ → ℕ → ℕ
renamed m p j = cond (j == m) p j

-- the last place, m, is at p, and the place beside it on the other side points to p
module _ (f g f1 : ℕ → ℕ) (p m : ℕ) (back : Inverse f g p) (forth : Inverse g f p) (loop : f m ≡ m → ⊥) (pm : p ≡ m → ⊥)
    (here : f1 p ≡ f m) (others : (j : ℕ) → (j ≡ p → ⊥) → (j ≡ m → ⊥) → f1 j ≡ f j) where
  abbrev pub told : ℕ → ℕ
  told = put (g m) p f1

  moved-beside : (j : ℕ) → (j ≡ p → ⊥) → told (renamed m p j) ≡ renamed m p (f j)
  moved-beside j other = grind arith

-- ---- taken out

module _ (n : ℕ) (f g : ℕ → ℕ) (xs : List ℕ) (p : ℕ) (ys : List ℕ) (few : n < nowhere) (fn : f n ≡ n) (gn : g n ≡ n) where
  -- if no place is left out, each has its inverse
  all-back : (f g : ℕ → ℕ) → f n ≡ n → g n ≡ n → Inverse f g n → (j : ℕ) → g (f j) ≡ j
  all-back f g fn gn back j = grind arith

  module _ (l : AreLinked n n f g (xs ++ p ∷ ys)) where
    pub in-list : (p < n) × (times p xs ≡ 0) × (times p ys ≡ 0)
    in-list =
        let at = times-append p xs (p ∷ ys) in
        let here = times-here p ys in
        let low = (l.within p (omega (arith, at, here))).0 in
        let once = l.once p low (λ e. (let no : ⊥ = omega (arith, low, e) in no)) in
        (low, omega (arith, at, here, once), omega (arith, at, here, once))

    absent : (zs : List ℕ) → (0 < times n zs → 0 < times n (xs ++ p ∷ ys)) → times n zs ≡ 0
    absent zs more = grind arith

    abbrev went : ℕ → ℕ
    went = put (g p) (f p) f

    path-left : (zs : List ℕ) → times p zs ≡ 0 → times n zs ≡ 0 → Path went nowhere xs (f p) → Path f p zs nowhere → Path went nowhere (xs ++ zs) nowhere
    path-left [] t u prefix h = subst (λ ws. Path went nowhere ws nowhere) (sym (append-nil xs)) (subst (Path went nowhere xs) h prefix)
    path-left (q ∷ zs) t u prefix h = grind (arith, path-from, path-same, in-list)

    pub unlinked : AreLinked n p (put (g p) (f p) f) (put (f p) (g p) g) (xs ++ ys)
    unlinked = record {
      path =
          let parts = path-parts f nowhere xs p ys nowhere l.path in
          let prefix = path-changed f went n p (f p) (λ j i e. put-here (g p) (f p) f j (sym (l.back j i).0 ∙ ap g e)) (λ j i e. put-other (g p) (f p) f j (λ at. e (ap f at ∙ all-back g f gn fn l.forth p)))
          nowhere xs (λ e. omega (arith, few, e)) (absent xs (λ m. omega (arith, m, times-append n xs (p ∷ ys)))) in-list.1 parts.0 in
          path-left ys in-list.2 (absent ys (λ m. omega (arith, m, times-append n xs (p ∷ ys)))) prefix parts.1;
      back = out f g p (all-back f g fn gn l.back);
      forth = out g f p (all-back g f gn fn l.forth);
      within = λ at more. (
        (l.within at (omega (arith, more, times-append at xs ys, times-append at xs (p ∷ ys)))).0,
        λ e. omega (arith, subst (λ q. 0 < times q (xs ++ ys)) e more, times-append p xs ys, in-list),
      );
      once = λ at low other. omega (arith, l.once at low (λ e. omega (arith, low, e)), times-append at xs ys, times-append at xs (p ∷ ys), times-other p at ys (λ e. other (sym e)));
    }

-- ---- appended to the list

module _ (n : ℕ) (f g : ℕ → ℕ) (p : ℕ) (order : List ℕ) (low : p < n) (few : n < nowhere) (fn : f n ≡ n) (gn : g n ≡ n) (l : AreLinked n p f g order) where
  abbrev last : ℕ
  last = g nowhere

  p-where : p ≡ nowhere → ⊥
  p-where e = omega (arith, low, few, e)

  ends : (f last ≡ nowhere) × (last ≡ p → ⊥)
  ends = l.forth nowhere (λ e. p-where (sym e))

  none : (at : ℕ) → ((at < n) × (at ≡ p → ⊥) → ⊥) → times at order ≡ 0
  none at not-there = grind arith

  pub pushed : AreLinked n n (put last p (put p nowhere f)) (put nowhere p (put p last g)) (order ++ p ∷ [])
  pushed = record {
    path = path-from (put last p (put p nowhere f)) nowhere order p [] nowhere
        (path-changed f (put last p (put p nowhere f)) p nowhere p
        (λ j i e. put-here last p (put p nowhere f) j (sym (l.back j i).0 ∙ ap g e))
        (λ j i e. put-other last p (put p nowhere f) j (λ at. e (ap f at ∙ ends.0)) ∙ put-other p nowhere f j i)
        nowhere order (λ e. p-where (sym e)) (none p (λ there. there.1 refl)) (none nowhere (λ there. omega (arith, few, there.0))) l.path)
        (put-other last p (put p nowhere f) p (λ e. ends.1 (sym e)) ∙ put-here p nowhere f p refl);
    back = between f g p n last nowhere l.back refl (λ e. ends.1 (sym e)) p-where (λ e. omega (arith, low, e)) (λ e. omega (arith, few, e)) gn;
    forth = between g f p n nowhere last l.forth ends.0 p-where (λ e. ends.1 (sym e)) (λ e. omega (arith, low, e)) (λ e. omega (arith, few, sym (ap f e ∙ fn) ∙ ends.0)) fn;
    within = λ at more. within at (cases_eq p at) more;
    once = λ at less other. once at less (cases_eq p at);
  }
    where
      within : (at : ℕ) → (p ≡ at) ⊎ (p ≡ at → ⊥) → 0 < times at (order ++ p ∷ []) → (at < n) × (at ≡ n → ⊥)
      within at (inl e) more = (omega (arith, low, e), λ s. omega (arith, low, e, s))
      within at (inr e) more = let there = l.within at (omega (arith, more, times-append at order (p ∷ []), times-other p at [] e)) in (there.0, λ s. omega (arith, there.0, s))

      once : (at : ℕ) → at < n → (p ≡ at) ⊎ (p ≡ at → ⊥) → times at (order ++ p ∷ []) ≡ 1
      once at less (inl e) = subst (λ q. times q (order ++ p ∷ []) ≡ 1) e (omega (arith, times-append p order (p ∷ []), times-here p [], none p (λ there. there.1 refl)))
      once at less (inr e) = omega (arith, times-append at order (p ∷ []), times-other p at [] e, l.once at less (λ s. e (sym s)))

-- ---- the last place moved, or gone

path-renamed : (f f' r : ℕ → ℕ) (but : ℕ) → ((j : ℕ) → (j ≡ but → ⊥) → f' (r j) ≡ r (f j)) → (a : ℕ) (xs : List ℕ) (z : ℕ) → (a ≡ but → ⊥) → times but xs ≡ 0 → Path f a xs z → Path f' (r a) (map r xs) (r z)
path-renamed f f' r but h a [] z n t p = h a n ∙ ap r p
path-renamed f f' r but h a (x ∷ xs) z n t p = (h a n ∙ ap r p.0, path-renamed f f' r but h x xs z (not-first x but xs t) (omega (arith, t)) p.1)

module _ (m : ℕ) (f g f1 g1 : ℕ → ℕ) (order : List ℕ) (few : suc m < nowhere) where
  -- the last place is the removed one
  pub dropped : ((j : ℕ) → (j ≡ m → ⊥) → f1 j ≡ f j) → ((j : ℕ) → (j ≡ m → ⊥) → g1 j ≡ g j) → AreLinked (suc m) m f g order → AreLinked m m f1 g1 order
  dropped fs gs l = record {
    path = path-same f f1 m m (λ j i e. fs j i) nowhere order nowhere (λ e. omega (arith, few, e)) (λ e. omega (arith, few, e)) none none l.path;
    back = λ j i. let b = l.back j i in (ap g1 (fs j i) ∙ gs (f j) b.1 ∙ b.0, λ e. b.1 (sym (fs j i) ∙ e));
    forth = λ j i. let b = l.forth j i in (ap f1 (gs j i) ∙ fs (g j) b.1 ∙ b.0, λ e. b.1 (sym (gs j i) ∙ e));
    within = λ at more. let there = l.within at more in (below at there.0 there.1, there.1);
    once = λ at less i. l.once at (omega (arith, less)) i;
  }
    where
      below : (at : ℕ) → at < suc m → (at ≡ m → ⊥) → at < m
      below at less i = by (cases_lt at m)
        where
          by : (at < m) ⊎ (m ≤ at) → at < m
          by (inl h) = h
          by (inr h) = absurd (i (omega (arith, h, less)))

      none : times m order ≡ 0
      none = by (times m order) (l.within m)
        where
          by : (k : ℕ) → (0 < k → (m < suc m) × (m ≡ m → ⊥)) → k ≡ 0
          by zero there = refl
          by (suc k) there = absurd ((there (omega arith)).1 refl)

  module _ (p : ℕ) (low : p < m) (f-here : f1 p ≡ f m) (f-others : (j : ℕ) → (j ≡ p → ⊥) → (j ≡ m → ⊥) → f1 j ≡ f j) (g-here : g1 p ≡ g m) (g-others : (j : ℕ) → (j ≡ p → ⊥) → (j ≡ m → ⊥) → g1 j ≡ g j) where
    pm : p ≡ m → ⊥
    pm e = omega (arith, low, e)

    kept-name : (j : ℕ) → (j ≡ m → ⊥) → renamed m p j ≡ j
    kept-name j e = ap (λ b. cond b p j) (ne_eqb j m e)

    new-name : (j : ℕ) → j ≡ m → renamed m p j ≡ p
    new-name j e = ap (λ b. cond b p j) (eq-eqb j m e)

    never-last : (j : ℕ) → renamed m p j ≡ m → ⊥
    never-last j e = grind arith

    renamed-back : (h k : ℕ → ℕ) (h' k' : ℕ → ℕ) → ((j : ℕ) → (j ≡ p → ⊥) → h' (renamed m p j) ≡ renamed m p (h j)) → ((j : ℕ) → (j ≡ p → ⊥) → k' (renamed m p j) ≡ renamed m p (k j)) → Inverse h k p → Inverse h' k' m
    renamed-back h k h' k' hs ks back j other = by (cases_eq j p)
      where
        named : (i : ℕ) → renamed m p i ≡ j → (i ≡ p → ⊥) → (k' (h' j) ≡ j) × (h' j ≡ m → ⊥)
        named i is n =
            let at = ap h' (sym is) ∙ hs i n in
            (ap k' at ∙ ks (h i) (back i n).1 ∙ ap (renamed m p) (back i n).0 ∙ is, λ e. never-last (h i) (sym at ∙ e))

        by : (j ≡ p) ⊎ (j ≡ p → ⊥) → (k' (h' j) ≡ j) × (h' j ≡ m → ⊥)
        by (inl e) = named m (new-name m refl ∙ sym e) (λ s. pm (sym s))
        by (inr e) = named j (kept-name j other) e

    times-kept : (at : ℕ) → (at ≡ m → ⊥) → (at ≡ p → ⊥) → (xs : List ℕ) → times at (map (renamed m p) xs) ≡ times at xs
    times-kept at am ap' [] = refl
    times-kept at am ap' (x ∷ xs) = grind (arith, times-kept at am ap' xs)

    times-moved : (xs : List ℕ) → times p xs ≡ 0 → times p (map (renamed m p) xs) ≡ times m xs
    times-moved [] none = refl
    times-moved (x ∷ xs) none = grind (arith, times-moved xs (omega (arith, none)))

    times-last : (xs : List ℕ) → times m (map (renamed m p) xs) ≡ 0
    times-last [] = refl
    times-last (x ∷ xs) = times-other (renamed m p x) m (map (renamed m p) xs) (never-last x) ∙ times-last xs

    module _ (l : AreLinked (suc m) p f g order) where
      loop : f m ≡ m → ⊥
      loop e = omega (arith, few, no-loop f m nowhere order nowhere l.path e (l.once m (omega arith) (λ s. pm (sym s))))

      pub f-moved : (j : ℕ) → (j ≡ p → ⊥) → put (g m) p f1 (renamed m p j) ≡ renamed m p (f j)
      f-moved = moved-beside f g f1 p m l.back l.forth loop pm f-here f-others

      pub g-moved : (j : ℕ) → (j ≡ p → ⊥) → put (f m) p g1 (renamed m p j) ≡ renamed m p (g j)
      g-moved = moved-beside g f g1 p m l.forth l.back (λ e. loop (ap f (sym e) ∙ (l.forth m (λ s. pm (sym s))).0)) pm g-here g-others

      out-of-it : times p order ≡ 0
      out-of-it = grind arith

      pub moved : AreLinked m m (put (g m) p f1) (put (f m) p g1) (map (renamed m p) order)
      moved = record {
        path =
            let same = kept-name nowhere (λ e. omega (arith, few, e)) in
            subst (λ z. Path (put (g m) p f1) z (map (renamed m p) order) z) same (path-renamed f (put (g m) p f1) (renamed m p) p f-moved nowhere order nowhere (λ e. omega (arith, low, few, e)) out-of-it l.path);
        back = renamed-back f g (put (g m) p f1) (put (f m) p g1) f-moved g-moved l.back;
        forth = renamed-back g f (put (f m) p g1) (put (g m) p f1) g-moved f-moved l.forth;
        within = λ at more. within at more (cases_eq at m) (cases_eq at p);
        once = λ at less other. once at less other (cases_eq at p);
      }
        where
          within : (at : ℕ) → 0 < times at (map (renamed m p) order) → (at ≡ m) ⊎ (at ≡ m → ⊥) → (at ≡ p) ⊎ (at ≡ p → ⊥) → (at < m) × (at ≡ m → ⊥)
          within at more (inl e) q = absurd (omega (arith, more, subst (λ i. times i (map (renamed m p) order) ≡ 0) (sym e) (times-last order)))
          within at more (inr e) (inl q) = (omega (arith, low, q), e)
          within at more (inr e) (inr q) = let there = l.within at (omega (arith, more, times-kept at e q order)) in (by (cases_lt at m) there.0, e)
            where
              by : (at < m) ⊎ (m ≤ at) → at < suc m → at < m
              by (inl h) less = h
              by (inr h) less = absurd (e (omega (arith, h, less)))

          once : (at : ℕ) → at < m → (at ≡ m → ⊥) → (at ≡ p) ⊎ (at ≡ p → ⊥) → times at (map (renamed m p) order) ≡ 1
          once at less other (inl e) = subst (λ i. times i (map (renamed m p) order) ≡ 1) (sym e) (times-moved order out-of-it ∙ l.once m (omega arith) (λ s. pm (sym s)))
          once at less other (inr e) = times-kept at other e order ∙ l.once at (omega (arith, less)) e
