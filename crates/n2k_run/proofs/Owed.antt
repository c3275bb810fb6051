-- How the rest of a text shrinks as it is written.
use Rattle.std.proofs.Common.{ℕ, List, ◌++◌, ◌<◌, length, take, drop, sym, ◌∙◌, subst, append_assoc, ◌-◌, Option, arith, length-append, Result, Ok, Err, OnErr}
use Rattle.std.specs.Io.KnownBytes.{Appends}
use Rattle.std.proofs.KnownBytes.{Appends-trans}
use Rattle.std.proofs.lemmas.List.{take-append-drop, take_rest}
use Rattle.n2k_run.specs.Writing.{Owes, AppendsPrefix}

-- the first part of the rest is written
pub Owes-part : (old mid new : Option (List ℕ)) (text part rest : List ℕ) → Owes old mid text (part ++ rest) → Appends mid new part → Owes old new text rest
Owes-part old mid new text part rest owed more = record {
  prefix = owed.prefix ++ part;
  appended = Appends-trans old mid new owed.prefix part owed.appended more;
  still = owed.still ∙ sym (append_assoc owed.prefix part rest);
}

-- a write took some bytes of the rest
pub Owes-taken : (old mid new : Option (List ℕ)) (text rest : List ℕ) (n : ℕ) → Owes old mid text rest → Appends mid new (take n rest) → Owes old new text (take (length rest - n) (drop n rest))
Owes-taken old mid new text rest n owed more =
    let whole : Owes old mid text (take n rest ++ drop n rest) = subst (λ r. Owes old mid text r) (sym (take-append-drop n rest)) owed in
    let left : Owes old new text (drop n rest) = Owes-part old mid new text (take n rest) (drop n rest) whole more in
    subst (λ r. Owes old new text r) (sym (take_rest rest n)) left

-- of a text of two parts both are written
pub both_parts : (old mid new : Option (List ℕ)) (first rest : List ℕ) → Appends old mid first → Appends mid new rest → Appends old new (first ++ rest)
both_parts = Appends-trans

-- a prefix of the first of two texts is a prefix of both
pub prefix_of_first : (old new : Option (List ℕ)) (first rest : List ℕ) → AppendsPrefix old new first → AppendsPrefix old new (first ++ rest)
prefix_of_first old new first rest owed = grind (arith, append_assoc owed.1.prefix owed.0 rest)

-- the first of two texts and a prefix of the other are a prefix of both
pub first_and_prefix : (old mid new : Option (List ℕ)) (first rest : List ℕ) → Appends old mid first → AppendsPrefix mid new rest → AppendsPrefix old new (first ++ rest)
first_and_prefix old mid new first rest done owed = grind (arith, append_assoc)

pub prefix_of_both : {T E : Type 0} (r : Result T E) (old mid new : Option (List ℕ)) (first rest : List ℕ) → Appends old mid first → OnErr r (AppendsPrefix mid new rest) → OnErr r (AppendsPrefix old new (first ++ rest))
prefix_of_both (Ok x) old mid new first rest done owed = owed
prefix_of_both (Err e) old mid new first rest done owed = first_and_prefix old mid new first rest done owed

pub some_first : (first rest : List ℕ) → 0 < length first → 0 < length (first ++ rest)
some_first first rest some = omega (arith, length-append first rest, some)

pub some_rest : (first rest : List ℕ) → 0 < length rest → 0 < length (first ++ rest)
some_rest first rest some = omega (arith, length-append first rest, some)
