-- What is there at each moment of a replacement, and after a text is written over another.
use Rattle.std.proofs.Common.{arith, ◌≡◌, ◌⊎◌, List, ℕ, Bool, true, false, [], ◌∷◌, ◌++◌, Option, None, Some, OnOk, Result, Ok, Err, refl, inl, inr, subst, sym, if◌then◌else◌}
use Rattle.std.specs.declared.io.Error.{Error}
use Rattle.n2kdec.specs.Save.Destination.{is_missing}
use Rattle.n2kdec.specs.System.Disk.{Act, Call, Why, closed, failure, kind_of, open_at, set_mode, write, sync, rename, remove, sync_folder}
use Rattle.n2kdec.specs.Save.Folder.{Content, FileMayBeLeft, HasAfter, MayBeLeft, MayHave, Name, Target, Temp, Unsure, Nothing, Whole, Where, cut_failure, extent_of, is_refusal, opened}
use Rattle.n2kdec.specs.Save.Replacement.{AtEachMoment, Doing, EndsWith, HasOldOrNew, IsAlone, IsAsBefore, IsFilled, IsGivenUp, IsNamed, RenamesIntoPlace, IsSynced, IsWritten, LeavesOne, LeavesWritten, empty, failed}
use Rattle.n2kdec.specs.declared.save.destination.Destination.{Destination}
use Rattle.n2kdec.specs.declared.save.destination.Kind.{Kind}
use Rattle.n2kdec.specs.declared.save.destination.Kind.TheVariants.{Alone}
use Rattle.n2kdec.specs.declared.save.replacement.ReplaceError.{ReplaceError}
use Rattle.n2kdec.specs.declared.save.replacement.ReplaceError.TheVariants.{Refused, Failed}

-- a call that is done
abbrev pub done : Call Name → Act Name
done call = record { call = call; failed = None }

last : (P : List (Act Name) → Type 0) (made before : List (Act Name)) → AtEachMoment P made before → P (made ++ before)
last P [] before here = here
last P (act ∷ made) before here = here.2

weaken : (P Q : List (Act Name) → Type 0) → ((acts : List (Act Name)) → P acts → Q acts) → (made before : List (Act Name)) → AtEachMoment P made before → AtEachMoment Q made before
weaken P Q so [] before here = so before here
weaken P Q so (act ∷ made) before here = grind (arith, weaken P Q so made before here.0)

-- ---- calls of the file of one name

abbrev IsOf : Name → Call Name → Option Name → Type 0
IsOf own (open_at name how) current = name ≡ own
IsOf own (rename from to) current = ⊥
IsOf own (remove name) current = name ≡ own
IsOf own (sync_folder name) current = ⊥
IsOf own _ current = current ≡ Some own

abbrev AreOf : Name → List (Act Name) → List (Act Name) → Type 0
AreOf own [] before = Unit {0}
AreOf own (act ∷ made) before = IsOf own act.call (opened (made ++ before)) × AreOf own made before

-- what the other name has they leave as it is
module _ (own other : Name) (apart : (A B : Type 0) → Where other (Some own) A B → B) where
  module _ (first : Name → Content) (before : List (Act Name)) where
    still : (act : Act Name) (acts : List (Act Name)) → IsOf own act.call (opened acts) → IsAsBefore first before other acts → IsAsBefore first before other (act ∷ acts)
    still act acts is here = grind arith

    all_still : (made : List (Act Name)) → AreOf own made before → AtEachMoment (IsAsBefore first before other) made before
    all_still [] of = grind arith
    all_still (act ∷ made) of = grind (arith, all_still made of.1, last, still)

from_temp : (A B : Type 0) → Where Target (Some Temp) A B → B
from_temp A B here = here

from_target : (A B : Type 0) → Where Temp (Some Target) A B → B
from_target A B here = here

-- ---- what a function does with the file of one name

-- It makes no other calls, if the open file is such a one; and after Ok it is such a one.
abbrev Stays : {E : Type 0} → Name → (Option Name → Type 0) → Doing E → (Option Name → Type 0) → Type 0
Stays {E} own P Does Q = (result : Result (Unit {0}) E) (made before : List (Act Name)) → P (opened before) → Does result made → AreOf own made before × OnOk result (Q (opened (made ++ before)))

abbrev Any : Option Name → Type 0
Any current = Unit {0}

stays_filled : (d : Destination) (text : List ℕ) → Stays Temp Any (IsFilled d text) Any
stays_filled d text result made before current does = grind arith

stays_written : (d : Destination) (text : List ℕ) → Stays Target Any (IsWritten d text) Any
stays_written d text result made before current does = grind arith

-- ---- all of it is done

abbrev moded : Option ℕ → List (Act Name)
moded None = []
moded (Some mode) = done (set_mode mode) ∷ []

abbrev poured : Option ℕ → List ℕ → List (Act Name)
poured mode text = closed ∷ done sync ∷ done (write text) ∷ moded mode

written_is : (d : Destination) (text : List ℕ) (made : List (Act Name)) → IsWritten d text (Ok tt) made → made ≡ poured None text ++ done (empty d) ∷ []
written_is d text made h = grind arith

named_is : (kind : Kind) (made : List (Act Name)) → IsNamed kind (Ok tt) made → (kind ≡ Alone) × (made ≡ done (rename Temp Target) ∷ [])
named_is kind made is = grind arith

-- the text of a file
text_of : Content → List ℕ
text_of None = []
text_of (Some text) = text

module _ (first : Name → Content) (before : List (Act Name)) (d : Destination) (text : List ℕ) where
  abbrev IsStill : List (Act Name) → Type 0
  IsStill acts = IsAsBefore first before Target acts

  abbrev IsSafe : List (Act Name) → Type 0
  IsSafe acts = HasOldOrNew d.kind first before text acts

  safe : (acts : List (Act Name)) → IsStill acts → IsSafe acts
  safe acts here = grind arith

  -- if the new file is filled it has the text, and a power cut leaves that
  whole : (filled : List (Act Name)) → IsFilled d text (Ok tt) filled → (c : Content) → MayHave first (filled ++ before) Temp c → c ≡ Some text
  unfolding text_of
  whole filled are c = grind arith

  synced : (filled : List (Act Name)) → IsFilled d text (Ok tt) filled → (kept : List ℕ) → FileMayBeLeft first (filled ++ before) Temp kept → MayHave first (filled ++ before) Temp (Some kept)
  synced filled are kept = grind arith

  -- the name has the old text while the new file is made, which is then given the name
  filled_safe : (filled : List (Act Name)) → AreOf Temp filled before → AtEachMoment IsSafe filled before
  filled_safe filled of = weaken IsStill IsSafe safe filled before (all_still Temp Target from_temp first before filled of)

  module _ (filled : List (Act Name)) (are : IsFilled d text (Ok tt) filled) where
    of : AreOf Temp filled before
    of = (stays_filled d text (Ok tt) filled before tt are).0

    here : IsStill (filled ++ before)
    here = last IsStill filled before (all_still Temp Target from_temp first before filled of)

    abbrev naming : Option Why → List (Act Name)
    naming failed = record { call = rename Temp Target; failed = failed } ∷ filled ++ before

    named : d.kind ≡ Alone → (failed : Option Why) → IsSafe (naming failed)
    named alone failed = grind (arith, whole filled are, synced filled are, here)

    naming_safe : d.kind ≡ Alone → (failed : Option Why) → AtEachMoment IsSafe (record { call = rename Temp Target; failed = failed } ∷ filled) before
    naming_safe alone failed = (filled_safe filled of, named alone (cut_failure (extent_of (rename Temp Target) failed) failed), named alone failed)

    -- or that is refused
    not_named : (why : Why) → is_refusal (kind_of why) ≡ true → AtEachMoment IsStill (record { call = rename Temp Target; failed = Some why } ∷ filled) before
    not_named why refusal = grind (arith, all_still, of, here)

    -- and then the folder is synced
    module _ (alone : d.kind ≡ Alone) where
      settled : (c : Content) → MayBeLeft first (done (sync_folder Target) ∷ naming None) Target c → c ≡ Some text
      settled c h = grind arith

      placed : (result : Result (Unit {0}) Error)
          → LeavesOne d.kind first (record { call = sync_folder Target; failed = failure result } ∷ done (rename Temp Target) ∷ filled) before text result
      placed result = grind (arith, naming_safe alone None, named alone None, whole, settled)

  -- ---- a call failed, and the new file is to be taken away

  taken_away : (made : List (Act Name)) (gone : Option Why) → IsAlone first (record { call = remove Temp; failed = gone } ∷ made) before
  taken_away made None c now = inl now
  taken_away made (Some why) c now = at (is_missing (kind_of why)) refl now
    where
      at : (missing : Bool) → is_missing (kind_of why) ≡ missing → HasAfter (if missing then Whole else if is_refusal (kind_of why) then Nothing else Unsure) (remove Temp) (opened (made ++ before)) (MayHave first (made ++ before)) Temp c
          → (c ≡ None) ⊎ ((w : Why) × (rest : List (Act Name)) × (is_missing (kind_of w) ≡ false) × (record { call = remove Temp; failed = Some why } ∷ made ≡ record { call = remove Temp; failed = Some w } ∷ rest))
      at true is now = inl now
      at false is now = inr (why, made, is, refl)

  still_safe : (gone : Option Why) (acts : List (Act Name)) → IsSafe acts → IsSafe (record { call = remove Temp; failed = gone } ∷ acts)
  still_safe gone acts here = search arith

  given_up : (error : Error) (made : List (Act Name)) (gone : Option Why) → AtEachMoment IsSafe made before
      → LeavesOne d.kind first (record { call = remove Temp; failed = gone } ∷ made) before text (Err error)
  given_up error made gone safely = grind (arith, here, last, still_safe)

  -- the new file does not come to the name
  unplaced_safe : (why : ReplaceError) (made : List (Act Name)) → RenamesIntoPlace d text (Err why) made → AtEachMoment IsSafe made before
  unplaced_safe why made h = grind (arith, filled_safe, of, naming_safe)

  refused_still : (made : List (Act Name)) → RenamesIntoPlace d text (Err Refused) made → AtEachMoment IsStill made before
  refused_still made (inr is) = all_still Temp Target from_temp first before made (stays_filled d text (Err Refused) made before tt is).0
  refused_still made (inl (filled, later, are, named_so, is)) = grind (arith, all_still Temp Target from_temp first before filled (of filled are), not_named filled are)

  pub leaves_one : (result : Result (Unit {0}) Error) (made : List (Act Name)) → IsSynced d text result made ⊎ IsGivenUp d text result made → LeavesOne d.kind first made before text result
  leaves_one result made (inl h) = grind (arith, named_is, placed)
  leaves_one result made (inr (error, tried, gone, failed_so, are, is)) = grind (arith, given_up error tried gone (unplaced_safe (Failed error) tried are))

-- ---- a text over another

module _ (first : Name → Content) (d : Destination) (text : List ℕ) (at : List (Act Name)) where
  abbrev written : List (Act Name)
  written = poured None text ++ done (empty d) ∷ []

  whole_over : (c : Content) → MayHave first (written ++ at) Target c → c ≡ Some text
  unfolding text_of
  whole_over c is = grind arith

  left_over : (kept : List ℕ) → FileMayBeLeft first (written ++ at) Target kept → kept ≡ text
  unfolding text_of
  left_over kept is = grind arith

pub leaves_written : (first : Name → Content) (before : List (Act Name)) (d : Destination) (text : List ℕ) (result : Result (Unit {0}) Error) (tried all made : List (Act Name)) → RenamesIntoPlace d text (Err Refused) tried
    → IsWritten d text result all → EndsWith result all made → LeavesWritten first tried all made before text result
leaves_written first before d text (Ok value) tried all made are is (gone, ends) =
    subst (λ acts. LeavesWritten first tried all acts before text (Ok value)) (sym ends)
    (subst (λ acts. LeavesWritten first tried acts (record { call = remove Temp; failed = gone } ∷ acts) before text (Ok value)) (sym (written_is d text all is)) record {
      each_moment = refused_still first before d text tried are;
      new_stays = all_still Target Temp from_target first (tried ++ before) (written first d text before) (subst (λ acts. AreOf Target acts (tried ++ before)) (written_is d text all is) (stays_written d text (Ok tt) all (tried ++ before) tt is).0);
      found = λ c now. whole_over first d text (tried ++ before) c (grind arith);
      left = λ kept now. left_over first d text (tried ++ before) kept (grind arith);
      beside = taken_away first (tried ++ before) d text (written first d text before) gone;
    })
leaves_written first before d text (Err error) tried all made are is ends = grind (arith, refused_still first before d text tried are, all_still Target Temp from_target first (tried ++ before) all (stays_written d text (Err error) all (tried ++ before) tt is).0)
