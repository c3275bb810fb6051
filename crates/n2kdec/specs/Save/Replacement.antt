-- How a text comes to a name: it takes the place of another, so that at each moment one of the two is there, whole; or,
-- if the folder does not allow that or the file has other names, it is written over the file itself.
use Rattle.std.specs.Prelude.{◌≡◌, ◌⊎◌, ◌++◌, ℕ, true, false, List, [], ◌∷◌, Option, Some, None, IfSome}
use Rattle.std.specs.Prelude.{IsErrAnd, OnOk, Result, Ok, Err, if◌then◌else◌, option_map}
use Rattle.std.specs.Option.{is_none}
use Rattle.std.specs.IoError.{error_kind}
use Rattle.std.specs.declared.io.Error.{Error}
use Rattle.clap.specs.Words.{Text}
use Rattle.n2kdec.specs.Save.Destination.{destination, is_missing}
use Rattle.n2kdec.specs.System.Disk.{Act, Acts, Answers, Call, IsAnswerUnlessMemory, Why, acted, closed, failure, kind_of, open_at}
use Rattle.n2kdec.specs.System.Disk.{set_mode, write, sync, rename, remove, sync_folder}
use Rattle.n2kdec.specs.Save.Folder.{Content, FileMayBeLeft, MayBeLeft, MayHave, Name, Target, Temp, after_acts, cut_short}
use Rattle.n2kdec.specs.Save.Folder.{is_refusal, is_taken, makes_new, appends, writes_over}
use Rattle.n2kdec.specs.declared.save.destination.Destination.{Destination}
use Rattle.n2kdec.specs.declared.save.destination.Kind.{Kind}
use Rattle.n2kdec.specs.declared.save.destination.Kind.TheVariants.{Alone, Special}
use Rattle.n2kdec.specs.declared.save.replacement.ReplaceError.{ReplaceError}
use Rattle.n2kdec.specs.declared.save.replacement.ReplaceError.TheVariants.{Refused, Failed}

-- ---- the calls

-- What a function does, by its answer: the calls of the folder that it makes, the last one first.
abbrev pub Doing : Type 0 → Type 1
Doing E = Result (Unit {0}) E → List (Act Name) → Type 0

-- that was done, and no other call made
pub record Makes {E : Type 0} (d : Destination) (before after : Acts) (Does : Doing E) (result : Result (Unit {0}) E)
    : Type 0 where
  pub made : List (Act Name)
  pub acts : after ≡ after_acts d made before
  pub does : Does result made

-- one call
abbrev pub IsOne : Call Name → Doing Error
IsOne call result made = made ≡ acted call result ∷ []

-- the one, and then the other; or the one alone, by whose error it ends
abbrev pub Then : {E : Type 0} → Doing E → Doing E → Doing E
Then One Other result made =
    ((first later : List (Act Name)) × One (Ok tt) first × Other result later × (made ≡ later ++ first))
    ⊎ IsErrAnd result (λ why. One (Err why) made)

-- one with a file that is open, which is closed then, also after an error
abbrev pub Closes : {E : Type 0} → Doing E → Doing E
Closes Does result made = (with_it : List (Act Name)) × Does result with_it × (made ≡ closed ∷ with_it)

-- one of which this comes of the answer
abbrev pub By : (Result (Unit {0}) Error → Result (Unit {0}) ReplaceError) → Doing Error → Doing ReplaceError
By answers Does result made = (answer : Result (Unit {0}) Error) × Does answer made × (result ≡ answers answer)

-- by an error the call failed
abbrev pub failed : Result (Unit {0}) Error → Result (Unit {0}) ReplaceError
failed (Ok done) = Ok done
failed (Err error) = Err (Failed error)

-- or the folder does not allow what was asked of it
abbrev pub judged : Result (Unit {0}) Error → Result (Unit {0}) ReplaceError
judged (Ok done) = Ok done
judged (Err error) = Err (if is_refusal (error_kind error) then Refused else Failed error)

-- The new file is made; if something has its path, a power cut left it, and it is removed first.
abbrev pub make : Call Name
make = open_at Temp makes_new

abbrev pub IsMade : Doing ReplaceError
IsMade result made = (answer : Result (Unit {0}) Error)
    × (((is_taken (option_map kind_of (failure answer)) ≡ false) × (result ≡ judged answer) × IsOne make answer made)
    ⊎ ((later : List (Act Name)) × (is_taken (option_map kind_of (failure answer)) ≡ true)
    × Then (By judged (IsOne (remove Temp))) (By failed (IsOne make)) result later
    × (made ≡ later ++ acted make answer ∷ [])))

-- It gets the permissions of the file in whose place it comes, if one is there, and the text, and is synced and closed.
abbrev pub SetsMode : Option ℕ → Doing Error
SetsMode None result made = (result ≡ Ok tt) × (made ≡ [])
SetsMode (Some mode) result made = IsOne (set_mode mode) result made

abbrev pub WritesContent : Option ℕ → List ℕ → Doing Error
WritesContent mode text result made = Then (Then (SetsMode mode) (IsOne (write text))) (IsOne sync) result made

abbrev pub IsFilled : Destination → List ℕ → Doing ReplaceError
IsFilled d text result made = Then IsMade (By failed (Closes (WritesContent d.mode text))) result made

-- Then it gets the name, if that is its file's one name. Where the file has others, the new one only shows that there
-- is room.
abbrev pub IsNamed : Kind → Doing ReplaceError
IsNamed Alone result made = By judged (IsOne (rename Temp Target)) result made
IsNamed _ result made = (result ≡ Err Refused) × (made ≡ [])

abbrev pub RenamesIntoPlace : Destination → List ℕ → Doing ReplaceError
RenamesIntoPlace d text result made = Then (IsFilled d text) (IsNamed d.kind) result made

-- Then the folder is synced; or, if a call failed, the new file was to be removed.
abbrev pub IsSynced : Destination → List ℕ → Doing Error
IsSynced d text result made =
    (placed : List (Act Name)) × RenamesIntoPlace d text (Ok tt) placed × (made ≡ acted (sync_folder Target) result ∷ placed)

abbrev pub IsGivenUp : Destination → List ℕ → Doing Error
IsGivenUp d text result made =
    (error : Error) × (tried : List (Act Name)) × (gone : Option Why) × (result ≡ Err error)
    × RenamesIntoPlace d text (Err (Failed error)) tried × (made ≡ record { call = remove Temp; failed = gone } ∷ tried)

-- The text is written over what the file of the name has, which is synced and closed; if there is no file, it is made.
-- The new file is taken away once that is done, and not before.
abbrev pub empty : Destination → Call Name
empty d = open_at Target (writes_over (is_none d.mode))

abbrev pub IsWritten : Destination → List ℕ → Doing Error
IsWritten d text result made = Then (IsOne (empty d)) (Closes (WritesContent None text)) result made

abbrev pub EndsWith : Result (Unit {0}) Error → List (Act Name) → List (Act Name) → Type 0
EndsWith (Ok done) written made =
    (gone : Option Why) × (made ≡ record { call = remove Temp; failed = gone } ∷ written)
EndsWith (Err error) written made = made ≡ written

abbrev pub Overwrites : Destination → List ℕ → Doing Error
Overwrites d text result made = (written : List (Act Name)) × IsWritten d text result written × EndsWith result written made

-- to a special file the text is appended, and it is closed
abbrev pub IsAppended : List ℕ → Doing Error
IsAppended text result made = Then (IsOne (open_at Target appends)) (Closes (IsOne (write text))) result made

-- ---- what they leave

-- P holds before these calls, after each of them, and if a power cut interrupts one
abbrev pub AtEachMoment : (List (Act Name) → Type 0) → List (Act Name) → List (Act Name) → Type 0
AtEachMoment P [] before = P before
AtEachMoment P (act ∷ made) before =
    AtEachMoment P made before × P (cut_short act ∷ made ++ before) × P (act ∷ made ++ before)

-- After these calls a name has what it had before them, and so it has after a cut.
pub record IsAsBefore (first : Name → Content) (before : List (Act Name)) (name : Name) (acts : List (Act Name))
    : Type 0 where
  pub found : (c : Content) → MayHave first acts name c → MayHave first before name c
  pub left : (c : Content) → MayBeLeft first acts name c → MayBeLeft first before name c

-- The name has what it had before them or, if that is its file's one name, the new text, whole; so it has after a cut.
pub record HasOldOrNew (kind : Kind) (first : Name → Content) (before : List (Act Name)) (text : List ℕ)
    (acts : List (Act Name)) : Type 0 where
  pub found : (c : Content) → MayHave first acts Target c
      → MayHave first before Target c ⊎ ((kind ≡ Alone) × (c ≡ Some text))
  pub left : (c : Content) → MayBeLeft first acts Target c
      → MayBeLeft first before Target c ⊎ ((kind ≡ Alone) × (c ≡ Some text))

-- nothing is beside the name, unless it could not be removed
abbrev pub IsAlone : (Name → Content) → List (Act Name) → List (Act Name) → Type 0
IsAlone first made before = (c : Content) → MayHave first (made ++ before) Temp c → (c ≡ None)
    ⊎ ((why : Why) × (rest : List (Act Name)) × (is_missing (kind_of why) ≡ false)
    × (made ≡ record { call = remove Temp; failed = Some why } ∷ rest))

-- At each moment the name has the old text or the new one; after Ok the new one, and after each cut from then on.
pub record LeavesOne (kind : Kind) (first : Name → Content) (made before : List (Act Name)) (text : List ℕ)
    (result : Result (Unit {0}) Error) : Type 0 where
  pub each_moment : AtEachMoment (HasOldOrNew kind first before text) made before
  pub found : OnOk result ((c : Content) → MayHave first (made ++ before) Target c → c ≡ Some text)
  pub left : OnOk result ((c : Content) → MayBeLeft first (made ++ before) Target c → c ≡ Some text)
  pub beside : IsAlone first made before

-- Until the text is written over it the file has the old one, and until that is done the new file stays as it is. After
-- Ok the name has the text, and as long as the file has the name a cut leaves it. Else a cut may leave any text, and so
-- may a failure.
pub record LeavesWritten (first : Name → Content) (tried written made before : List (Act Name)) (text : List ℕ)
    (result : Result (Unit {0}) Error) : Type 0 where
  pub each_moment : AtEachMoment (IsAsBefore first before Target) tried before
  pub new_stays : AtEachMoment (IsAsBefore first (tried ++ before) Temp) written (tried ++ before)
  pub found : OnOk result ((c : Content) → MayHave first (made ++ tried ++ before) Target c → c ≡ Some text)
  pub left : OnOk result ((kept : List ℕ) → FileMayBeLeft first (made ++ tried ++ before) Target kept → kept ≡ text)
  pub beside : OnOk result (IsAlone first made (tried ++ before))

-- A regular file, or none, is replaced; or it is written over, if the folder refuses it or the file has other names.
-- Whatever calls were made before, each of them leaves what it should.
abbrev pub IsKept : Destination → List ℕ → Doing Error
IsKept d text result made = ((IsSynced d text result made ⊎ IsGivenUp d text result made)
    × ((first : Name → Content) (before : List (Act Name)) → LeavesOne d.kind first made before text result))
    ⊎ ((tried written over : List (Act Name)) × RenamesIntoPlace d text (Err Refused) tried × IsWritten d text result written
    × EndsWith result written over × (made ≡ over ++ tried)
    × ((first : Name → Content) (before : List (Act Name)) → LeavesWritten first tried written over before text result))

-- by what is there
abbrev pub IsKeptAs : Kind → Destination → List ℕ → Doing Error
IsKeptAs Special d text result made = IsAppended text result made
IsKeptAs _ d text result made = IsKept d text result made

-- ---- where a name leads

-- the destination of this name is found, or none is, as far as the disk's results are known
abbrev pub IsFoundFor : Option Answers → Text → Result Destination Error → Type 0
IsFoundFor answers name found = IfSome answers (λ a. IsAnswerUnlessMemory (λ d. d) (destination a name) found)

-- A text comes to the file to which a name leads. Only if that can't be found out, by this error, or memory is
-- refused, nothing is done.
abbrev pub KeepsText : Option Answers → Acts → Acts → Text → List ℕ → Result (Unit {0}) Error → Type 0
KeepsText answers old new name text result =
    ((d : Destination) × IsFoundFor answers name (Ok d) × Makes d old new (IsKeptAs d.kind d text) result)
    ⊎ ((new ≡ old) × IsErrAnd result (λ error. IsFoundFor answers name (Err error)))
