-- Which calls a function makes of a folder, one after the other.
use Rattle.std.proofs.Common.{arith, ◌≡◌, ◌≢◌, ◌⊎◌, ℕ, true, false, List, [], ◌∷◌, ◌++◌, Option, None, Some, option_map, Result, Ok, Err, IsErrAnd, MatchResult, inl, inr, refl, subst, sym, ap, ◌∙◌}
use Rattle.std.specs.declared.fs.OpenOptions.{OpenOptions}
use Rattle.std.specs.declared.io.Error.{Error}
use Rattle.clap.specs.Words.{Text}
use Rattle.n2kdec.specs.Save.Destination.{folder_of}
use Rattle.n2kdec.specs.System.Disk.{Act, Acts, Answers, Call, acted, closed, failure, kind_of, noted, open_at, remove, rename, set_mode, sync_folder}
use Rattle.n2kdec.specs.Save.Folder.{Name, Target, Temp, act_at, after_acts, is_taken, path_of}
use Rattle.n2kdec.specs.Save.Replacement.{By, Closes, Doing, IsAppended, IsFoundFor, IsKept, IsKeptAs, IsMade, SetsMode, IsNamed, IsOne, Overwrites, RenamesIntoPlace, IsWritten, KeepsText, Makes, Then, failed, judged, make}
use Rattle.n2kdec.specs.declared.save.destination.Destination.{Destination}
use Rattle.n2kdec.specs.declared.save.destination.Kind.{Kind}
use Rattle.n2kdec.specs.declared.save.destination.Kind.TheVariants.{Alone, Shared, Special}
use Rattle.n2kdec.specs.declared.save.replacement.ReplaceError.{ReplaceError}
use Rattle.n2kdec.specs.declared.save.replacement.ReplaceError.TheVariants.{Refused, Failed}
use Rattle.n2kdec.proofs.save.Replacing.{leaves_one, leaves_written}

both : (d : Destination) (later made : List (Act Name)) (a : Acts) → after_acts d (later ++ made) a ≡ after_acts d later (after_acts d made a)
both d [] made a = refl
both d (act ∷ later) made a = ap (noted (act_at d act)) (both d later made a)

module _ {d : Destination} {a b : Acts} where
  -- one call
  pub one : (call : Call Name) (result : Result (Unit {0}) Error) → b ≡ noted (act_at d (acted call result)) a → Makes d a b (IsOne call) result
  one call result is = record { made = acted call result ∷ []; acts = is; does = refl }

  pub opened : (name : Name) (path : Text) (how asked : OpenOptions) (result : Result (Unit {0}) Error) → path ≡ path_of d name → asked ≡ how → b ≡ noted (acted (open_at path asked) result) a → Makes d a b (IsOne (open_at name how)) result
  opened name path how asked result at so is = one (open_at name how) result (is ∙ ap (λ p. noted (acted (open_at p asked) result) a) at ∙ ap (λ h. noted (acted (open_at (path_of d name) h) result) a) so)

  pub removed : (name : Name) (path : Text) (result : Result (Unit {0}) Error) → path ≡ path_of d name → b ≡ noted (acted (remove path) result) a → Makes d a b (IsOne (remove name)) result
  removed name path result at is = one (remove name) result (is ∙ ap (λ p. noted (acted (remove p) result) a) at)

  pub renamed : (from to : Text) (result : Result (Unit {0}) Error) → from ≡ d.temp → to ≡ d.target → b ≡ noted (acted (rename from to) result) a → Makes d a b (IsOne (rename Temp Target)) result
  renamed from to result is_from is_to is = one (rename Temp Target) result (is ∙ ap (λ p. noted (acted (rename p to) result) a) is_from ∙ ap (λ p. noted (acted (rename d.temp p) result) a) is_to)

  pub folder_synced : (path folder : Text) (result : Result (Unit {0}) Error) → folder ≡ folder_of path → path ≡ d.target → b ≡ noted (acted (sync_folder folder) result) a → Makes d a b (IsOne (sync_folder Target)) result
  folder_synced path folder result of_path at is = one (sync_folder Target) result (is ∙ ap (λ p. noted (acted (sync_folder p) result) a) (of_path ∙ ap folder_of at))

  -- calls of functions one after the other
  pub after : {c : Acts} {E : Type 0} {One Other : Doing E} {value : Unit {0}} {result : Result (Unit {0}) E} → Makes d a b One (Ok value) → Makes d b c Other result → Makes d a c (Then One Other) result
  after first later = record {
    made = later.made ++ first.made;
    acts = later.acts ∙ ap (after_acts d later.made) first.acts ∙ sym (both d later.made first.made a);
    does = inl (first.made, later.made, first.does, later.does, refl);
  }

  pub ended : {E : Type 0} {One : Doing E} (Other : Doing E) {error : E} {result : Result (Unit {0}) E} → Makes d a b One (Err error) → IsErrAnd result (λ why. why ≡ error) → Makes d a b (Then One Other) result
  ended Other makes told = grind arith

  pub by : {Does : Doing Error} {answer : Result (Unit {0}) Error} (answers : Result (Unit {0}) Error → Result (Unit {0}) ReplaceError) {result : Result (Unit {0}) ReplaceError} → Makes d a b Does answer → result ≡ answers answer → Makes d a b (By answers Does) result
  by answers makes same = record { made = makes.made; acts = makes.acts; does = (_, makes.does, same) }

  pub failing : {Does : Doing Error} {answer : Result (Unit {0}) Error} {result : Result (Unit {0}) ReplaceError} → Makes d a b Does answer → MatchResult answer (λ x. result ≡ Ok x) (λ e. IsErrAnd result (λ why. why ≡ Failed e)) → Makes d a b (By failed Does) result
  failing makes same = by failed makes (grind arith)

  pub closing : {c : Acts} {E : Type 0} {Does : Doing E} {answer : Result (Unit {0}) E} → Makes d a b Does answer → c ≡ noted closed b → Makes d a c (Closes Does) answer
  closing makes last = record { made = closed ∷ makes.made; acts = last ∙ ap (noted closed) makes.acts; does = (makes.made, makes.does, refl) }

  -- a new file is made
  pub made_at_once : (answer : Result (Unit {0}) Error) (result : Result (Unit {0}) ReplaceError) → Makes d a b (IsOne make) answer → is_taken (option_map kind_of (failure answer)) ≡ false → result ≡ judged answer → Makes d a b IsMade result
  made_at_once answer result makes free same = record { made = makes.made; acts = makes.acts; does = (answer, inl (free, same, makes.does)) }

  pub made_anew : {c : Acts} {answer : Result (Unit {0}) Error} {result : Result (Unit {0}) ReplaceError} → is_taken (option_map kind_of (failure answer)) ≡ true → Makes d a b (IsOne make) answer → Makes d b c (Then (By judged (IsOne (remove Temp))) (By failed (IsOne make))) result → Makes d a c IsMade result
  made_anew {c} {answer} taken makes anew = record {
    made = anew.made ++ makes.made;
    acts = anew.acts ∙ ap (after_acts d anew.made) makes.acts ∙ sym (both d anew.made makes.made a);
    does = (answer, inr (anew.made, taken, anew.does, ap (λ made. anew.made ++ made) makes.does));
  }

  pub moded : (mode : Option ℕ) (bits : ℕ) (result : Result (Unit {0}) Error) → mode ≡ Some bits → b ≡ noted (acted (set_mode bits) result) a → Makes d a b (SetsMode mode) result
  moded mode bits result is noted_so = subst (λ m. Makes d a b (SetsMode m) result) (sym is) (one (set_mode bits) result noted_so)

  -- and named
  pub named : (kind : Kind) (result : Result (Unit {0}) ReplaceError) → kind ≡ Alone → Makes d a b (By judged (IsOne (rename Temp Target))) result → Makes d a b (IsNamed kind) result
  named kind result is makes = subst (λ k. Makes d a b (IsNamed k) result) (sym is) makes

  module _ {text : List ℕ} where
    pub over : {c : Acts} {value : Unit {0}} {removed : Result (Unit {0}) Error} → Makes d a b (IsWritten d text) (Ok value) → Makes d b c (IsOne (remove Temp)) removed → Makes d a c (Overwrites d text) (Ok tt)
    over {c} {value} {removed} written gone = record {
      made = gone.made ++ written.made;
      acts = gone.acts ∙ ap (after_acts d gone.made) written.acts ∙ sym (both d gone.made written.made a);
      does = (written.made, written.does, (failure removed, ap (λ made. made ++ written.made) gone.does));
    }

    pub not_over : {error : Error} {result : Result (Unit {0}) Error} → Makes d a b (IsWritten d text) (Err error) → IsErrAnd result (λ why. why ≡ error) → Makes d a b (Overwrites d text) result
    not_over makes told = grind arith

    pub synced : {c : Acts} {value : Unit {0}} {result : Result (Unit {0}) Error} → Makes d a b (RenamesIntoPlace d text) (Ok value) → Makes d b c (IsOne (sync_folder Target)) result → Makes d a c (IsKept d text) result
    synced {c} {value} {result} placed last =
        let so = inl (placed.made, placed.does, ap (λ acts. acts ++ placed.made) last.does) in
        record {
          made = last.made ++ placed.made;
          acts = last.acts ∙ ap (after_acts d last.made) placed.acts ∙ sym (both d last.made placed.made a);
          does = inl (so, λ first before. leaves_one first before d text result (last.made ++ placed.made) so);
        }

    pub given_up : {c : Acts} {error : Error} {removed : Result (Unit {0}) Error} → Makes d a b (RenamesIntoPlace d text) (Err (Failed error)) → Makes d b c (IsOne (remove Temp)) removed → Makes d a c (IsKept d text) (Err error)
    given_up {c} {error} {removed} tried gone =
        let so = inr (error, tried.made, failure removed, refl, tried.does, ap (λ acts. acts ++ tried.made) gone.does) in
        record {
          made = gone.made ++ tried.made;
          acts = gone.acts ∙ ap (after_acts d gone.made) tried.acts ∙ sym (both d gone.made tried.made a);
          does = inl (so, λ first before. leaves_one first before d text (Err error) (gone.made ++ tried.made) so);
        }

    pub written_over : {c : Acts} {result : Result (Unit {0}) Error} → Makes d a b (RenamesIntoPlace d text) (Err Refused) → Makes d b c (Overwrites d text) result → Makes d a c (IsKept d text) result
    written_over {c} {result} tried over = record {
      made = over.made ++ tried.made;
      acts = over.acts ∙ ap (after_acts d over.made) tried.acts ∙ sym (both d over.made tried.made a);
      does = inr (tried.made, over.does.0, over.made, tried.does, over.does.1, over.does.2, refl, λ first before. leaves_written first before d text result tried.made over.does.0 over.made tried.does over.does.1 over.does.2);
    }

-- nothing is done
module _ {d : Destination} (a : Acts) where
  pub not_moded : (mode : Option ℕ) (value : Unit {0}) → mode ≡ None → Makes d a a (SetsMode mode) (Ok value)
  not_moded mode value is = subst (λ m. Makes d a a (SetsMode m) (Ok value)) (sym is) (record { made = []; acts = refl; does = (refl, refl) })

  pub not_named : (kind : Kind) → kind ≢ Alone → Makes d a a (IsNamed kind) (Err Refused)
  not_named kind other = grind arith

-- for each of these functions
pub ruleset steps = (one, opened, removed, renamed, folder_synced, made_at_once, moded, not_moded, named, not_named, over, not_over)

-- ---- where a name leads

module _ (answers : Option Answers) (old new : Acts) (name : Text) (text : List ℕ) (result : Result (Unit {0}) Error) where
  pub kept_nowhere : (error : Error) → IsFoundFor answers name (Err error) → IsErrAnd result (λ why. why ≡ error) → KeepsText answers old old name text result
  kept_nowhere error nowhere is = grind arith

  -- by what is there
  module _ (d : Destination) (found : IsFoundFor answers name (Ok d)) where
    pub kept_regular : (d.kind ≡ Alone) ⊎ (d.kind ≡ Shared) → Makes d old new (IsKept d text) result → KeepsText answers old new name text result
    kept_regular (inl is) makes = inl (d, found, subst (λ k. Makes d old new (IsKeptAs k d text) result) (sym is) makes)
    kept_regular (inr is) makes = inl (d, found, subst (λ k. Makes d old new (IsKeptAs k d text) result) (sym is) makes)

    pub kept_special : d.kind ≡ Special → Makes d old new (IsAppended text) result → KeepsText answers old new name text result
    kept_special is makes = inl (d, found, subst (λ k. Makes d old new (IsKeptAs k d text) result) (sym is) makes)
