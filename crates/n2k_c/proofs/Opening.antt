-- What a call returns, from what its parts do.
use Rattle.std.proofs.Common.{◌≡◌, ℕ, Bool, true, false, true≢false, List, [], Option, Some, None, IsSome, Result, Ok, Err, MatchResult, is_some, option_map, refl, sym, ap, ◌∙◌, subst, arith}
use Rattle.n2k_table.specs.Table.{TableParts, faults, table}
use Rattle.n2k_run.specs.declared.options.Options.{Options}
use Rattle.n2k_run.specs.Decoded.{out, reports}
use Rattle.n2k_run.specs.Parts.{IsPrefix}
use Rattle.n2k_c.specs.declared.Settings.{Settings}
use Rattle.n2k_c.specs.declared.decoder.Decoder.{Decoder}
use Rattle.n2k_c.specs.declared.refusal.Refusal.{Refusal}
use Rattle.n2k_c.specs.declared.refusal.Refusal.TheVariants.{Closed, Encoder, Room, Memory, Table}
use Rattle.n2k_c.specs.Answers.{HasTable, IsDecoderOf, NotMoved, NotOpened, NotOpenedSharing, NotOpenedWith, NotSaved, NotSavedInto, OpensDecoder, OpensSharing, OpensWith, Sized, WantsRoom, are_known, settings_options}
use Rattle.n2k_c.specs.Inner.{IsTableOf, NotRead, NotShared}
use Rattle.n2k_c.specs.Job.{decoding}
use Rattle.n2k_c.specs.Stands.{Stands}

-- before the first line nothing was printed
nothing_out : (t : TableParts) (o : Options) → out t o [] ≡ []
unfolding out
nothing_out t o = refl

nothing_told : (t : TableParts) (o : Options) → reports t o [] ≡ []
unfolding reports
nothing_told t o = refl

-- and no state is that of the empty prefix
first : (t : TableParts) (o : Options) → IsPrefix t o [] None
first t o = record { whole_lines = λ some. absurd (omega (arith, some)); leads_to = refl }

Gives : TableParts → Options → Option (List ℕ) → Decoder → Type 0
Gives t o handed d = (prefix : List ℕ) → IsPrefix t o prefix handed → Stands t (decoding o) prefix false (out t o prefix) (reports t o prefix) d

pub decodes_by : (t : TableParts) (settings : Settings) (handed : Option (List ℕ)) (o : Options) (d : Decoder) → are_known settings ≡ true → o ≡ settings_options settings
    → ((prefix : List ℕ) → IsPrefix t o prefix handed → Stands t (decoding o) prefix false (out t o prefix) (reports t o prefix) d) → IsDecoderOf t settings handed d
unfolding Gives
decodes_by t settings handed o d known is_o gives =
    let own = settings_options settings in
    let a : Gives t o handed d = gives in
    let b = subst (λ (x : Options). Gives t x handed d) is_o a in
    record {
      known = known;
      begins = λ none.
          let at = b [] (subst (λ (h : Option (List ℕ)). IsPrefix t own [] h) (sym none) (first t own)) in
          let printed = subst (λ (text : List ℕ). Stands t (decoding own) [] false text (reports t own []) d) (nothing_out t own) at in
          subst (λ (text : List ℕ). Stands t (decoding own) [] false [] text d) (nothing_told t own) printed;
      goes_on = b;
    }

-- no state was handed in
pub no_state : {A B : Type 0} (f : A → B) (handed : Option A) → is_some handed ≡ false → option_map f handed ≡ None
no_state f (Some x) none = absurd (true≢false none)
no_state f None none = refl

-- what is not live holds nothing
pub none_is : (x : Option Decoder) (live : Bool) → live ≡ is_some x → live ≡ false → x ≡ None
none_is (Some d) live tied off = absurd (true≢false (sym tied ∙ off))
none_is None live tied off = refl

-- ---- with a table that was read, or is that of another one

decoder_in : Decoder → Option Decoder → Decoder
decoder_in d (Some e) = e
decoder_in d None = d

same_table : (other : Option Decoder) (t u : TableParts) → IsTableOf other t → HasTable other u → t ≡ u
unfolding decoder_in
same_table other t u it has = it.2 ∙ ap (λ (d : Decoder). d.table.value) (ap (decoder_in it.0) (sym it.1 ∙ has.is)) ∙ has.table

is_open : (other : Option Decoder) (t : TableParts) → IsTableOf other t → IsSome other
is_open other t it = subst IsSome (sym it.1) refl

module _ (settings : Settings) (handed : Option (List ℕ)) (old new : Option Decoder) where
  pub not_read : (toml : List ℕ) (refusal : Refusal) → new ≡ old → NotRead toml refusal → NotOpened toml settings handed old new refusal
  not_read toml Memory same why = (same, tt)
  not_read toml (Table fault) same why = (same, why)
  not_read toml _ same why = absurd why

  pub opens_read : (toml : List ℕ) (t : TableParts) (result : Result (Unit {0}) Refusal) → faults toml ≡ [] → t ≡ table toml
      → MatchResult result (λ _. OpensWith t settings handed old new) (NotOpenedWith t settings handed old new)
      → MatchResult result (λ _. OpensDecoder toml settings handed old new) (NotOpened toml settings handed old new)
  opens_read toml t (Ok x) sound is opened = (sound, subst (λ (y : TableParts). OpensWith y settings handed old new) is opened)
  opens_read toml t (Err (Table fault)) sound is why = absurd why.1
  opens_read toml t (Err refusal) sound is why = subst (λ (y : TableParts). NotOpenedWith y settings handed old new refusal) is why

  pub not_shared : (other : Option Decoder) (refusal : Refusal) → new ≡ old → NotShared other refusal → NotOpenedSharing other settings handed old new refusal
  not_shared other Closed same why = (why, same)
  not_shared other Memory same why = (why, λ t has. (same, tt))
  not_shared other _ same why = absurd why

  pub opens_sharing : (other : Option Decoder) (t : TableParts) (result : Result (Unit {0}) Refusal) → IsTableOf other t
      → MatchResult result (λ _. OpensWith t settings handed old new) (NotOpenedWith t settings handed old new)
      → MatchResult result (λ _. OpensSharing other settings handed old new) (NotOpenedSharing other settings handed old new)
  opens_sharing other t (Ok x) it opened = (is_open other t it, λ u has. subst (λ (y : TableParts). OpensWith y settings handed old new) (same_table other t u it has) opened)
  opens_sharing other t (Err Closed) it why = absurd why.1
  opens_sharing other t (Err refusal) it why = (is_open other t it, λ u has. subst (λ (y : TableParts). NotOpenedWith y settings handed old new refusal) (same_table other t u it has) why)

-- ---- a text that did not come into a room

pub not_moved : (Done : Type 0) (waiting : Decoder → List ℕ) (before after : Sized) (old new : Option Decoder) (from to : Decoder) (refusal : Refusal) (result : Result (Unit {0}) Refusal)
    → result ≡ Err refusal → refusal ≡ Room → old ≡ Some from → new ≡ Some to → to ≡ from → WantsRoom (waiting from) before.0 after.0 after.1
    → MatchResult result (λ _. Done) (NotMoved waiting before after old new)
not_moved Done waiting before after old new from to refusal result answer is was now same why =
    subst (λ r. MatchResult r (λ _. Done) (NotMoved waiting before after old new)) (sym (answer ∙ ap (λ (r : Refusal). let e : Result (Unit {0}) Refusal = Err r in e) is))
    (record { from = from; to = to; was = was; is = now; how = (same, why) })

not_saved_by : (before after : Sized) (old new : Option Decoder) (from to : Decoder) (refusal : Refusal) → old ≡ Some from → new ≡ Some to → to ≡ from → NotSavedInto before after from refusal
    → NotSaved before after old new refusal
not_saved_by before after old new from to Room was now same why = record { from = from; to = to; was = was; is = now; how = (same, why) }
not_saved_by before after old new from to Memory was now same why = record { from = from; to = to; was = was; is = now; how = (same, why) }
not_saved_by before after old new from to Encoder was now same why = record { from = from; to = to; was = was; is = now; how = (same, why) }
not_saved_by before after old new from to _ was now same why = absurd why

pub not_saved : (Done : Type 0) (before after : Sized) (old new : Option Decoder) (from to : Decoder) (refusal : Refusal) (result : Result (Unit {0}) Refusal)
    → result ≡ Err refusal → old ≡ Some from → new ≡ Some to → to ≡ from → NotSavedInto before after from refusal
    → MatchResult result (λ _. Done) (NotSaved before after old new)
not_saved Done before after old new from to refusal result answer was now same why =
    subst (λ r. MatchResult r (λ _. Done) (NotSaved before after old new)) (sym answer) (not_saved_by before after old new from to refusal was now same why)
