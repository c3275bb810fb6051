-- From what `clap` says of a parse to what the words ask for.
use Rattle.std.proofs.Common.{arith, ◌≡◌, ◌⊎◌, ℕ, List, [], ◌∷◌, codes, true, Option, Some, None, Result, Ok, Err, IfErr, IfOk, IfSome, ap, subst, sym, refl, inl, inr, ◌≢◌, ◌∙◌, Vec}
use Rattle.clap.specs.Words.{App, FailsBy, HasKind, HasMatchesOf, IsAmong, Kinds, Row, Text, fault_of, is_simple, is_simple_and_free, kind_of, subcommand_of, takes}
use Rattle.clap.specs.declared.error.Error.{Error}
use Rattle.clap.specs.declared.parser.matches.ArgMatches.{ArgMatches}
use Rattle.clap.specs.declared.error.kind.ErrorKind.{ErrorKind}
use Rattle.clap.specs.declared.error.kind.ErrorKind.TheVariants.{DisplayHelp, DisplayVersion, OutOfMemory}
use Rattle.clap.proofs.OnLiterals.{clap_on_literals}
use Rattle.std.specs.declared.alloc.AllocError.{AllocError}
use Rattle.std.specs.declared.alloc.Global.{Global}
use Rattle.n2kdec.specs.declared.command_line.asked.Command.{Command}
use Rattle.n2kdec.specs.declared.command_line.asked.ParsedArgs.{ParsedArgs}
use Rattle.n2kdec.specs.declared.command_line.asked.ParsedArgs.TheVariants as to
use Rattle.n2kdec.specs.declared.fault.Fault.{Fault}
use Rattle.n2kdec.specs.declared.fault.Fault.TheVariants as fault
use Rattle.n2kdec.specs.CommandLine.Usage.{program_app}
use Rattle.n2kdec.specs.declared.command_line.TheConstants.{NO_WINDOW}
use Rattle.n2kdec.specs.CommandLine.Asked.{AreMatchesOf, HasLines, IsAsked, said_at}
use Rattle.n2kdec.specs.System.Machine.{AsksFor, Environment}
use Rattle.n2kdec.specs.Inner.Parse.{AnswersKind}
use Rattle.n2kdec.specs.CommandLine.Words.{Names, command_of, named}

-- the command is one of those whose matches and faults are known
program_is_simple : is_simple program_app ≡ true
unfolding program_app clap_on_literals
program_is_simple = refl

program_is_free : is_simple_and_free program_app ≡ true
unfolding program_app clap_on_literals
program_is_free = refl

-- it has one request for each of these words, and nothing else at them; so neither is refused
help_is_a_request : fault_of program_app (codes "n2kdec" ∷ codes "--help" ∷ []) ≡ DisplayHelp ∷ []
unfolding program_app clap_on_literals
help_is_a_request = refl

version_is_a_request : fault_of program_app (codes "n2kdec" ∷ codes "--version" ∷ []) ≡ DisplayVersion ∷ []
unfolding program_app clap_on_literals
version_is_a_request = refl

-- so what a parse by it gives is what the definition says
pub matches_as_defined : (app : App) (words : List Text) (r : Result ArgMatches Error) → app ≡ program_app → IfOk r (HasMatchesOf app words)
    → (is_simple_and_free app ≡ true → FailsBy (fault_of app words) r) → IfOk r (AreMatchesOf words)
matches_as_defined app words r is found kinds = grind (arith, program_is_free, program_is_simple)

pub kinds_as_defined : (app : App) (words : List Text) (r : Result ArgMatches Error) → app ≡ program_app → (is_simple_and_free app ≡ true → FailsBy (fault_of app words) r)
    → IfErr r (HasKind (fault_of program_app words))
kinds_as_defined app words (Ok matches) is kinds = tt
kinds_as_defined app words (Err e) is kinds = subst (λ a. is_simple_and_free a ≡ true → HasKind (fault_of a words) e) is kinds program_is_free

pub taken_as_defined : (app : App) (words : List Text) (r : Result ArgMatches Error) → app ≡ program_app → IfErr r (λ e. takes app words ≡ true → kind_of e ≡ OutOfMemory)
    → IfErr r (λ e. takes program_app words ≡ true → kind_of e ≡ OutOfMemory)
taken_as_defined app words r is passes = subst (λ a. IfErr r (λ e. takes a words ≡ true → kind_of e ≡ OutOfMemory)) is passes

-- ---- what is asked for

-- what was typed asks for this
module _ (w : Environment) (r : ParsedArgs) where
  pub typed_asks : (typed : List Text) → IfSome w.typed (λ known. typed ≡ known) → IsAsked r typed → AsksFor w r
  typed_asks typed is asked = inl (typed, is, asked)

  -- memory was refused
  pub memory_asks : r ≡ to.Refused (fault.Memory None) None → AsksFor w r
  memory_asks is =
      inl (elim w.typed as (λ k. (typed : List Text) × IfSome k (λ known. typed ≡ known) × IsAsked r typed) [ None ↦ ([], tt, grind arith) | Some typed ↦ (typed, refl, grind arith) ])

pub ruleset asks = (typed_asks, memory_asks)

-- they are no texts, or memory was refused
pub refused_asks : (w : Environment) (f : Fault) → (f ≡ fault.Words) ⊎ (f ≡ fault.Memory None) → (f ≡ fault.Words → w.typed ≡ None) → AsksFor w (to.Refused f None)
refused_asks w f (inl is) unknown = inr (unknown is, ap (λ f. to.Refused f None) is)
refused_asks w f (inr is) unknown = memory_asks w (to.Refused f None) (ap (λ f. to.Refused f None) is)

-- the matches are those of the definition, so what is named in them is what the words name
module _ (words : List Text) (rows : Option (Text × List Row)) (same : rows ≡ subcommand_of program_app words) (none : fault_of program_app words ≡ []) where
  pub named_by_matches : (r : Result Command Fault) → Names (named rows) r → Names (command_of words) r
  unfolding command_of
  named_by_matches r names = subst (λ x. Names (named x) r) same names

  pub asked_command : (c : Command) → Names (named rows) (Ok c) → IsAsked (to.Command c) words
  asked_command c names = (none, named_by_matches (Ok c) names)

  pub asked_fault : (f : Fault) → f ≢ fault.Words → Names (named rows) (Err f) → IsAsked (to.Refused f None) words
  unfolding command_of
  asked_fault f other names = grind arith

  pub asked_words : (lines : Option (Result (Vec ℕ Global) AllocError)) → Names (named rows) (Err fault.Words) → HasLines fault.Words (Some NO_WINDOW.now) lines → IsAsked (to.Refused fault.Words lines) words
  unfolding command_of
  asked_words lines names said = grind arith

-- the parse failed, by a kind among those of the definition, or because memory was refused
said_at_fault : (kinds : Kinds) (kind : ErrorKind) → IsAmong kind kinds → said_at kinds ≡ None
said_at_fault kinds kind among = grind arith

module _ (words : List Text) (e : Error) (kind : ErrorKind) (is : kind ≡ kind_of e) where
  pub asked_by_refusal : (r : ParsedArgs) → HasKind (fault_of program_app words) e → AnswersKind kind None r → IsAsked r words
  asked_by_refusal (to.Help help) fails answers = grind arith
  asked_by_refusal (to.Command command) fails answers = absurd answers
  asked_by_refusal (to.Refused fault.Words lines) (inl memory) answers = absurd (answers.2 (is ∙ memory))
  asked_by_refusal (to.Refused fault.Words lines) (inr among) answers = (
    inl (kind, subst (λ k. IsAmong k (fault_of program_app words)) (sym is) among, answers.0, answers.1),
    subst (λ said. HasLines fault.Words said lines) (sym (said_at_fault (fault_of program_app words) (kind_of e) among)) answers.3,
  )
  asked_by_refusal (to.Refused (fault.Memory read) lines) fails answers = answers
  asked_by_refusal (to.Refused _ lines) fails answers = absurd answers
