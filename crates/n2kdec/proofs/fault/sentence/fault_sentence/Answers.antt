use Rattle.std.proofs.Common.{◌≡◌, ℕ, List, Option, Bor, option_map, refl}
use Rattle.std.specs.declared.io.Error.{Error}
use Rattle.n2kdec.specs.Fault.Sentence.{IsLine, IsSentence, SystemWords}
use Rattle.n2kdec.specs.declared.command_line.asked.Command.{Command}
use Rattle.n2kdec.specs.declared.fault.Fault.{Fault}
use Rattle.n2kdec.specs.declared.fault.Fault.TheVariants.{Read}
use Rattle.n2kdec.specs.declared.save.keeper.SaveError.{SaveError}
use Rattle.n2kdec.proofs.fault.sentence.fault_sentence.Goals as goal

-- the sentence of another fault than a failed read is its line
alone : (system : SystemWords) (command : Option Command) (fault : Fault) (text : List ℕ) → ((lines : ℕ) (why : Option Error) (unkept : Option SaveError) → fault ≡ Read lines why unkept → ⊥) → IsLine system command fault text
    → IsSentence system command fault text
alone system command (Read lines why unkept) text not is = absurd (not lines why unkept refl)
alone system command _ text not is = is

pub returns-in_default : goal.returns-in_default
returns-in_default g c = alone g.M.Machine.words (option_map (λ (c' : Bor Command). c'.now) c.args.command) c.args.fault c.in_ok-text.text.items c.in_default.not-Read c.in_ok-text.ensures
