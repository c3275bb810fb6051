-- Sets in the data, one after the other.
use Rattle.std.proofs.Common.{◌≡◌, List, [], ◌∷◌, Result, Ok, Err, refl}
use Rattle.n2k_table.specs.Repeat.{RepeatParts}
use Rattle.n2k_encode.specs.Coded.{CodedParts}
use Rattle.n2k_encode.specs.Draft.{SetsParts, laid_sets, with_set_of}
use Rattle.n2k_encode.specs.Refusal.{CauseParts}
use Rattle.n2k_encode.specs.Steps.{before_all}

-- one set more
pub laid_more : (r : RepeatParts) (own : List CodedParts) (all : SetsParts) (cs : List CodedParts) (others : Result (List (List CodedParts)) CauseParts)
    → laid_sets r own all (before_all (cs ∷ []) others) ≡ laid_sets r own (with_set_of r own all cs) others
laid_more r own all cs (Ok sets) = refl
laid_more r own all cs (Err cause) = refl

pub ruleset laid_rules = (laid_more)
