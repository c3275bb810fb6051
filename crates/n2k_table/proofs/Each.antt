-- Reading the elements of an array one after the other.
use Rattle.std.proofs.Common.{◌≡◌, List, [], ◌∷◌, ◌++◌, Result, Ok, Err, refl, ap}
use Rattle.toml.specs.Data.{Data}
use Rattle.toml.specs.View.{items_of}
use Rattle.n2k_table.specs.declared.fault.TableFault.{TableFault}
use Rattle.n2k_table.specs.Tree.{elements}

-- the elements of an array that was made of a list
pub elements-items_of : (ds : List Data) → elements (items_of ds) ≡ ds
elements-items_of [] = refl
elements-items_of (d ∷ ds) = ap (λ rest. d ∷ rest) (elements-items_of ds)

-- what was read first, followed by what reading gives for the rest
abbrev pub after : {A : Type 0} → List A → Result (List A) TableFault → Result (List A) TableFault
after xs (Ok ys) = Ok (xs ++ ys)
after xs (Err fault) = Err fault
