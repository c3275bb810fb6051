use Rattle.std.proofs.Common.{◌∙◌, sym}
use Rattle.n2k_join.specs.Frames.{same_key}
use Rattle.n2k_join.proofs.Listed.{places-key}
use Rattle.n2k_join.proofs.Rising.{none_from}
use Rattle.n2k_join.proofs.frame_taking.place_of.Goals as goal

pub returns-in_default-clause-place : goal.returns-in_default-clause-place
unfolding same_key
returns-in_default-clause-place c = places-key c.args.key.now c.args.groups.now.groups.entries c.get_index_of.result c.get_index_of.ensures.index

pub returns-in_default-clause-none : goal.returns-in_default-clause-none
unfolding same_key
returns-in_default-clause-none c = λ none. none_from _ (sym c.get_index_of.ensures.found ∙ none)
