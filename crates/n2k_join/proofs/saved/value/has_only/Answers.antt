use Rattle.std.proofs.Common.{◌∙◌, sym, rules, string_bytes, tests}
use Rattle.std.proofs.lemmas.Iterator.Consumers.{YieldsList-from_rest}
use Rattle.std.proofs.lemmas.Iterator.Search.{all_from_yields_List}
use Rattle.std.specs.Map.{keys_of}
use Rattle.n2k_join.specs.Resumed.{is_name}
use Rattle.n2k_join.proofs.SavedLists.{has_only-view}
use Rattle.n2k_join.proofs.saved.value.has_only.Goals as goal

pub returns : goal.returns
returns c =
    let entries = c.args.members.now.entries in
    all_from_yields_List (λ k. is_name c.args.object (string_bytes k)) _ _ _ c.all.ensures.ran (YieldsList-from_rest (keys_of entries) c.keys.ensures.rest) (λ x b q k. search (rules, tests))
    ∙ sym (has_only-view c.args.object entries)
