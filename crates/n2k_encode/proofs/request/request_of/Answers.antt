use Rattle.std.proofs.Common.{rules, ◌≡◌, true, codes, Some, option_map}
use Rattle.json.specs.Find.{get}
use Rattle.json.specs.Value.{value_view}
use Rattle.n2k_encode.specs.Request.{members_known, fields_of, id_of, stamp_of, optional_text}
use Rattle.n2k_encode.proofs.Requests.{request_found}
use Rattle.n2k_encode.proofs.request.request_of.Goals as goal

pub returns-clause-asked : goal.returns-clause-asked
returns-clause-asked c =
    let j = value_view c.args.object.now in
    let known : members_known (value_view c.args.object.now) ≡ true = search rules in
    let f : fields_of (value_view c.args.object.now) ≡ Some (value_view c.in_ok-fields.fields.now) = search rules in
    let i : id_of (value_view c.args.object.now) ≡ Some c.in_ok-id.id = search rules in
    let s : stamp_of (value_view c.args.object.now) ≡ Some c.in_ok-stamp.stamp.now = search rules in
    let d : optional_text (get (codes "description") (value_view c.args.object.now)) ≡ Some (option_map (λ t. t.now) c.in_ok-description.description) = search rules in
    request_found j _ _ _ _ known f i s d
