use Rattle.std.proofs.Common.{◌≡◌, ◌++◌, Option, Some, ap, ◌∙◌, rules}
use Rattle.std.specs.List.{join_with_byte}
use Rattle.n2k_table.specs.Shown.{all_shown}
use Rattle.n2k_table.specs.Repeat.{RepeatParts, all_sets}
use Rattle.n2k_table.specs.Json.{members, list_json, repeat_members}
use Rattle.n2k_table.proofs.Begins.{begins_self, begins_more, adds_last}
use Rattle.n2k_table.proofs.Members.{with_last}
use Rattle.n2k_table.specs.Inner.Line.{are_null}
use Rattle.n2k_table.proofs.RawBits.{first_bits}
use Rattle.n2k_table.proofs.line.push_fields.Goals as goal

pub push_members-requires : goal.push_members-requires
push_members-requires g c = (search rules, first_bits c.args.«data».now c.first_word-word.result c.first_word-word.ensures)

pub returns-in-Some : goal.returns-in-Some
returns-in-Some g c =
    let d = c.args.definition.now in
    let payload = c.args.«data».now in
    let line = c.args.line.now.items in
    let own = members (are_null c.args.absent) (all_shown d.fields payload) in
    let there : Some c.in-Some.repeat.now ≡ d.repeat = c.in-Some.ensures in
    let before = rw c.fields.ensures at c.in_ok-later.ensures.items in
    adds_last c.push_list.result line _ _ _ _ (begins_more _ _ _ _ (begins_self line) before.0) (λ last. with_last own (list_json (are_null c.args.absent) (all_sets c.in-Some.repeat.now payload)) line _ _ _ before.0 before.1 last
    ∙ ap (λ (r : Option RepeatParts). line ++ join_with_byte 44 (own ++ repeat_members (are_null c.args.absent) r payload)) there) c.push_list.ensures
