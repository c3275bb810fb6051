use Rattle.std.proofs.Common.{ℕ, List, ◌++◌, ap, ◌∙◌}
use Rattle.std.specs.List.{filter_map}
use Rattle.n2k_table.specs.Shown.{all_shown}
use Rattle.n2k_table.specs.Json.{member_json}
use Rattle.n2k_table.proofs.Begins.{refused_begins, begins_more}
use Rattle.n2k_table.proofs.Members.{members_from-joined, is_done, goes_on, flag_is_done, flag_goes_on}
use Rattle.n2k_table.specs.Inner.Line.{are_null}
use Rattle.n2k_table.proofs.line.push_members.Goals as goal

pub returns-clause-items : goal.returns-clause-items
returns-clause-items g c =
    let members = filter_map (member_json (are_null c.args.absent)) (all_shown c.args.fields.now c.args.«data».now) in (
      is_done (are_null c.args.absent) c.loop-field.later c.loop-field.rest.now c.args.«data».now c.loop-field.line.items _ c.in_default.ensures.cases c.loop-field.invariant.items
          ∙ ap (λ (ms : List ℕ). c.args.line.now.items ++ ms) (members_from-joined members),
      flag_is_done (are_null c.args.absent) c.loop-field.later _ c.loop-field.rest.now c.args.«data».now c.in_default.ensures.cases c.loop-field.invariant.later,
    )

pub loop-field-preserved : goal.loop-field-preserved
loop-field-preserved g c = record {
  items = rw c.in_ok-push_member.ensures.later (rw c.in_ok-push_member.ensures.items (goes_on (are_null c.args.absent) c.loop-field.later c.loop-field.rest.now c.in-Some.others.now c.args.«data».now c.in-Some.field.now c.loop-field.line.items _ c.in-Some.ensures.cases.0 c.loop-field.invariant.items));
  later = rw c.in_ok-push_member.ensures.later (flag_goes_on (are_null c.args.absent) c.loop-field.later _ c.loop-field.rest.now c.in-Some.others.now c.args.«data».now c.in-Some.field.now c.in-Some.ensures.cases.0 c.loop-field.invariant.later);
  prefix = begins_more _ _ _ _ c.loop-field.invariant.prefix c.in_ok-push_member.ensures.items;
}

pub returns-in_err-push_member-clause-prefix : goal.returns-in_err-push_member-clause-prefix
returns-in_err-push_member-clause-prefix g c = refused_begins c.from_residual.result _ _ _ c.loop-field.invariant.prefix c.in_err-push_member.ensures.items
