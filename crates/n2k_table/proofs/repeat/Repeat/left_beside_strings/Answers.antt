use Rattle.std.proofs.Common.{◌≡◌, false, sym, ap, ◌∙◌}
use Rattle.std.specs.List.{list_any}
use Rattle.n2k_table.specs.Field.{is_string}
use Rattle.n2k_table.specs.Repeat.{RepeatParts, strings_size}
use Rattle.n2k_table.specs.Inner.Kept.{left_beside}
use Rattle.n2k_table.proofs.SetSizes.{all_left}
use Rattle.n2k_table.proofs.repeat.Repeat.left_beside_strings.Goals as goal

pub returns-else-self : goal.returns-else-self
returns-else-self c =
    let set = c.args.set.now in
    let none : list_any (λ f. is_string f.meaning) c.self.inside.fields.items ≡ false = sym c.self.invariant.0 ∙ c.if-self.false in
    all_left c.self.inside.fields.items set c.args.room none ∙ ap (λ (r : RepeatParts). left_beside c.args.room (strings_size r.fields set)) c.self.view_is
