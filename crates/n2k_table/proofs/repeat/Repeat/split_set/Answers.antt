use Rattle.std.proofs.Common.{◌≡◌, ◌-◌, ◌*◌, ◌∷◌, ◌||◌, Bool, List, ℕ, length, take, sym, ap, ◌∙◌, nat_le}
use Rattle.std.specs.List.{list_any}
use Rattle.n2k_table.specs.Field.{is_string}
use Rattle.n2k_table.specs.Repeat.{RepeatParts, strings_size, sets_in}
use Rattle.n2k_table.specs.Inner.Kept.{left_beside}
use Rattle.n2k_table.proofs.SetSizes.{has_byte, is_left, one_set}
use Rattle.n2k_table.proofs.repeat.Repeat.split_set.Goals as goal

pub returns : goal.returns
returns c =
    let r = c.args.self.now in
    let bytes = c.args.bytes.now in
    let size = c.self.inside.size in
    let bits : r.bits ≡ 8 * size = sym (ap (λ (q : RepeatParts). q.bits) c.self.view_is) in
    let strings : list_any (λ f. is_string f.meaning) r.fields ≡ c.self.inside.has_strings =
    sym (c.self.invariant.0 ∙ ap (λ (q : RepeatParts). list_any (λ f. is_string f.meaning) q.fields) c.self.view_is) in
    let some = has_byte r size bits (ap (λ (b : Bool). nat_le 1 size || b) strings ∙ c.self.invariant.1) in
    let room = c.in_ok-room.ensures in
    let left = c.in_ok-left.ensures in
    let n = length bytes - c.in_ok-left.left in
    let size_is = is_left r size c.in_ok-left.left bytes bits room.0 (ap (λ k. left_beside k (strings_size r.fields bytes)) (sym room.1) ∙ sym left) in
    ap (λ (s : List ℕ). s ∷ sets_in r c.split_at.result.1.now) c.split_at.ensures.front
    ∙ ap (λ (s : List ℕ). take n bytes ∷ sets_in r s) c.split_at.ensures.back
    ∙ one_set r bytes n some size_is
