use Rattle.std.proofs.Common.{rules, sym, subst}
use Rattle.std.specs.Str.{IsUtf8}
use Rattle.n2k_join.proofs.SavedDigits.{IsUtf8-encode_lower}
use Rattle.n2k_join.proofs.saved.text.push_digits.Goals as goal

pub text_of-requires : goal.text_of-requires
text_of-requires g c = subst IsUtf8 (sym (search rules)) (IsUtf8-encode_lower c.args.bytes.now)
