-- The lines of a window, as std reads decimal digits.
use Rattle.std.proofs.Common.{rules, arith, false, ◌≡◌, ◌∙◌, ap, sym, true, None, option_map, ℕ, List, [], ◌∷◌, Result}
use Rattle.std.specs.Char.{is_ascii_digit}
use Rattle.std.specs.List.{list_all}
use Rattle.std.specs.Result.{result_ok}
use Rattle.std.specs.Str.Parse.{AllDigits, ParsesUnsigned}
use Rattle.std.proofs.lemmas.Bool.Decides.{nat_tests}
use Rattle.n2k_join.specs.Window.{Window}
use Rattle.n2kdec.specs.CommandLine.Words.{lines_in}
use Rattle.n2kdec.proofs.command_line.window_in.Goals as goal

all_digits : (text : List ℕ) → list_all is_ascii_digit text ≡ true → AllDigits 10 text
all_digits [] all = tt
all_digits (c ∷ text) all = grind (arith, nat_tests, all_digits text)

-- digits that can't be read are those of no window
refused : {E : Type 0} (text : List ℕ) (r : Result ℕ E) → list_all is_ascii_digit text ≡ true → ParsesUnsigned 32 10 text r → None ≡ result_ok r → lines_in text ≡ None
refused [] r all parses none = grind arith
refused (c ∷ text) r all parses none = grind (arith, nat_tests, all_digits (c ∷ text))

pub returns-in_err-ok : goal.returns-in_err-ok
returns-in_err-ok c =
    let all : list_all is_ascii_digit c.args.text.now ≡ true = search rules in
    let none : None ≡ result_ok c.parse.result = search rules in
    let left : c.from_residual.result ≡ None = search rules in
    let window : ℕ → Window = λ lines. record { lines = lines; in_order = false } in
    left ∙ ap (option_map window) (sym (refused c.args.text.now c.parse.result all c.parse.ensures.value.0 none))
