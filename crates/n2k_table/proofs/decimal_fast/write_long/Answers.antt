use Rattle.std.proofs.Common.{rules, ◌≡◌, ◌+◌, ◌-◌, ◌++◌, ◌∷◌, ◌<◌, ◌≤◌, ℕ, List, length, take, drop, set, replicate, sym, ap, ◌∙◌, arith, decimal}
use Rattle.std.proofs.lemmas.Fmt.{length-decimal-le}
use Rattle.std.proofs.lemmas.List.{length-append, length-drop, take-replicate, drop-drop, drop-set}
use Rattle.n2k_table.proofs.Placed.{placed, length_padded, onto_whole, onto_parts}
use Rattle.n2k_table.specs.Decimal.{padded_digits}
use Rattle.n2k_table.proofs.decimal_fast.write_long.Goals as goal

pub write_digits-first-requires : goal.write_digits-first-requires
write_digits-first-requires g c =
    let short : length (decimal c.args.size) ≤ 20 = length-decimal-le 20 c.args.size (omega arith) (omega (arith, c.ranges.size.fits)) (omega (arith, c.ranges.size.fits)) in
    (omega (arith, short), omega arith)

pub write_digits_of-requires : goal.write_digits_of-requires
write_digits_of-requires g c =
    let short : length (decimal c.args.size) ≤ 20 = length-decimal-le 20 c.args.size (omega arith) (omega (arith, c.ranges.size.fits)) (omega (arith, c.ranges.size.fits)) in
    let order : c.min-from.result ≤ 40 - c.args.decimals = omega (arith, c.min-from.ensures, c.requires) in
    let few : 40 - c.args.decimals ≤ c.min-from.result + 24 = omega (arith, short, c.write_digits-first.ensures.start, c.min-from.ensures, c.requires) in
    let start : c.min-from.result ≤ 40 = omega (arith, c.min-from.ensures, c.requires) in
    let room : c.args.line.now.held + 24 ≤ g.row.SIZE = omega (arith, c.requires) in
    (search rules, search (order, few, start, room))

pub write_digits_of-requires-then-decimals-gt0 : goal.write_digits_of-requires-then-decimals-gt0
write_digits_of-requires-then-decimals-gt0 g c =
    let short : length (decimal c.args.size) ≤ 20 = length-decimal-le 20 c.args.size (omega arith) (omega (arith, c.ranges.size.fits)) (omega (arith, c.ranges.size.fits)) in
    let order : 40 - c.args.decimals - 1 ≤ 40 = omega (arith, c.requires) in
    let few : 40 ≤ 40 - c.args.decimals - 1 + 24 = omega (arith, c.requires) in
    let room : c.write_digits_of.new.line.held + 24 ≤ g.row.SIZE = omega (arith, short, c.write_digits-first.ensures.start, c.min-from.ensures, c.requires, c.write_digits_of.ensures.held) in
    (search rules, search (order, few, room))

pub returns-then-decimals-gt0 : goal.returns-then-decimals-gt0
returns-then-decimals-gt0 g c =
    let n = c.args.size in
    let e = c.args.decimals in
    let digits = c.write_digits-first.new.buf in
    let first = c.write_digits-first.result in
    let from = c.min-from.result in
    let short : length (decimal n) ≤ 20 = length-decimal-le 20 n (omega arith) (omega (arith, c.ranges.size.fits)) (omega (arith, c.ranges.size.fits)) in
    let zeros : take first digits ≡ replicate first 48 = c.write_digits-first.ensures.before ∙ take-replicate first 64 48 (omega (arith, c.write_digits-first.ensures.start)) in
    let is = placed digits (decimal n) (drop 40 (replicate 64 48)) first from zeros c.write_digits-first.ensures.written (omega (arith, c.min-from.ensures)) in
    let fill : first - from ≡ e + 1 - length (decimal n) = omega (arith, c.write_digits-first.ensures.start, c.min-from.ensures, c.requires, short) in
    let prefix : drop from digits ≡ padded_digits n e ++ drop 40 (replicate 64 48) = is ∙ ap (λ k. (replicate k 48 ++ decimal n) ++ drop 40 (replicate 64 48)) fill in
    let rest : drop (40 - e) digits ≡ drop (40 - e - from) (drop from digits) =
    ap (λ k. drop k digits) (omega (arith, c.min-from.ensures, c.requires)) ∙ sym (drop-drop (40 - e - from) from digits) in
    let count : 40 - (40 - e - 1) ≡ e + 1 = omega (arith, c.requires) in
    let inside : 40 - e - 1 < length digits =
    omega (arith, ap length prefix, length-drop from digits, length-append (padded_digits n e) (drop 40 (replicate 64 48)), length_padded n e, c.write_digits-first.ensures.start, c.min-from.ensures, c.requires, short) in
    let next : 40 - e - 1 + 1 ≡ 40 - e = omega (arith, c.requires) in
    let here : drop (40 - e - 1) (set digits (40 - e - 1) 46) ≡ 46 ∷ drop (40 - e - from) (drop from digits) =
    drop-set digits (40 - e - 1) 46 inside ∙ ap (λ k. 46 ∷ drop k digits) next ∙ ap (λ (ds : List ℕ). 46 ∷ ds) rest in
    onto_parts (padded_digits n e) (drop 40 (replicate 64 48)) (drop from digits) (drop (40 - e - 1) (set digits (40 - e - 1) 46)) c.args.line.now.items _ _ (40 - e - from) e prefix
    (omega (arith, length_padded n e, c.write_digits-first.ensures.start, c.min-from.ensures, c.requires, short))
    (omega (arith, short, c.write_digits-first.ensures.start, c.min-from.ensures, c.requires)) (omega (arith, c.if-decimals-gt0.true)) (omega (arith, c.requires))
    c.write_digits_of.ensures.items here (rw count at c.write_digits_of-then-decimals-gt0.ensures.items)

pub returns-else-decimals-gt0 : goal.returns-else-decimals-gt0
returns-else-decimals-gt0 g c =
    let n = c.args.size in
    let e = c.args.decimals in
    let digits = c.write_digits-first.new.buf in
    let first = c.write_digits-first.result in
    let from = c.min-from.result in
    let none : e ≡ 0 = omega (arith, c.if-decimals-gt0.false) in
    let short : length (decimal n) ≤ 20 = length-decimal-le 20 n (omega arith) (omega (arith, c.ranges.size.fits)) (omega (arith, c.ranges.size.fits)) in
    let zeros : take first digits ≡ replicate first 48 = c.write_digits-first.ensures.before ∙ take-replicate first 64 48 (omega (arith, c.write_digits-first.ensures.start)) in
    let is = placed digits (decimal n) (drop 40 (replicate 64 48)) first from zeros c.write_digits-first.ensures.written (omega (arith, c.min-from.ensures)) in
    let fill : first - from ≡ e + 1 - length (decimal n) = omega (arith, c.write_digits-first.ensures.start, c.min-from.ensures, c.requires, short) in
    let prefix : drop from digits ≡ padded_digits n e ++ drop 40 (replicate 64 48) = is ∙ ap (λ k. (replicate k 48 ++ decimal n) ++ drop 40 (replicate 64 48)) fill in
    onto_whole (padded_digits n e) (drop 40 (replicate 64 48)) (drop from digits) c.args.line.now.items _ (40 - e - from) e none prefix
    (omega (arith, none, length_padded n e, c.write_digits-first.ensures.start, c.min-from.ensures, short))
    (omega (arith, short, c.write_digits-first.ensures.start, c.min-from.ensures, c.requires)) c.write_digits_of.ensures.items
