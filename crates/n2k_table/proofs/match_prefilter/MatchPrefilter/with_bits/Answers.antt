use Rattle.std.proofs.Common.{◌*◌, ◌%◌, ◌^◌, bit_and, bit_or, ap, ◌∙◌}
use Rattle.n2k_table.proofs.MatchPrefilters.{more_bits}
use Rattle.n2k_table.proofs.match_prefilter.MatchPrefilter.with_bits.Goals as goal

pub returns : goal.returns
returns c = λ word before is.
    ap (λ g. bit_and word (bit_or c.args.self.mask (g * 2 ^ c.args.at % 18446744073709551616))) c.greatest.ensures
    ∙ more_bits word c.args.self.mask c.args.self.wanted c.args.at c.args.bits c.args.value c.requires.inside before is
