use Rattle.std.proofs.Common.{ℕ, List, MatchResult, subst, ◌∙◌}
use Rattle.n2k_c.specs.Answers.{Feeds, ClosesDecoder}
use Rattle.n2k_c.proofs.decoder.Decoder.take_frame.Goals as goal

pub returns-in-Ok : goal.returns-in-Ok
returns-in-Ok c = subst (λ (line : List ℕ). MatchResult c.feed.result (λ x. Feeds line c.args.self.now c.feed.new.self) (ClosesDecoder line c.args.self.now)) (c.deref.ensures.value ∙ c.in-Ok.ensures) c.feed.ensures
