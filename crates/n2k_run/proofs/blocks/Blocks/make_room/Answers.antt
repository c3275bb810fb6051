use Rattle.std.proofs.Common.{◌≡◌, ◌⊎◌, inl, inr, ◌-◌, ◌==◌, ◌+◌, ◌≤◌, ℕ, true, length, length-drop, take, drop, sym, ◌∙◌, ap, subst, arith}
use lib.Seq.{paste}
use Rattle.std.specs.List.{slice_range}
use Rattle.std.proofs.lemmas.List.Edits.{take-paste}
use Rattle.std.proofs.lemmas.Bool.Decides.{nat_tests}
use Rattle.n2k_run.specs.Blocks.{BlocksView, HasNoFeed}
use Rattle.n2k_run.proofs.Feeds.{lets_go}
use Rattle.n2k_run.proofs.Ranges.{length-range}
use Rattle.n2k_run.proofs.blocks.Blocks.make_room.Goals as goal
use Rattle.n2k_run.proofs.blocks.Blocks.make_room.Goals.{then-self, else-self}

is_equal : (m n : ℕ) → (m == n) ≡ true → m ≡ n
is_equal m n is = grind (arith, nat_tests)

pub returns-then-self-eq-BLOCK-clause-stays : goal.returns-then-self-eq-BLOCK-clause-stays
returns-then-self-eq-BLOCK-clause-stays c =
    let kept = slice_range c.self.inside.block c.self.inside.start c.self.inside.end in
    let size : length kept ≡ c.self.inside.end - c.self.inside.start = length-range c.self.inside.block c.self.inside.start c.self.inside.end c.self.invariant.kept_ends (omega arith) in
    let why : (c.args.self.now.is_passing ≡ true) ⊎ (length c.args.self.now.kept ≡ 4096) = elim c.if-self.branch [
      | then-self w ↦ inl (sym (ap (λ (h : BlocksView). h.is_passing) c.self.view_is) ∙ w.if-self.true)
      | else-self w ↦ inr (sym (ap (λ (h : BlocksView). length h.kept) c.self.view_is) ∙ size ∙ is_equal _ _ (sym w.value-is ∙ c.if-self-eq-BLOCK.true))
    ] in
    lets_go c.args.self.now 4096 why (omega arith)

pub returns-else-self-eq-BLOCK-clause-no_feed : goal.returns-else-self-eq-BLOCK-clause-no_feed
returns-else-self-eq-BLOCK-clause-no_feed c =
    let b = c.self.inside.block in
    let s = c.self.inside.start in
    let n = c.self.inside.end - s in
    let long : s + n ≤ length b = omega arith in
    let same : slice_range c.copy_within.new.self 0 n ≡ slice_range b s c.self.inside.end =
    ap (λ k. take k c.copy_within.new.self) (let is : n - 0 ≡ n = omega arith in is) ∙ ap (take n) c.copy_within.ensures.after
    ∙ ap (λ k. take k (paste b 0 (drop s b) n)) (let is : n ≡ 0 + n = omega arith in is) ∙ take-paste b 0 (drop s b) n (omega arith) (omega (arith, length-drop s b)) in
    subst HasNoFeed (sym (same ∙ ap (λ (h : BlocksView). h.kept) c.self.view_is)) c.requires
