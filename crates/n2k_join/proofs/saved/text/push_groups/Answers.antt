use Rattle.std.proofs.Common.{◌≡◌, ◌∙◌, ◌++◌, ◌+◌, ◌-◌, length, ap, sym, option_map, arith}
use Rattle.n2k_join.specs.declared.piece.FrameKey.{FrameKey}
use Rattle.n2k_join.specs.declared.open_groups.Linked.{Linked}
use Rattle.n2k_join.specs.Inner.SavedTokens.{groups_tokens}
use Rattle.n2k_join.specs.Inner.Order.{item, item_at, places_from, groups_at}
use Rattle.n2k_join.proofs.Listed.{no-places, places-more, groups_written, group_more_written}
use Rattle.n2k_join.proofs.saved.text.push_groups.Goals as goal

pub loop-written-init : goal.loop-written-init
loop-written-init c = grind arith

pub loop-written-preserved : goal.loop-written-preserved
loop-written-preserved c =
    let g = c.args.groups.now in
    let n = length g.groups.entries in
    let i = c.loop-written._written in
    let at = c.loop-written.at in
    let e : FrameKey × Linked = (c.in-Some.key.now, c.in-Some.linked.now) in
    let is = sym c.in-Some.ensures.entry in
    record {
      tokens = group_more_written (item_at g) at (places_from g.groups.entries (n - (i + 1)) e.1.after) (item e) _ c.loop-written.out.tokens c.push_group.new.out.tokens (ap (option_map item) is)
          (c.loop-written.invariant.tokens ∙ ap (λ ps. c.loop-written.out.tokens ++ groups_tokens (groups_at (item_at g) ps)) (places-more g.groups.entries n i at e (omega (arith, c.loop-written-test.true, c.loop-written.invariant.end)) is)) c.in_ok-push_group.ensures.tokens;
      before = c.in_ok-push_group.ensures.before ∙ c.loop-written.invariant.before;
      end = c.loop-written.invariant.end;
    }

pub returns-in_default : goal.returns-in_default
returns-in_default c =
    let g = c.args.groups.now in
    record {
      tokens = groups_written _ c.loop-written.out.tokens _ (ap (groups_at (item_at g)) (no-places g.groups.entries (length g.groups.entries - c.loop-written._written) c.loop-written.at (sym c.in_default.ensures.entry))) c.loop-written.invariant.tokens;
      before = c.loop-written.invariant.before;
    }

pub returns : goal.returns
returns c =
    let g = c.args.groups.now in
    let none : length g.groups.entries - c.loop-written._written ≡ 0 = omega (arith, c.loop-written-test.false, c.loop-written.invariant.end) in
    record {
      tokens = groups_written _ c.loop-written.out.tokens _ (ap (λ n. groups_at (item_at g) (places_from g.groups.entries n c.loop-written.at)) none) c.loop-written.invariant.tokens;
      before = c.loop-written.invariant.before;
    }
