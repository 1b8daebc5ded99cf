use mathlib.Core.Path.{refl, ap, ◌∙◌}
use lib.ListN.{length-set}
use Rattle.masks.specs.Parts.{some_index}
use Rattle.chains.proofs.ChainLaws.{feed_none, feed_set, fed_start, fed_more, fed_end}
use Rattle.chains.proofs.feeders.Goals as goal

pub loop-i-init : goal.loop-i-init
loop-i-init c = (refl, λ i h. fed_start c.args.t i h)

pub loop-i-preserved-then-next-le-PLACES : goal.loop-i-preserved-then-next-le-PLACES
loop-i-preserved-then-next-le-PLACES c =
    let l = c.loop-i in (
      length-set l.by _ _ ∙ l.invariant.0,
      λ i h. fed_more c.args.t i l.i _ _ c.loop-i-test.true l.auto.i (feed_set l.by _ i _ l.invariant.0 c.if-next-ne0.true h) (l.invariant.1 i h),
    )

pub loop-i-preserved : goal.loop-i-preserved
loop-i-preserved c =
    let l = c.loop-i in
    (l.invariant.0, λ i h. fed_more c.args.t i l.i _ _ c.loop-i-test.true l.auto.i (feed_none _ i _ _ h c.else-next-ne0.either) (l.invariant.1 i h))

pub returns : goal.returns
returns c = λ i h. c.loop-i.invariant.1 i h ∙ ap some_index (fed_end c.args.t i c.loop-i.i c.loop-i-test.false)
