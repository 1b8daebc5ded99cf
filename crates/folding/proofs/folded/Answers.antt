use mathlib.Core.Path.{sym, ◌∙◌}
use borrow.Author.Rules.{rules}
use Rattle.masks.proofs.Search.{lowest_set}
use Rattle.folding.specs.Folding.{folded_of}
use Rattle.folding.proofs.FoldingLaws.{sifted, sifted_took, sifted_left, sifted_all}
use Rattle.folding.proofs.folded.Goals as goal

pub loop-slot-init : goal.loop-slot-init
loop-slot-init c = (tt, tt, sifted _ _ _ (search rules))

pub loop-slot-preserved-then-folds : goal.loop-slot-preserved-then-folds
loop-slot-preserved-then-folds c =
    let s = c.in-Some.ensures.steps in
    (tt, tt, sifted_took _ _ _ _ _ _ c.loop-slot.invariant.2 (lowest_set _ _ (s.0, s.1)) s.2 _ s.1 (sym c.folds.ensures ∙ c.if-folds.true) c.set_slot-beats.ensures)

pub loop-slot-preserved : goal.loop-slot-preserved
loop-slot-preserved c =
    let s = c.in-Some.ensures.steps in
    (tt, tt, sifted_left _ _ _ _ _ _ c.loop-slot.invariant.2 (lowest_set _ _ (s.0, s.1)) s.2 (sym c.folds.ensures ∙ c.if-folds.false))

pub returns : goal.returns
unfolding folded_of
returns c =
    let s = c.in-None.ensures.steps in
    sifted_all _ _ _ _ c.loop-slot.invariant.2 s.0
