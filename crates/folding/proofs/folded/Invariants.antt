-- `folded` meets its contract. The loop: of the slots passed, the mask so far has those whose beat is folded.
use Rattle.folding.specs.Folding.{folds}
use Rattle.folding.proofs.FoldingLaws.{Sifted}
use Rattle.folding.proofs.folded.Given as goal

abbrev pub invariant-loop-slot : goal.invariant-loop-slot
invariant-loop-slot l =
    (goal.iterator-loop-slot).can_next l.slot-iterator
    × (goal.iterator-loop-slot).is_finite l.slot-iterator
    × Sifted (folds l.t l.waiting l.running) l.fn.mask (l.slot-iterator).mask l.beats
