-- The counts alone change, by what is kept of the mask.
use mathlib.Core.Path.{ap, ◌∙◌}
use mathlib.Core.List.{List}
use Prim.Native.Nat.{ℕ}
use Rattle.masks.specs.Parts.{except}
use Rattle.queues.specs.Queues.{arrived}
use Rattle.folding.proofs.FoldingLaws.{kept_mask}
use Rattle.executor.specs.declared.Machine.{Machine}
use Rattle.executor.specs.State.{with_counts}
use Rattle.executor.proofs.Machine.arrive.Goals as goal

pub returns : goal.returns
returns c =
    let m : Machine = c.args.self in
    ap (λ (ws : List ℕ). with_counts m ws m.finished)
    (c.arrive-m.ensures ∙ ap (λ (k : ℕ). arrived k m.waiting) (c.outside.ensures ∙ ap (except c.args.mask) c.requires.1 ∙ kept_mask c.args.mask _ c.ranges.mask.fits))
