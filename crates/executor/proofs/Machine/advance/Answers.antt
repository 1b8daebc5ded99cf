-- The effect tells whom it activates; the queues are those before it.
use mathlib.Core.Path.{sym, ap, ◌∙◌}
use Rattle.masks.proofs.Index.{is_none, is_some}
use Rattle.executor.specs.Tick.{refused}
use Rattle.executor.proofs.TickLaws.{finished_few, full_is, admitted-full, admitted_free}
use Rattle.executor.proofs.Machine.advance.Goals as goal

pub next_after-next-requires : goal.next_after-next-requires
next_after-next-requires c = finished_few c.args.self _ _ _ _ c.effect-ticked.ensures _ c.finished.ensures c.requires.0 c.requires.1

pub returns-in-Some : goal.returns-in-Some
returns-in-Some c =
    let f = full_is c.args.self _ _ _ _ c.effect-ticked.ensures _ c.finished.ensures _ _ c.ranges.mask.fits c.next_after-next.ensures c.outside.ensures in
    let h = is_some _ _ c.in-Some.ensures in
    c.refuse.ensures ∙ ap (refused c.args.self) c.at.ensures ∙ admitted-full _ _ _ _ _ (sym h.0 ∙ f) (λ z. h.1 (h.0 ∙ z))

pub returns-in-None : goal.returns-in-None
returns-in-None c =
    let f = full_is c.args.self _ _ _ _ c.effect-ticked.ensures _ c.finished.ensures _ _ c.ranges.mask.fits c.next_after-next.ensures c.outside.ensures in
    c.effect-ticked.ensures ∙ admitted_free _ _ _ _ _ f (is_none _ c.in-None.ensures)
