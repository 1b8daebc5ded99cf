-- The callback that is activated, if there is one, is one slot more of the mask.
use mathlib.Core.Path.{◌≡◌, ap, ◌∙◌}
use mathlib.Core.Logic.{⊎_elim}
use Prim.Native.Nat.{◌<◌}
use Rattle.masks.specs.Parts.{some_index}
use Rattle.numbers.specs.Numbers.{places}
use Rattle.queues.proofs.QueueLaws.{full_alone, full_past, full-one}
use Rattle.queues.proofs.full.lowest_full.Goals as goal

pub returns-then-next-eq0 : goal.returns-then-next-eq0
returns-then-next-eq0 c =
    let a = c.args in
    c.first_full.ensures
    ∙ ap some_index
    (⊎_elim (λ (q : a.next ≡ 0). full_alone a.waiting a.mask a.next q)
    (λ (q : (a.next ≡ 0 → ⊥) × (places < a.next)). full_past a.waiting a.mask a.next q.1)
    c.then-next-eq0.either)

pub returns : goal.returns
returns c = c.first_full-2.ensures ∙ ap some_index (full-one _ _ _ _ c.if-next-eq0.false c.set_slot.ensures)
