use mathlib.Core.Path.{sym, ap, ◌∙◌}
use Prim.Native.Nat.{ℕ}
use native.Mathlib.Omega.{arith}
use Rattle.queues.specs.Queues.{arrived}
use Rattle.queues.proofs.ArrivedLaws.{counting_one, arrived-none}
use Rattle.masks.proofs.Search.{lowest_set}
use Rattle.queues.proofs.arrivals.arrive.Goals as goal

pub overflow_add-counts : goal.overflow_add-counts
overflow_add-counts c =
    let s = c.in-Some.ensures.steps in
    record { fits = omega (arith, c.loop-slot.invariant.2.room c.in-Some.slot s.1 (lowest_set _ _ (s.0, s.1))) }

pub loop-slot-preserved : goal.loop-slot-preserved
loop-slot-preserved c =
    let s = c.in-Some.ensures.steps in
    (tt, tt, counting_one _ _ _ _ _ _ c.loop-slot.invariant.2 s.1 (lowest_set _ _ (s.0, s.1)) s.2)

pub returns : goal.returns
returns c =
    let s = c.in-None.ensures.steps in
    sym (arrived-none _) ∙ ap (λ (x : ℕ). arrived x c.loop-slot.counts) (sym s.0) ∙ c.loop-slot.invariant.2.same
