use mathlib.Core.Path.{◌≡◌, refl, sym, ap, ap₂, ◌∙◌}
use mathlib.Core.Bool.{Bool}
use Prim.Native.Nat.{ℕ, ◌-◌, max}
use native.Mathlib.Omega.{arith}
use Rattle.ranges.specs.Sum.{given}
use Rattle.ranges.specs.Least.{largest}
use Rattle.ranges.proofs.LeastLaws.{largest_more}
use Rattle.windows.specs.Bounds.{cost_of}
use Rattle.levels.specs.Levels.{blocking_by}
use Rattle.levels.specs.Parts.{single_of}
use Rattle.levels.proofs.blocking.Invariants.{one}
use Rattle.levels.proofs.blocking.Goals as goal
use Rattle.levels.proofs.blocking.Goals.{then-test_slot, else-test_slot}

pub loop-i-init : goal.loop-i-init
unfolding largest
loop-i-init c = (refl, omega arith)

-- either way the largest is that of one slot more
pub loop-i-preserved : goal.loop-i-preserved
unfolding single_of cost_of
loop-i-preserved c =
    let t = c.args.t.now.table in
    let loop = c.loop-i in
    let f : ℕ → ℕ = one t c.args.below in
    elim c.if-test_slot.branch [
      | then-test_slot w ↦
          let e = w.single.ensures.0 ∙ sym (ap (λ (b : Bool). given b (cost_of t loop.i 1)) (sym c.test_slot.ensures ∙ w.if-test_slot.true)) in
          (w.most-is ∙ w.max-most.ensures ∙ ap₂ max loop.invariant.0 e ∙ largest_more f loop.i, omega (arith, w.most-is, w.max-most.ensures, w.single.ensures.1, loop.invariant.1))
      | else-test_slot w ↦
          let e : f loop.i ≡ 0 = ap (λ (b : Bool). given b (cost_of t loop.i 1)) (sym c.test_slot.ensures ∙ w.if-test_slot.false) in
          (omega (arith, w.most-is, loop.invariant.0, e, largest_more f loop.i), omega (arith, w.most-is, loop.invariant.1))
    ]

pub returns : goal.returns
unfolding blocking_by
returns c =
    let f : ℕ → ℕ = one c.args.t.now.table c.args.below in
    let e : c.loop-i.i ≡ c.args.t.now.table.count = omega arith in
    c.saturating_sub.ensures ∙ ap (λ (k : ℕ). k - 1) (c.loop-i.invariant.0 ∙ ap (λ (k : ℕ). largest k f) e)
