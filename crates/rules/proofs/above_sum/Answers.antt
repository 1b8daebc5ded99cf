use mathlib.Core.Path.{refl, ap, sym}
use mathlib.Core.Bool.{not}
use Prim.Native.Nat.{ℕ, ◌<◌, ◌≤◌, ◌+◌, ◌/◌}
use native.Mathlib.Omega.{arith}
use Rattle.ranges.specs.Every.{every}
use Rattle.ranges.proofs.EveryLaws.{every_more, every_miss}
use Rattle.rules.specs.Rules.{joins}
use Rattle.rules.proofs.RulesLaws.{joins_not, joins_well, joins_half}
use Rattle.rules.proofs.above_sum.Goals as goal

-- a place in the first half of k lies below k
below : (j k : ℕ) → j < (k + 1) / 2 → j < k
below j k h = omega (arith, h)

pub loop-j-init : goal.loop-j-init
unfolding every
loop-j-init c = refl

pub returns-then-whole-sum : goal.returns-then-whole-sum
returns-then-whole-sum c =
    let a = c.args in
    let l : c.loop-j.j < a.k = below c.loop-j.j a.k c.loop-j-test.true in
    sym (ap not (every_miss (joins a.c.entries a.k) a.k c.loop-j.j l (joins_not a.c.entries a.k c.loop-j.j l c.if-whole-sum.true)))

pub loop-j-preserved : goal.loop-j-preserved
loop-j-preserved c =
    let a = c.args in
    every_more (joins a.c.entries a.k) c.loop-j.j c.loop-j.invariant (joins_well a.c.entries a.k c.loop-j.j (below c.loop-j.j a.k c.loop-j-test.true) c.if-whole-sum.false)

pub returns : goal.returns
returns c =
    let a = c.args in
    let far : a.k ≤ c.loop-j.j + c.loop-j.j = omega (arith, c.loop-j-test.false) in
    sym (ap not (joins_half a.c.entries a.k c.loop-j.j far c.loop-j.invariant))
