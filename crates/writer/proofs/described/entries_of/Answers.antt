use mathlib.Core.Path.{◌≡◌, refl, ap, ◌∙◌}
use Prim.Native.Nat.{ℕ, ◌+◌, ◌*◌}
use lib.ListN.{take, set, get_or, length-set}
use native.Mathlib.Omega.{arith}
use Rattle.lent.specs.Bytes.{numbers}
use Rattle.lent.proofs.Fields.{numbers-step}
use Rattle.writer.proofs.described.entries_of.Goals as goal

pub loop-i-init : goal.loop-i-init
unfolding numbers
loop-i-init c = (refl, refl)

pub loop-i-preserved : goal.loop-i-preserved
loop-i-preserved c =
    let a = c.args in
    let l = c.loop-i in
    let one : 6 + l.i ≡ 6 + 1 * l.i = omega arith in (
      simp length-set l.invariant.0,
      ap (λ (x : ℕ). take (l.i + 1) (set l.entries l.i x)) (c.number_at.ensures ∙ ap (λ (k : ℕ). get_or a.numbers.now (a.at + k) 0) one)
          ∙ numbers-step 1 a.numbers.now l.entries a.at 6 l.i (omega arith) l.invariant.1,
    )
