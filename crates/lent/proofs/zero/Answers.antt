-- The part lent is given back as zeros.
use mathlib.Core.Path.{◌≡◌, ap, ◌∙◌}
use Prim.Native.Nat.{ℕ, ◌+◌, ◌-◌}
use lib.ListN.{length, replicate, take, drop, length-replicate, length-drop}
use lib.Seq.{length-take-le}
use native.Mathlib.Omega.{arith}
use Rattle.lent.specs.Over.{over}
use Rattle.lent.proofs.Replace.{over-part}
use Rattle.lent.proofs.zero.Goals as goal

pub returns : goal.returns
returns c =
    let a = c.args in
    let n : a.at + a.count - a.at ≡ a.count = omega arith in
    let m : length (take a.count (drop a.at a.b.now)) ≡ a.count = length-take-le a.count (drop a.at a.b.now) (omega (arith, length-drop a.at a.b.now)) in
    let e : c.fill.new.self ≡ replicate a.count 0 =
    c.fill.ensures.after (λ y h. h) ∙ ap (λ (j : ℕ). replicate (length (take j (drop a.at a.b.now))) 0) n ∙ ap (λ (j : ℕ). replicate j 0) m in
    over-part a.b.now c.fill.new.self a.at _ (omega (arith, ap length e, length-replicate {A = ℕ} a.count 0)) ∙ ap (over a.b.now a.at) e
