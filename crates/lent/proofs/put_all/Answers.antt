use mathlib.Core.Path.{◌≡◌, refl, sym, ap, ◌∙◌}
use mathlib.Core.List.{List}
use Prim.Native.Nat.{ℕ, ◌≤◌, ◌+◌, ◌*◌}
use lib.ListN.{get_or, length, take, length-map}
use native.Mathlib.Nat.{mul-le-mul_left}
use native.Mathlib.Omega.{arith}
use Rattle.std.specs.Prelude.{map}
use Rattle.std.proofs.lemmas.List.{get_or-map}
use Rattle.lent.specs.Bytes.{le, run}
use Rattle.lent.specs.Over.{over}
use Rattle.lent.proofs.Fields.{run_start, run_step}
use Rattle.lent.proofs.put_all.Goals as goal

pub loop-i-init : goal.loop-i-init
loop-i-init g c = let n = g.T.Number in let a = c.args in (omega arith, refl, run_start n.WIDTH a.b.now (map n.value a.xs.now) a.at)

pub loop-i-preserved : goal.loop-i-preserved
loop-i-preserved g c =
    let n = g.T.Number in
    let a = c.args in
    let l = c.loop-i in
    let many : length (map n.value a.xs.now) ≡ length a.xs.now = length-map a.xs.now n.value in
    let so_far : List ℕ = over a.b.now a.at (run n.WIDTH (take l.i (map n.value a.xs.now))) in
    let more : n.WIDTH * (l.i + 1) ≤ n.WIDTH * length a.xs.now = mul-le-mul_left n.WIDTH (omega arith) in
    let read : n.value c.index-xs-i.result ≡ get_or (map n.value a.xs.now) l.i 0 =
    ap n.value c.index-xs-i.is ∙ sym (get_or-map n.value a.xs.now l.i c.index-xs-i.result 0 c.loop-i-test.true) in (
      omega arith,
      c.put.auto.b ∙ l.invariant.1,
      c.put.ensures
          ∙ ap (λ (j : ℕ). over l.b (a.at + j * l.i) (le n.WIDTH (n.value c.index-xs-i.result))) c.WIDTH.ensures
          ∙ ap (λ (b : List ℕ). over b (a.at + n.WIDTH * l.i) (le n.WIDTH (n.value c.index-xs-i.result))) l.invariant.2
          ∙ ap (λ (x : ℕ). over so_far (a.at + n.WIDTH * l.i) (le n.WIDTH x)) read
          ∙ run_step n.WIDTH a.b.now (map n.value a.xs.now) a.at l.i (omega arith) (omega (arith, more)),
    )
