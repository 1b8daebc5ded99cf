use mathlib.Core.Path.{◌≡◌, refl, sym, ap, ◌∙◌}
use mathlib.Core.List.{List}
use Prim.Native.Nat.{ℕ, ◌+◌, ◌*◌}
use native.Mathlib.Nat.{zero-add}
use lib.ListN.{length, take, set, length-map, length-set, length-replicate}
use native.Mathlib.Omega.{arith}
use Rattle.std.specs.Prelude.{map}
use Rattle.std.proofs.lemmas.List.{map-set}
use Rattle.lent.specs.Bytes.{get, numbers}
use Rattle.lent.proofs.Fields.{numbers-step}
use Rattle.lent.proofs.get_all.Goals as goal

pub loop-i-init : goal.loop-i-init
unfolding numbers
loop-i-init g c = (length-replicate g.row.N _, refl)

pub loop-i-preserved : goal.loop-i-preserved
loop-i-preserved g c =
    let n = g.T.Number in
    let a = c.args in
    let l = c.loop-i in
    let xs : List ℕ = map n.value l.all in
    let many : length xs ≡ length l.all = length-map l.all n.value in
    let read : n.value c.get.result ≡ get n.WIDTH a.b.now (a.at + (0 + n.WIDTH * l.i)) =
    c.get.ensures
    ∙ ap (λ (w : ℕ). get n.WIDTH a.b.now (a.at + w * l.i)) c.WIDTH.ensures
    ∙ ap (λ (j : ℕ). get n.WIDTH a.b.now (a.at + j)) (sym (zero-add (n.WIDTH * l.i))) in (
      length-set l.all l.i c.get.result ∙ l.invariant.0,
      ap (take (l.i + 1)) (map-set n.value l.all l.i c.get.result)
          ∙ ap (λ (x : ℕ). take (l.i + 1) (set xs l.i x)) read
          ∙ numbers-step n.WIDTH a.b.now xs a.at 0 l.i (omega (arith, many, l.invariant.0)) l.invariant.1,
    )
