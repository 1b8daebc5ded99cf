use mathlib.Core.Path.{◌≡◌, ap, ◌∙◌}
use mathlib.Core.List.{[], ◌∷◌}
use Prim.Native.Nat.{ℕ}
use native.Mathlib.Omega.{arith}
use Rattle.table.specs.Values.{headless, placed}
use Rattle.writer.specs.Parts.{narrow_slot}
use Rattle.table.proofs.PlacedLaws.{headless_more}
use Rattle.writer.proofs.DescribedLaws.{table_made}
use Rattle.writer.proofs.described.table_of.Goals as goal

pub loop-i-init : goal.loop-i-init
unfolding placed
loop-i-init c = c.blank-t.ensures

pub loop-i-preserved : goal.loop-i-preserved
loop-i-preserved c = let l = c.loop-i in headless_more (narrow_slot c.args.records.now) l.i l.t l.invariant _ c.record_of.ensures

pub returns : goal.returns
returns c =
    let l = c.loop-i in
    let a = c.args in
    let all : l.i ≡ 16 = omega arith in
    table_made a.records.now l.t (l.invariant ∙ ap (λ (n : ℕ). headless (placed (narrow_slot a.records.now) n)) all) a.edition a.count
    (a.budget ∷ a.period ∷ a.horizon ∷ a.delay ∷ []) c.narrow.ensures c.narrow-2.ensures
