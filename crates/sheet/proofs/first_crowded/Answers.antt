use mathlib.Core.Path.{◌≡◌, sym, subst, ap, ◌∙◌}
use Prim.Native.Nat.{ℕ}
use native.Mathlib.Omega.{arith}
use Rattle.ranges.proofs.LeastLaws.{slots_start, slots_hit, slots_miss, slots_end}
use Rattle.masks.specs.Parts.{some_index}
use Rattle.windows.proofs.FoundLaws.{found_some}
use Rattle.table.specs.Values.{callback_at}
use Rattle.sheet.specs.Sheet.{too_many_at}
use Rattle.windows.proofs.PartLaws.{head_spaced}
use Rattle.windows.specs.Parts.{Spaced}
use Rattle.sheet.proofs.CrowdedLaws.{crowded, crowded_at}
use Rattle.sheet.proofs.first_crowded.Goals as goal
use Rattle.sheet.proofs.first_crowded.Goals.{After-is_crowded}

-- the test made is that of 16
tested : (c : After-is_crowded) → crowded c.args.t.now.table c.args.window c.loop-i.i ≡ c.is_crowded.result
tested c = sym (c.is_crowded.ensures ∙ crowded_at _ _ c.args.t.now.headed c.loop-i.i c.loop-i-test.true c.args.window)

pub loop-i-init : goal.loop-i-init
unfolding too_many_at
loop-i-init c = slots_start (crowded c.args.t.now.table c.args.window) c.args.t.now.table.count

pub is_crowded-requires : goal.is_crowded-requires
is_crowded-requires c =
    let t = c.args.t.now.table in
    ((λ e. subst (λ (h : ℕ). Spaced (callback_at t h)) e (head_spaced _ _ c.args.t.now.headed c.loop-i.i c.loop-i-test.true)), c.requires)

pub returns-then-is_crowded : goal.returns-then-is_crowded
returns-then-is_crowded c =
    let e = sym (slots_hit _ _ _ c.loop-i-test.true (tested (goal.at.returns-then-is_crowded c).After-is_crowded ∙ c.if-is_crowded.true)) ∙ c.loop-i.invariant in
    found_some _ (λ z. omega arith) ∙ ap some_index e

pub loop-i-preserved : goal.loop-i-preserved
loop-i-preserved c = sym (slots_miss _ _ _ c.loop-i-test.true (tested (goal.at.loop-i-preserved c).After-is_crowded ∙ c.if-is_crowded.false)) ∙ c.loop-i.invariant

pub returns : goal.returns
returns c = ap some_index (sym (slots_end _ _ _ c.loop-i-test.false) ∙ c.loop-i.invariant)
