use mathlib.Core.Path.{refl, sym, ◌∙◌}
use mathlib.Core.List.{List}
use Prim.Native.Nat.{ℕ}
use Rattle.masks.specs.Mask.{gather}
use Rattle.table.specs.declared.Table.{Table}
use Rattle.turns.specs.declared.Waits.{Waits}
use Rattle.turns.proofs.ChooseLaws.{polled_at, one-polled, one_unpolled, one-idle}
use Rattle.turns.proofs.choosing.waiting_slots.Goals as goal
use Rattle.turns.proofs.choosing.waiting_slots.Goals.{then-waiting-i-gt0+then-polled, then-waiting-i-gt0+else-polled, else-waiting-i-gt0}

abbrev slots : ℕ → ℕ → Waits
slots g o = record { polled = g; unpolled = o }

pub loop-i-init : goal.loop-i-init
unfolding gather
loop-i-init c = (refl, refl)

pub loop-i-preserved : goal.loop-i-preserved
loop-i-preserved c =
    elim c.if-waiting-i-gt0.branch [
      | then-waiting-i-gt0+then-polled w ↦
          let l = one-polled t ws i _ _ c.loop-i.invariant w.if-waiting-i-gt0.true (sym (polled_at t i _ c.loop-i-test.true w.polled.ensures) ∙ w.if-polled.true) in
          (w.gathered-is ∙ w.set_slot-gathered.ensures ∙ l.0, w.others-is ∙ l.1)
      | then-waiting-i-gt0+else-polled w ↦
          let l = one_unpolled t ws i _ _ c.loop-i.invariant w.if-waiting-i-gt0.true (sym (polled_at t i _ c.loop-i-test.true w.polled.ensures) ∙ w.if-polled.false) in
          (w.gathered-is ∙ l.0, w.others-is ∙ w.set_slot-others.ensures ∙ l.1)
      | else-waiting-i-gt0 w ↦
          let l = one-idle t ws i _ _ c.loop-i.invariant w.if-waiting-i-gt0.false in (w.gathered-is ∙ l.0, w.others-is ∙ l.1)
    ]
  where
    t : Table
    t = c.args.t

    ws : List ℕ
    ws = c.args.waiting

    i : ℕ
    i = c.loop-i.i
