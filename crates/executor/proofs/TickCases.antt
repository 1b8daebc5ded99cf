-- A tick that nothing refuses has its effect, and a refused one keeps its state. Assumes nothing.
--   Passed, passed     what the refusals 29, 18, 19 and 20 leave
--   tick_cases         what holds of the effect, and of a refused tick, holds of the tick
--   tick_is_ok         it is answered where its refusal has number 0
--   tick_table, refused_keeps, below_faulty    the table stays; so does a refused state; no refusal of a state without faults is 29
use mathlib.Core.Path.{◌≡◌, refl, sym}
use mathlib.Core.Logic.{◌≢◌}
use mathlib.Core.Bool.{Bool, true, false}
use Prim.Native.Nat.{ℕ, zero, suc, ◌≤◌, ◌<◌}
use native.Mathlib.Omega.{arith}
use lib.Dec.{eqb, leb}
use borrow.Author.Tests.{ne_eqb, eqb-true, eqb-false, leb-false}
use Rattle.numbers.specs.Numbers.{most_ticks, longest, not_a_head, queue_full}
use Rattle.ranges.specs.Every.{within}
use Rattle.ranges.proofs.EveryLaws.{within_passed}
use Rattle.std.specs.Result.{is_ok}
use Rattle.table.specs.Values.{accepted, lowest_refused}
use Rattle.table.specs.Links.{foreign}
use Rattle.table.proofs.RefusalLaws.{lowest_zero}
use Rattle.answers.specs.Outcome.{refusal_of}
use Rattle.executor.specs.declared.Machine.{Machine}
use Rattle.executor.specs.declared.Ticked.{Ticked}
use Rattle.executor.specs.State.{faulty}
use Rattle.executor.specs.Effect.{unsupplied, effect}
use Rattle.executor.specs.Tick.{full, tick_fault, refused, tick_of}
use Rattle.executor.proofs.Cases.{effect_cases}

-- the number of its refusal
abbrev pub number_in : Ticked → ℕ
number_in x = (refusal_of x.outcome).number

pub record Passed (m : Machine) (mask cost : ℕ) : Type 0 where
  pub right : faulty m ≡ false
  pub early : m.clock < most_ticks
  pub priced : (1 ≤ cost) × (cost ≤ longest)
  pub heads : foreign m.table mask ≡ 0

module _ (m : Machine) (mask : ℕ) (supplied : Bool) (cost : ℕ) where
  pub passed : (tick_fault m mask supplied cost).number ≡ 0 → Passed m mask cost
  unfolding tick_fault
  passed e = go (faulty m) (leb most_ticks m.clock) (within 1 longest cost) refl refl refl
    where
      go : (x y z : Bool) → faulty m ≡ x → leb most_ticks m.clock ≡ y → within 1 longest cost ≡ z → Passed m mask cost
      go true y z ex ey ez = absurd (omega (arith, rw (ex, tick_fault) at e))
      go false true z ex ey ez = absurd (omega (arith, rw (ex, ey, tick_fault) at e))
      go false false false ex ey ez = absurd (omega (arith, rw (ex, ey, ez, tick_fault) at e))
      go false false true ex ey ez =
          let last = lowest_zero not_a_head (foreign m.table mask) (lowest_refused queue_full (full m mask supplied cost) accepted) (λ z. omega arith) (rw (ex, ey, ez, tick_fault) at e) in
          record { right = ex; early = leb-false most_ticks m.clock ey; priced = within_passed 1 longest cost ez; heads = last.0 }

  pub tick_cases : (P : Ticked → Type 0) → (Passed m mask cost → P (effect m mask supplied cost))
      → ((tick_fault m mask supplied cost).number ≢ 0 → P (refused m (tick_fault m mask supplied cost))) → P (tick_of m mask supplied cost)
  unfolding tick_of
  tick_cases P done kept = go (eqb (tick_fault m mask supplied cost).number 0) refl
    where
      go : (b : Bool) → eqb (tick_fault m mask supplied cost).number 0 ≡ b
          → P (elim b [ true ↦ effect m mask supplied cost | false ↦ refused m (tick_fault m mask supplied cost) ])
      go true e = done (passed (eqb-true _ 0 e))
      go false e = kept (eqb-false _ 0 e)

  -- ---- the table, and a refused state

  pub effect_answers : number_in (effect m mask supplied cost) ≡ 0
  unfolding unsupplied
  effect_answers = effect_cases (λ o. number_in o ≡ 0) m mask supplied cost (λ s. refl) (λ s e. refl) (λ i s e u. refl) (λ i s e u. refl)

  effect-table : (effect m mask supplied cost).machine.table ≡ m.table
  unfolding unsupplied
  effect-table = effect_cases (λ o. o.machine.table ≡ m.table) m mask supplied cost (λ s. refl) (λ s e. refl) (λ i s e u. refl) (λ i s e u. refl)

  -- an effect is an answer, and a refusal has a number
  effect_is_ok : is_ok (effect m mask supplied cost).outcome ≡ eqb (number_in (effect m mask supplied cost)) 0
  unfolding unsupplied
  effect_is_ok = effect_cases (λ o. is_ok o.outcome ≡ eqb (number_in o) 0) m mask supplied cost (λ s. refl) (λ s e. refl) (λ i s e u. refl) (λ i s e u. refl)

  pub tick_is_ok : is_ok (tick_of m mask supplied cost).outcome ≡ eqb (number_in (tick_of m mask supplied cost)) 0
  unfolding refused
  tick_is_ok = tick_cases (λ o. is_ok o.outcome ≡ eqb (number_in o) 0) (λ p. effect_is_ok) (λ h. sym (ne_eqb _ 0 h))

  pub tick_table : (tick_of m mask supplied cost).machine.table ≡ m.table
  unfolding refused
  tick_table = tick_cases (λ o. o.machine.table ≡ m.table) (λ p. effect-table) (λ h. refl)

  pub refused_keeps : number_in (tick_of m mask supplied cost) ≢ 0 → (tick_of m mask supplied cost).machine ≡ m
  unfolding refused
  refused_keeps = tick_cases (λ o. number_in o ≢ 0 → o.machine ≡ m) (λ p h. absurd (h effect_answers)) (λ h k. refl)

  -- ---- the numbers of the refusals

  last : (x y : ℕ) → (lowest_refused not_a_head x (lowest_refused queue_full y accepted)).number ≤ queue_full
  last zero zero = omega arith
  last zero (suc y) = omega arith
  last (suc x) y = omega arith

  fault_below : faulty m ≡ false → (tick_fault m mask supplied cost).number ≤ queue_full
  unfolding tick_fault
  fault_below right = go (leb most_ticks m.clock) (within 1 longest cost) refl refl
    where
      go : (y z : Bool) → leb most_ticks m.clock ≡ y → within 1 longest cost ≡ z → (tick_fault m mask supplied cost).number ≤ queue_full
      go true z ey ez = rw (right, ey, tick_fault) (omega arith)
      go false false ey ez = rw (right, ey, ez, tick_fault) (omega arith)
      go false true ey ez = rw (right, ey, ez, tick_fault) (last (foreign m.table mask) (full m mask supplied cost))

  pub below_faulty : faulty m ≡ false → number_in (tick_of m mask supplied cost) ≤ queue_full
  unfolding refused
  below_faulty right = tick_cases (λ o. number_in o ≤ queue_full) (λ p. omega (arith, effect_answers)) (λ h. fault_below right)
