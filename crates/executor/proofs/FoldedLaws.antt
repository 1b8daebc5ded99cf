-- Row 21 and timers (document 02, U6): every beat of a timer with a full queue is folded, and no completion activates a timer. Assumes nothing.
--   full_other    the full queue that a tick finds is no timer's
--   never_timer   so no tick of a state without faults is refused with 21 for a timer
--   Prompt, fresh_prompt, tick_prompt   from a fresh state on, at most one instance of a timer waits that has not started
use mathlib.Core.Path.{◌≡◌, refl, sym, subst, ap, ◌∙◌}
use mathlib.Core.Logic.{◌≢◌}
use mathlib.Core.Bool.{Bool, true, false, ◌||◌}
use Prim.Native.Nat.{ℕ, zero, suc, ◌+◌, ◌≤◌, ◌<◌}
use native.Mathlib.Omega.{arith}
use lib.Dec.{eqb, leb}
use lib.ListN.{get_or-replicate}
use borrow.Author.Tests.{eqb-true, leb-true}
use Rattle.masks.specs.Mask.{has}
use Rattle.ranges.specs.Sum.{given, hit}
use Rattle.ranges.specs.Every.{within}
use Rattle.ranges.proofs.SumLaws.{hit-le, hit_other}
use Rattle.ranges.proofs.LeastLaws.{lowest-hit}
use Rattle.ranges.proofs.EveryLaws.{and_holds, within_passed}
use Rattle.numbers.specs.Numbers.{places, most_ticks, most_waiting, longest, timer, not_a_head, queue_full}
use Rattle.table.specs.declared.Refusal.{Refusal}
use Rattle.table.specs.declared.Table.{Table}
use Rattle.table.specs.Values.{kind_of, refuse, accepted, lowest_refused}
use Rattle.table.specs.Links.{next_after, foreign}
use Rattle.rules.specs.Parts.{Sound}
use Rattle.link_rules.proofs.Names.{next_link, head_unfed}
use Rattle.answers.specs.Outcome.{finished_of}
use Rattle.queues.specs.Queues.{full_with}
use Rattle.folding.specs.Folding.{kept}
use Rattle.folding.proofs.FoldingLaws.{kept-has, kept_few}
use Rattle.faults.specs.Faults.{table_fault}
use Rattle.executor.specs.declared.Machine.{Machine}
use Rattle.executor.specs.declared.Ticked.{Ticked}
use Rattle.executor.specs.State.{fresh, waiting_of, faulty}
use Rattle.executor.specs.Effect.{folded_in, kept_in, effect}
use Rattle.executor.specs.Tick.{next_activated, full, tick_fault, refused, tick_of}
use Rattle.executor.specs.Parts.{Valid}
use Rattle.executor.proofs.ValidLaws.{table_sound}
use Rattle.executor.proofs.Steps.{Stepped, steps}
use Rattle.executor.proofs.TickLaws.{effect_folded}
use Rattle.executor.proofs.TickCases.{Passed, tick_cases}

module _ (m : Machine) (ok : Valid m) (mask cost : ℕ) (priced : (1 ≤ cost) × (cost ≤ longest)) (heads : foreign m.table mask ≡ 0) (supplied : Bool) where
  so : Sound m.table
  so = table_sound m.table ok.table

  abbrev o : Ticked
  o = effect m mask supplied cost

  did : Stepped m.table m mask supplied cost o
  did = steps m ok mask cost priced heads supplied

  module _ (i : ℕ) (timed : kind_of m.table i ≡ timer) where
    -- a completion activates no timer
    not_next : (f : ℕ) → finished_of o.outcome ≡ f → next_after m.table f ≢ suc i
    unfolding next_after
    not_next zero e q = absurd (omega arith)
    not_next (suc p) e q =
        let l = did.whose p e in
        head_unfed m.table i (so.timer_head i (omega (arith, so.names p l)) timed) p l (next_link m.table p i q)

    pub full_other : full m mask supplied cost ≢ suc i
    unfolding full full_with
    full_other e =
        let a = lowest-hit _ places i e in
        let b = and_holds (has (kept_in m mask) i || eqb (next_activated m.table o.outcome) (suc i)) (leb most_waiting (waiting_of m i)) a.1 in
        go (has (kept_in m mask) i) refl b.0 (leb-true most_waiting (waiting_of m i) b.1) a.0
      where
        go : (k : Bool) → has (kept_in m mask) i ≡ k → (k || eqb (next_activated m.table o.outcome) (suc i)) ≡ true → most_waiting ≤ waiting_of m i → i < places → ⊥
        go true p q l h = absurd (omega (arith, hit-le m.running i, kept_few m.table m.waiting m.running mask i h timed (sym (kept-has mask (folded_in m mask) i h) ∙ p)))
        go false p q l h = not_next (finished_of o.outcome) refl (eqb-true _ (suc i) q)

    -- of its instances at most one waits unstarted after the tick, if it was so before
    pub behind : i < m.table.count → waiting_of m i ≤ hit m.running i + 1 → waiting_of o.machine i ≤ hit o.machine.running i + 1
    behind l p = go (kept mask o.folded i) refl
      where
        low : i < places
        low = omega (arith, so.few)

        unfed : hit (next_activated m.table o.outcome) i ≡ 0
        unfed = hit_other _ i (not_next (finished_of o.outcome) refl)

        go : (b : Bool) → kept mask o.folded i ≡ b → waiting_of o.machine i ≤ hit o.machine.running i + 1
        go true e = omega (
          arith,
          did.queue i low,
          did.turn i,
          unfed,
          ap (λ (b : Bool). given b 1) e,
          kept_few m.table m.waiting m.running mask i low timed (ap (λ (f : ℕ). kept mask f i) (sym (effect_folded m mask supplied cost)) ∙ e),
        )
        go false e = omega (arith, did.queue i low, did.turn i, unfed, ap (λ (b : Bool). given b 1) e)

module _ (m : Machine) (ok : Valid m) (mask : ℕ) (supplied : Bool) (cost i : ℕ) (timed : kind_of m.table i ≡ timer) where
  abbrev Other : Refusal → Type 0
  Other r = r ≢ refuse queue_full (suc i)

  number : (r : Refusal) → r.number ≢ queue_full → Other r
  number r h e = h (ap (λ (x : Refusal). x.number) e)

  last : (1 ≤ cost) × (cost ≤ longest) → (x y : ℕ) → foreign m.table mask ≡ x → full m mask supplied cost ≡ y
      → Other (lowest_refused not_a_head x (lowest_refused queue_full y accepted))
  last c zero zero p q = number _ (λ z. omega arith)
  last c zero (suc y) p q = (λ e. full_other m ok mask cost c p supplied i timed (q ∙ ap (λ (x : Refusal). x.index) e))
  last c (suc x) y p q = number _ (λ z. omega arith)

  pub never_timer : Other (tick_fault m mask supplied cost)
  unfolding tick_fault
  never_timer = go (faulty m) (leb most_ticks m.clock) (within 1 longest cost) refl refl refl
    where
      go : (x y z : Bool) → faulty m ≡ x → leb most_ticks m.clock ≡ y → within 1 longest cost ≡ z → Other (tick_fault m mask supplied cost)
      go true y z ex ey ez = rw (ex, tick_fault) (number _ (λ w. omega arith))
      go false true z ex ey ez = rw (ex, ey, tick_fault) (number _ (λ w. omega arith))
      go false false false ex ey ez = rw (ex, ey, ez, tick_fault) (number _ (λ w. omega arith))
      go false false true ex ey ez = rw (ex, ey, ez, tick_fault) (last (within_passed 1 longest cost ez) _ _ refl refl)

-- ---- how far a timer falls behind

-- at most one instance of a timer waits that has not started
abbrev pub Prompt : Machine → Type 0
Prompt m = (i : ℕ) → i < m.table.count → kind_of m.table i ≡ timer → waiting_of m i ≤ hit m.running i + 1

pub fresh_prompt : (t : Table) → table_fault t ≡ false → Prompt (fresh t)
unfolding fresh
fresh_prompt t right i l timed = omega (arith, get_or-replicate {A = ℕ} places i 0 0 (omega (arith, (table_sound t right).few)))

-- and a tick leaves it so, refused or not
pub tick_prompt : (m : Machine) → Valid m → Prompt m → (mask : ℕ) (supplied : Bool) (cost : ℕ)
    → Valid (tick_of m mask supplied cost).machine × Prompt (tick_of m mask supplied cost).machine
unfolding refused
tick_prompt m ok p mask supplied cost =
    tick_cases m mask supplied cost (λ o. Valid o.machine × Prompt o.machine)
    (λ h. ((steps m ok mask cost h.priced h.heads supplied).valid, done h)) (λ _. (ok, p))
  where
    done : Passed m mask cost → Prompt (effect m mask supplied cost).machine
    done h i =
        subst (λ (t : Table). i < t.count → kind_of t i ≡ timer → waiting_of (effect m mask supplied cost).machine i ≤ hit (effect m mask supplied cost).machine.running i + 1)
        (sym (steps m ok mask cost h.priced h.heads supplied).held) (λ l timed. behind m ok mask cost h.priced h.heads supplied i timed l (p i l timed))
