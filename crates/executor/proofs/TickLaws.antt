-- The tick, refusal by refusal in the order of the page. Assumes nothing.
--   finished_le, effect_folded, full_is, admitted-full, admitted_free  refusal 21, or the effect
--   passes, not_refused                                                where nothing refuses it, the tick has its effect
--   tick_faulty, tick_spent, tick_cost, tick_foreign, tick_admitted    29, 18, 19, 20, and what follows
use mathlib.Core.Path.{◌≡◌, refl, sym, subst, ap, ap₂, ◌∙◌}
use mathlib.Core.Logic.{◌≢◌}
use mathlib.Core.Bool.{Bool, true, false, and-false}
use Prim.Native.Nat.{ℕ, zero, suc, ◌≤◌, ◌<◌}
use native.Mathlib.Omega.{arith}
use lib.Dec.{leb}
use borrow.Author.Tests.{eq-eqb, ne_eqb, le-leb, lt-leb}
use Rattle.masks.specs.Parts.{except}
use Rattle.table.specs.declared.Refusal.{Refusal}
use Rattle.table.specs.Values.{refuse, accepted, lowest_refused}
use Rattle.table.specs.Links.{next_after, foreign}
use Rattle.answers.specs.Outcome.{finished_of}
use Rattle.queues.specs.Queues.{full_with}
use Rattle.folding.proofs.FoldingLaws.{kept_mask}
use Rattle.executor.specs.declared.Machine.{Machine}
use Rattle.numbers.specs.Numbers
use Rattle.executor.specs.State.{faulty}
use Rattle.executor.specs.declared.Ticked.{Ticked}
use Rattle.executor.specs.Effect.{folded_in, arrive, turn_in, unsupplied, effect}
use Rattle.executor.specs.Tick.{full, tick_fault, refused, tick_of}
use Rattle.executor.specs.Parts.{Admissible, admitted}
use Rattle.executor.proofs.ValidLaws.{table_sound, valid_arrived}
use Rattle.executor.proofs.Cases.{effect_cases, Turned, turned}
use Rattle.ranges.specs.Every.{within}
use Rattle.table.proofs.RefusalLaws.{lowest-refused, lowest_passed}

module _ (m : Machine) (mask : ℕ) (supplied : Bool) (cost : ℕ) where
  -- ---- refusal 21, or the effect

  -- whoever finishes is one of the table's
  finished_le : Admissible Numbers.most_waiting m cost → foreign m.table mask ≡ 0 → finished_of (effect m mask supplied cost).outcome ≤ Numbers.places
  unfolding unsupplied
  finished_le ok heads =
      effect_cases (λ o. finished_of o.outcome ≤ Numbers.places) m mask supplied cost
      (λ s. omega arith)
      (λ s e. omega arith)
      (λ i s e u. omega (arith, (w.waiting i e).0, (table_sound m.table ok.valid.table).few))
      (λ i s e u. omega arith)
    where
      w : Turned (arrive m mask) cost (turn_in (arrive m mask) cost)
      w = turned (arrive m mask) (valid_arrived m ok.valid mask heads) cost ok.priced

  -- the effect tells whom it folds
  pub effect_folded : (effect m mask supplied cost).folded ≡ folded_in m mask
  unfolding unsupplied
  effect_folded = effect_cases (λ o. o.folded ≡ folded_in m mask) m mask supplied cost (λ s. refl) (λ s e. refl) (λ i s e u. refl) (λ i s e u. refl)

  -- what the code finds on the way to it
  module _ (r : Ticked) (e : r ≡ effect m mask supplied cost) (x : ℕ) (f : x ≡ finished_of r.outcome) where
    finished_is : x ≡ finished_of (effect m mask supplied cost).outcome
    finished_is = f ∙ ap (λ (y : Ticked). finished_of y.outcome) e

    pub finished_few : Admissible Numbers.most_waiting m cost → foreign m.table mask ≡ 0 → x ≤ Numbers.places
    finished_few ok heads = subst (λ (y : ℕ). y ≤ Numbers.places) (sym finished_is) (finished_le ok heads)

    pub full_is : (n k : ℕ) → mask < 65536 → n ≡ next_after m.table x → k ≡ except mask r.folded → full_with m.waiting k n ≡ full m mask supplied cost
    unfolding full
    full_is n k l g q =
        ap₂ (full_with m.waiting) (q ∙ ap (except mask) (ap (λ (z : Ticked). z.folded) e ∙ effect_folded) ∙ kept_mask mask _ l)
        (g ∙ ap (next_after m.table) finished_is)

  module _ (x : ℕ) (e : x ≡ full m mask supplied cost) where
    pub admitted-full : x ≢ 0 → refused m (refuse Numbers.queue_full x) ≡ admitted m mask supplied cost
    unfolding admitted
    admitted-full h = go x h ∙ ap (λ (y : ℕ). elim y [ zero ↦ effect m mask supplied cost | suc i ↦ refused m (refuse Numbers.queue_full (suc i)) ]) e
      where
        go : (y : ℕ) → y ≢ 0
            → refused m (refuse Numbers.queue_full y) ≡ elim y [ zero ↦ effect m mask supplied cost | suc i ↦ refused m (refuse Numbers.queue_full (suc i)) ]
        go zero n = absurd (n refl)
        go (suc i) n = refl

    pub admitted_free : x ≡ 0 → effect m mask supplied cost ≡ admitted m mask supplied cost
    unfolding admitted
    admitted_free z = ap (λ (y : ℕ). elim y [ zero ↦ effect m mask supplied cost | suc i ↦ refused m (refuse Numbers.queue_full (suc i)) ]) (sym z ∙ e)

  -- ---- the tick

  -- the tick by its refusal
  refuses : (r : Refusal) → tick_fault m mask supplied cost ≡ r → r.number ≢ 0 → refused m r ≡ tick_of m mask supplied cost
  unfolding tick_of
  refuses r e h =
      sym
      (ap (λ (b : Bool). elim b [ true ↦ effect m mask supplied cost | false ↦ refused m (tick_fault m mask supplied cost) ])
      (ne_eqb (tick_fault m mask supplied cost).number 0 (λ z. h (sym (ap (λ (x : Refusal). x.number) e) ∙ z)))
      ∙ ap (refused m) e)

  pub passes : (tick_fault m mask supplied cost).number ≡ 0 → effect m mask supplied cost ≡ tick_of m mask supplied cost
  unfolding tick_of
  passes e =
      sym (ap (λ (b : Bool). elim b [ true ↦ effect m mask supplied cost | false ↦ refused m (tick_fault m mask supplied cost) ]) (eq-eqb (tick_fault m mask supplied cost).number 0 e))

  -- each refusal in turn
  pub not_refused : faulty m ≡ false → m.clock < Numbers.most_ticks → (1 ≤ cost) × (cost ≤ Numbers.longest) → foreign m.table mask ≡ 0
      → full m mask supplied cost ≡ 0 → (tick_fault m mask supplied cost).number ≡ 0
  unfolding tick_fault
  not_refused a b c d e =
      rw (a, tick_fault, lt-leb Numbers.most_ticks m.clock b, le-leb 1 cost c.0, le-leb cost Numbers.longest c.1, d, e)

  pub tick_faulty : true ≡ faulty m → refused m (refuse Numbers.faulty_state 0) ≡ tick_of m mask supplied cost
  unfolding tick_fault
  tick_faulty f = refuses (refuse Numbers.faulty_state 0) (rw (← f, tick_fault)) (λ z. omega arith)

  module _ (right : faulty m ≡ false) where
    pub tick_spent : Numbers.most_ticks ≤ m.clock → refused m (refuse Numbers.ticks_spent 0) ≡ tick_of m mask supplied cost
    unfolding tick_fault
    tick_spent l = refuses (refuse Numbers.ticks_spent 0) (rw (right, tick_fault, le-leb Numbers.most_ticks m.clock l)) (λ z. omega arith)

    module _ (early : m.clock < Numbers.most_ticks) where
      pub tick_cost : within 1 Numbers.longest cost ≡ false → refused m (refuse Numbers.wrong_cost 0) ≡ tick_of m mask supplied cost
      unfolding tick_fault
      tick_cost f =
          refuses (refuse Numbers.wrong_cost 0) (rw (right, tick_fault, lt-leb Numbers.most_ticks m.clock early, f)) (λ z. omega arith)

      module _ (priced : within 1 Numbers.longest cost ≡ true) where
        -- refusal 21 or none
        abbrev after20 : Refusal
        after20 = lowest_refused Numbers.queue_full (full m mask supplied cost) accepted

        last : tick_fault m mask supplied cost ≡ lowest_refused Numbers.not_a_head (foreign m.table mask) after20
        unfolding tick_fault
        last = rw (right, tick_fault, lt-leb Numbers.most_ticks m.clock early, priced)

        pub tick_foreign : (x : ℕ) → x ≡ foreign m.table mask → x ≢ 0 → refused m (refuse Numbers.not_a_head x) ≡ tick_of m mask supplied cost
        tick_foreign x e h =
            refuses (refuse Numbers.not_a_head x)
            (last ∙ ap (λ (y : ℕ). lowest_refused Numbers.not_a_head y after20) (sym e) ∙ lowest-refused Numbers.not_a_head x after20 h)
            (λ z. omega arith)

        pub tick_admitted : foreign m.table mask ≡ 0 → admitted m mask supplied cost ≡ tick_of m mask supplied cost
        unfolding admitted
        tick_admitted z = go (full m mask supplied cost) refl
          where
            then : tick_fault m mask supplied cost ≡ lowest_refused Numbers.queue_full (full m mask supplied cost) accepted
            then = last ∙ lowest_passed Numbers.not_a_head (foreign m.table mask) after20 z

            go : (y : ℕ) → full m mask supplied cost ≡ y
                → elim y [ zero ↦ effect m mask supplied cost | suc i ↦ refused m (refuse Numbers.queue_full (suc i)) ] ≡ tick_of m mask supplied cost
            go zero q = passes (ap (λ (r : Refusal). r.number) (then ∙ lowest_passed Numbers.queue_full (full m mask supplied cost) accepted q))
            go (suc i) q =
                refuses (refuse Numbers.queue_full (suc i)) (then ∙ ap (λ (y : ℕ). lowest_refused Numbers.queue_full y accepted) q) (λ n. omega arith)

-- a cost that is 0, or too large, or neither
pub cost-none : (cost : ℕ) → cost ≡ 0 → within 1 Numbers.longest cost ≡ false
cost-none cost e = ap (within 1 Numbers.longest) e

pub cost_large : (cost : ℕ) → Numbers.longest < cost → within 1 Numbers.longest cost ≡ false
cost_large cost h = rw (lt-leb cost Numbers.longest h) (and-false (leb 1 cost))

pub cost_right : (cost : ℕ) → cost ≢ 0 → cost ≤ Numbers.longest → within 1 Numbers.longest cost ≡ true
cost_right cost n h = rw (le-leb 1 cost (omega arith), le-leb cost Numbers.longest h)
