-- Who names whom. Assumes nothing.
-- names_once: where none is named twice, two that name the same are one. head_named: a head is named by nobody. off-loop: what it is to be on no loop.
-- link_next, next_link, fed_by, unfed: who feeds whom. head_unfed, unfed_head: a head is fed by nobody.
use mathlib.Core.Path.{◌≡◌, ap}
use mathlib.Core.Logic.{◌⊎◌, inl, inr, ◌≢◌}
use mathlib.Core.Bool.{Bool, true, false}
use Prim.Native.Nat.{ℕ, zero, suc, ◌+◌, ◌≤◌, ◌<◌}
use native.Mathlib.Nat.{eq-or-lt_of_le, le_of_suc-le-suc}
use native.Mathlib.Omega.{arith}
use lib.Dec.{T, eqb, leb, eqb→eq}
use borrow.Author.Tests.{not-false, eq-eqb, eqb-true, leb-false}
use Rattle.ranges.specs.Least.{least, lowest}
use Rattle.ranges.specs.Sum.{sum, given}
use Rattle.ranges.proofs.SumLaws.{le_or_lt, sum_part, sum-none}
use Rattle.ranges.proofs.LeastLaws.{least_by, lowest-hit, lowest-none}
use Rattle.ranges.proofs.EveryLaws.{holds, T_holds, never_both}
use Rattle.table.specs.declared.Table.{Table}
use Rattle.table.specs.Values.{next_of}
use Rattle.table.specs.Walk.{walk}
use Rattle.table.specs.Links.{linked, named, is_head, on_loop}
use Rattle.chains.specs.Chains.{feeder}

-- two terms of a sum
sum_pair : (f : ℕ → ℕ) (n p q : ℕ) → p < q → q < n → f p + f q ≤ sum n f
unfolding sum
sum_pair f zero p q l h = absurd (omega arith)
sum_pair f (suc n) p q l h = go (eq-or-lt_of_le (le_of_suc-le-suc h)) (λ k. sum_pair f n p q l k)
  where
    go : (q ≡ n) ⊎ (q < n) → (q < n → f p + f q ≤ sum n f) → f p + f q ≤ sum n f + f n
    go (inl e) w = omega (arith, sum_part f n p (omega arith), ap f e)
    go (inr k) w = omega (arith, w k)

module _ (t : Table) where
  -- a record that names slot i counts 1
  counts : (p i : ℕ) → next_of t p ≡ suc i → given (linked t p i) 1 ≡ 1
  unfolding linked
  counts p i e = ap (λ (b : Bool). given b 1) (eq-eqb (next_of t p) (suc i) e)

  named_pair : (p q i : ℕ) → p < q → q < t.count → next_of t p ≡ suc i → next_of t q ≡ suc i → 2 ≤ named t i
  unfolding named
  named_pair p q i l h e f = omega (arith, sum_pair (λ p. given (linked t p i) 1) t.count p q l h, counts p i e, counts q i f)

  -- where none is named twice, two that name the same are one
  pub names_once : lowest (λ i. leb 2 (named t i)) t.count ≡ 0 → ((i : ℕ) → i < t.count → next_of t i ≤ t.count)
      → (p q i : ℕ) → p < t.count → q < t.count → next_of t p ≡ suc i → next_of t q ≡ suc i → p ≡ q
  names_once none names p q i lp lq e f = go (le_or_lt p q)
    where
      under_two : named t i < 2
      under_two = leb-false 2 (named t i) (lowest-none (λ i. leb 2 (named t i)) t.count none i (omega (arith, names p lp)))

      go : (p ≤ q) ⊎ (q < p) → p ≡ q
      go (inr l) = absurd (omega (arith, named_pair q p i l lp f e, under_two))
      go (inl l) = pick (eq-or-lt_of_le l)
        where
          pick : (p ≡ q) ⊎ (p < q) → p ≡ q
          pick (inl s) = s
          pick (inr s) = absurd (omega (arith, named_pair p q i s lq e f, under_two))

  -- a head is named by nobody
  pub head_named : (i : ℕ) → is_head t i ≡ true → named t i ≡ 0
  unfolding is_head
  head_named i e = eqb-true (named t i) 0 e

  pub off-loop : (i : ℕ) → on_loop t i ≡ false → (k : ℕ) → 0 < k → k ≤ t.count → walk (next_of t) k (suc i) ≢ suc i
  unfolding on_loop
  off-loop i ok k some few e =
      let search = least_by (λ k. eqb (walk (next_of t) k (suc i)) (suc i)) t.count 1 k some (omega arith) (eq-eqb (walk (next_of t) k (suc i)) (suc i) e) in
      let none = eqb-true (least (λ k. eqb (walk (next_of t) k (suc i)) (suc i)) t.count 1) 0 (not-false (eqb (least (λ k. eqb (walk (next_of t) k (suc i)) (suc i)) t.count 1) 0) ok) in
      omega (arith, search.0.from, none)

  -- ---- who feeds whom

  pub link_next : (p i : ℕ) → T (linked t p i) → next_of t p ≡ suc i
  unfolding linked
  link_next p i l = eqb→eq (next_of t p) (suc i) l

  pub next_link : (p i : ℕ) → next_of t p ≡ suc i → T (linked t p i)
  unfolding linked
  next_link p i e = T_holds (eqb (next_of t p) (suc i)) (eq-eqb (next_of t p) (suc i) e)

  pub fed_by : (p i : ℕ) → feeder t i ≡ suc p → (p < t.count) × T (linked t p i)
  unfolding feeder
  fed_by p i e = let h = lowest-hit (λ p. linked t p i) t.count p e in (h.0, T_holds (linked t p i) h.1)

  pub unfed : (i : ℕ) → feeder t i ≡ 0 → (p : ℕ) → p < t.count → ¬ (T (linked t p i))
  unfolding feeder
  unfed i e p l k = never_both (linked t p i) (holds (linked t p i) k) (lowest-none (λ p. linked t p i) t.count e p l)

  pub head_unfed : (i : ℕ) → is_head t i ≡ true → (p : ℕ) → p < t.count → ¬ (T (linked t p i))
  unfolding named
  head_unfed i e p l k =
      omega (arith, sum_part (λ p. given (linked t p i) 1) t.count p l, ap (λ (b : Bool). given b 1) (holds (linked t p i) k), head_named i e)

  pub unfed_head : (i : ℕ) → feeder t i ≡ 0 → is_head t i ≡ true
  unfolding is_head named feeder
  unfed_head i e = eq-eqb _ 0 (sum-none (λ p. given (linked t p i) 1) t.count (λ p l. ap (λ (b : Bool). given b 1) (lowest-none (λ p. linked t p i) t.count e p l)))
