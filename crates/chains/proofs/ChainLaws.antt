-- The head of a chain, found back along the names. Assumes nothing.
-- feed_none, feed_set, fed_start, fed_more: the feeders, from the last record to the first. head_start, head_top, head_up, head_end: the way back.
use mathlib.Core.Path.{◌≡◌, refl, sym, ap, ◌∙◌}
use mathlib.Core.Logic.{◌⊎◌, inl, inr, ◌≢◌}
use mathlib.Core.Bool.{Bool, true, false, cond}
use mathlib.Core.List.{List}
use Rattle.std.specs.Prelude.{Option, Some, None}
use Rattle.masks.specs.Parts.{some_index}
use native.Mathlib.Numerals.{add-one}
use Prim.Native.Nat.{ℕ, zero, suc, ◌+◌, ◌-◌, ◌≤◌, ◌<◌}
use native.Mathlib.Decide.{ℕ_discrete}
use native.Mathlib.Omega.{arith}
use lib.Dec.{eqb}
use lib.ListN.{length, get_or, set, replicate, get_or-replicate}
use lib.Seq.{get_or-set_same, get_or-set_other}
use borrow.Author.Tests.{eq-eqb, ne_eqb}
use Rattle.ranges.proofs.LeastLaws.{rest_slots, slots_start, slots_end, slots_hit, slots_miss, lowest-le}
use Rattle.table.specs.declared.Table.{Table}
use Rattle.table.specs.Values.{next_of}
use Rattle.table.specs.Links.{linked}
use Rattle.chains.specs.Chains.{feeder, head_from, head_of}

-- ---- the feeders

-- nothing is written for slot i
pub feed_none : (next i : ℕ) (x y : Option ℕ) → i < 16 → ((next ≢ 0) × (16 < next)) ⊎ (next ≡ 0) → y ≡ cond (eqb next (suc i)) x y
feed_none next i x y l (inl h) = simp (ne_eqb next (suc i) (λ e. omega (arith, h.1)))
feed_none next i x y l (inr h) = simp (ne_eqb next (suc i) (λ e. omega arith))

pub feed_set : (f : List (Option ℕ)) (next i : ℕ) (x : Option ℕ) → length f ≡ 16 → next ≢ 0 → i < 16
    → get_or (set f (next - 1) x) i None ≡ cond (eqb next (suc i)) x (get_or f i None)
feed_set f next i x l some h = go (ℕ_discrete next (suc i))
  where
    go : Dec (next ≡ suc i) → get_or (set f (next - 1) x) i None ≡ cond (eqb next (suc i)) x (get_or f i None)
    go (yes e) =
        let s : next - 1 ≡ i = omega arith in
        simp (eq-eqb next (suc i) e, s) (get_or-set_same f i x None (omega arith))
    go (no e) = simp (ne_eqb next (suc i) e) (get_or-set_other f (next - 1) i x None (λ q. e (omega arith)))

-- who names slot i
abbrev pub naming : Table → ℕ → ℕ → Bool
naming t i p = linked t p i

pub fed_start : (t : Table) (i : ℕ) → i < 16 → get_or (replicate {A = Option ℕ} 16 None) i None ≡ some_index (rest_slots (naming t i) t.count t.count)
fed_start t i h = get_or-replicate 16 i None None h ∙ ap some_index (sym (slots_end (naming t i) t.count t.count (omega arith)))

some_next : (p : ℕ) → Some (p + 1) ≡ some_index (p + 1)
some_next p = ap Some (add-one p) ∙ ap some_index (sym (add-one p))

pub fed_more : (t : Table) (i p : ℕ) (x y : Option ℕ) → 0 < p → p ≤ t.count → x ≡ cond (eqb (next_of t (p - 1)) (suc i)) (Some (p - 1 + 1)) y
    → y ≡ some_index (rest_slots (naming t i) t.count p) → x ≡ some_index (rest_slots (naming t i) t.count (p - 1))
unfolding linked
fed_more t i p x y some few e so = go (eqb (next_of t (p - 1)) (suc i)) refl
  where
    back : p - 1 + 1 ≡ p
    back = omega arith

    go : (b : Bool) → eqb (next_of t (p - 1)) (suc i) ≡ b → x ≡ some_index (rest_slots (naming t i) t.count (p - 1))
    go true f =
        e
        ∙ ap (λ (b : Bool). cond b (Some (p - 1 + 1)) y) f
        ∙ some_next (p - 1)
        ∙ ap some_index (sym (slots_hit (naming t i) t.count (p - 1) (omega arith) f))
    go false f =
        e
        ∙ ap (λ (b : Bool). cond b (Some (p - 1 + 1)) y) f
        ∙ so
        ∙ ap some_index (sym (slots_miss (naming t i) t.count (p - 1) (omega arith) f ∙ ap (rest_slots (naming t i) t.count) back))

pub fed_end : (t : Table) (i p : ℕ) → p ≤ 0 → rest_slots (naming t i) t.count p ≡ feeder t i
unfolding feeder
fed_end t i p l = let z : p ≡ 0 = omega arith in ap (rest_slots (naming t i) t.count) z ∙ slots_start (naming t i) t.count

-- ---- the way back

pub feeder-le : (t : Table) (i : ℕ) → feeder t i ≤ t.count
unfolding feeder
feeder-le t i = lowest-le (naming t i) t.count

pub head_start : (t : Table) (i : ℕ) → head_from t (t.count - 0) i ≡ head_of t i
unfolding head_of
head_start t i = let n : t.count - 0 ≡ t.count = omega arith in ap (λ (k : ℕ). head_from t k i) n

module _ (t : Table) (n k x : ℕ) where
  pub head_end : n ≤ k → head_from t (n - k) x ≡ x
  unfolding head_from
  head_end l = let z : n - k ≡ 0 = omega arith in ap (λ (f : ℕ). head_from t f x) z

  module _ (l : k < n) where
    one_back : head_from t (n - k) x ≡ elim (feeder t x) as (λ _. ℕ) [ zero ↦ x | suc p ↦ head_from t (n - (k + 1)) p ]
    unfolding head_from
    one_back = let e : n - k ≡ suc (n - (k + 1)) = omega arith in ap (λ (f : ℕ). head_from t f x) e

    pub head_top : feeder t x ≡ 0 → head_from t (n - k) x ≡ x
    head_top e = one_back ∙ ap (λ (p : ℕ). elim p as (λ _. ℕ) [ zero ↦ x | suc q ↦ head_from t (n - (k + 1)) q ]) e

    pub head_up : feeder t x ≢ 0 → head_from t (n - k) x ≡ head_from t (n - (k + 1)) (feeder t x - 1)
    head_up h =
        let e : feeder t x ≡ suc (feeder t x - 1) = omega arith in
        one_back ∙ ap (λ (p : ℕ). elim p as (λ _. ℕ) [ zero ↦ x | suc q ↦ head_from t (n - (k + 1)) q ]) e
