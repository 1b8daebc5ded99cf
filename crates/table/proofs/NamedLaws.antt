-- One pass over the records gives the slots that are named at least once and at least twice, and so the heads. Assumes nothing.
-- name_out, name-again, name-first: what name_one gives. names-start, names_more: the pass. heads_law: the heads from the names.
use mathlib.Core.Path.{◌≡◌, refl, sym, ap, ap₂, ◌∙◌}
use mathlib.Core.Logic.{◌⊎◌, inl, inr, ◌≢◌}
use mathlib.Core.Bool.{Bool, true, false, not, ◌&&◌}
use Prim.Native.Nat.{ℕ, zero, suc, ◌+◌, ◌-◌, ◌^◌, ◌≤◌, ◌<◌}
use native.Mathlib.Numerals.{add-one}
use native.Mathlib.Decide.{ℕ_discrete}
use native.Mathlib.Omega.{arith}
use lib.Dec.{eqb, leb}
use lib.Pow.{pow_pos}
use borrow.Author.Tests.{eq-eqb, ne_eqb, lt-ltb, le-ltb, le-leb, leb-true, leb-false}
use Rattle.masks.specs.Mask.{has, with_bit, gather}
use Rattle.masks.specs.Parts.{except}
use Rattle.masks.proofs.Slots.{has_with_same, has_with_other, has-except, with_lt, mask_ext}
use Rattle.masks.proofs.Gather.{gather_lt, gather_in, gather-same, gather_none, below_has}
use Rattle.ranges.specs.Sum.{sum, given}
use Rattle.ranges.proofs.SumLaws.{le_or_lt}
use Rattle.table.specs.declared.Names.{Names}
use Rattle.table.specs.declared.Table.{Table}
use Rattle.table.specs.Values.{next_of}
use Rattle.table.specs.Links.{linked, named, is_head}
use Rattle.table.specs.Parts.{names_of, name_one}

-- ---- one record

pub name_out : (n : ℕ) (s : Names) (x : ℕ) → (x ≡ 0) ⊎ ((x ≢ 0) × (n < x)) → name_one n s x ≡ s
unfolding name_one
name_out n s zero h = refl
name_out n s (suc i) (inl e) = absurd (omega arith)
name_out n s (suc i) (inr h) = rw (le-ltb i n (omega (arith, h.1)), name_one)

module _ (n : ℕ) (s : Names) (i : ℕ) where
  pub name-again : i < n → has s.once i ≡ true → name_one n s (suc i) ≡ record { once = with_bit s.once i; twice = with_bit s.twice i }
  unfolding name_one
  name-again h e = rw (lt-ltb i n h, name_one, e)

  pub name-first : i < n → has s.once i ≡ false → name_one n s (suc i) ≡ record { once = with_bit s.once i; twice = s.twice }
  unfolding name_one
  name-first h e = rw (lt-ltb i n h, name_one, e)

-- ---- the pass: how many of the first k records name slot i, and the names after k records

unfoldable pub named_by : Table → ℕ → ℕ → ℕ
named_by t k i = sum k (λ p. given (linked t p i) 1)

unfoldable pub names_to : Table → ℕ → ℕ → Names
names_to t n k = record { once = gather (λ i. leb 1 (named_by t k i)) n; twice = gather (λ i. leb 2 (named_by t k i)) n }

module _ (t : Table) (k i : ℕ) where
  by_hit : next_of t k ≡ suc i → named_by t (suc k) i ≡ suc (named_by t k i)
  unfolding named_by sum linked
  by_hit e = omega (arith, ap (λ (b : Bool). given b 1) (eq-eqb (next_of t k) (suc i) e))

  by_miss : next_of t k ≢ suc i → named_by t (suc k) i ≡ named_by t k i
  unfolding named_by sum linked
  by_miss h = omega (arith, ap (λ (b : Bool). given b 1) (ne_eqb (next_of t k) (suc i) h))

module _ (t : Table) (n : ℕ) where
  pub names-start : record { once = 0; twice = 0 } ≡ names_to t n 0
  unfolding names_to named_by sum
  names-start = simp (gather_none (λ _. false) n (λ i _. refl))

  module _ (k : ℕ) where
    -- the same slots, but for the one that record k names
    kept : ((i : ℕ) → i < n → next_of t k ≢ suc i) → names_to t n k ≡ names_to t n (suc k)
    unfolding names_to
    kept h =
        ap₂ (λ (a b : ℕ). record { once = a; twice = b })
        (gather-same _ _ n (λ i l. ap (leb 1) (sym (by_miss t k i (h i l)))))
        (gather-same _ _ n (λ i l. ap (leb 2) (sym (by_miss t k i (h i l)))))

    -- slot j more, where all others are as they were
    more : (m j : ℕ) → j < n → next_of t k ≡ suc j → leb m (suc (named_by t k j)) ≡ true
        → with_bit (gather (λ i. leb m (named_by t k i)) n) j ≡ gather (λ i. leb m (named_by t (suc k) i)) n
    more m j l e f =
        mask_ext n _ _ (with_lt n _ j (gather_lt _ n) l) (gather_lt _ n)
        (λ i h. go i h (ℕ_discrete i j) ∙ sym (gather_in _ n i h))
      where
        go : (i : ℕ) → i < n → Dec (i ≡ j) → has (with_bit (gather (λ i. leb m (named_by t k i)) n) j) i ≡ leb m (named_by t (suc k) i)
        go i h (yes q) = rw q (has_with_same _ j ∙ sym (ap (leb m) (by_hit t k j e) ∙ f))
        go i h (no q) = has_with_other _ j i q ∙ gather_in _ n i h ∙ ap (leb m) (sym (by_miss t k i (λ g. q (omega arith))))

    -- none more: where slot j is named, it was not named before
    first : (j : ℕ) → next_of t k ≡ suc j → named_by t k j ≡ 0 → gather (λ i. leb 2 (named_by t k i)) n ≡ gather (λ i. leb 2 (named_by t (suc k) i)) n
    first j e z = gather-same _ _ n (λ i h. go i (ℕ_discrete i j))
      where
        go : (i : ℕ) → Dec (i ≡ j) → leb 2 (named_by t k i) ≡ leb 2 (named_by t (suc k) i)
        go i (yes q) = rw q (ap (leb 2) z ∙ sym (ap (leb 2) (by_hit t k j e ∙ ap suc z)))
        go i (no q) = ap (leb 2) (sym (by_miss t k i (λ g. q (omega arith))))

    pub names_more : name_one n (names_to t n k) (next_of t k) ≡ names_to t n (k + 1)
    unfolding name_one names_to
    names_more = go (next_of t k) refl ∙ ap (names_to t n) (sym (add-one k))
      where
        go : (x : ℕ) → next_of t k ≡ x → name_one n (names_to t n k) x ≡ names_to t n (suc k)
        go zero e = kept (λ i l f. omega arith)
        go (suc j) e = inside (le_or_lt n j) (leb 1 (named_by t k j)) refl
          where
            was : j < n → has (names_to t n k).once j ≡ leb 1 (named_by t k j)
            was l = gather_in (λ i. leb 1 (named_by t k i)) n j l

            inside : (n ≤ j) ⊎ (j < n) → (b : Bool) → leb 1 (named_by t k j) ≡ b → name_one n (names_to t n k) (suc j) ≡ names_to t n (suc k)
            inside (inl l) b g = name_out n _ (suc j) (inr (λ f. omega arith, omega arith)) ∙ kept (λ i h f. omega arith)
            inside (inr l) true g =
                name-again n _ j l (was l ∙ g)
                ∙ ap₂ (λ (x y : ℕ). record { once = x; twice = y })
                (more 1 j l e (le-leb 1 (suc (named_by t k j)) (omega arith)))
                (more 2 j l e (le-leb 2 (suc (named_by t k j)) (omega (arith, leb-true 1 (named_by t k j) g))))
            inside (inr l) false g =
                name-first n _ j l (was l ∙ g)
                ∙ ap₂ (λ (x y : ℕ). record { once = x; twice = y })
                (more 1 j l e (le-leb 1 (suc (named_by t k j)) (omega arith)))
                (first j e (omega (arith, leb-false 1 (named_by t k j) g)))

pub names_end : (t : Table) → names_to t t.count t.count ≡ names_of t
unfolding names_to names_of named_by named
names_end t = refl

-- ---- the heads

unnamed : (x : ℕ) → not (leb 1 x) ≡ eqb x 0
unnamed zero = refl
unnamed (suc x) = simp (le-leb 1 (suc x) (omega arith)) (sym (ne_eqb (suc x) 0 (λ e. omega arith)))

pub heads_law : (t : Table) → except (2 ^ t.count - 1) (names_of t).once ≡ gather (is_head t) t.count
unfolding names_of is_head except
heads_law t =
    mask_ext n _ _ (omega (arith, pow_pos n)) (gather_lt _ n)
    (λ i h.
    has-except (2 ^ n - 1) _ i
    ∙ ap₂ (λ (a b : Bool). a && not b) (below_has n i h) (gather_in _ n i h)
    ∙ unnamed (named t i)
    ∙ sym (gather_in (is_head t) n i h))
  where
    n : ℕ
    n = t.count
