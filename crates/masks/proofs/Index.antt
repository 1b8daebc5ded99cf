-- The first slot of a mask as an index: the lowest slot that passes, where the mask has just the slots that do. Assumes nothing.
-- index_none, index_some: by whether the mask has a slot. is_none, is_some, not_some: what an index that may be missing says. first_lowest, first_gather, first_both: of a mask, of one gathered, of two together.
use mathlib.Core.Path.{◌≡◌, refl, ap, ap₂, ◌∙◌}
use mathlib.Core.Logic.{◌≢◌}
use mathlib.Core.Bool.{Bool, true, false, ◌&&◌, and_assoc}
use Prim.Native.Nat.{ℕ, zero, suc, ◌≤◌, ◌<◌}
use native.Mathlib.Nat.{lt_of_le_of_lt}
use native.Mathlib.Omega.{arith}
use lib.Dec.{ltb}
use lib.Bits.{and_le_l}
use borrow.Author.Tests.{eq-eqb, ne_eqb, lt-ltb, ltb-true}
use Rattle.ranges.specs.Least.{lowest}
use Rattle.ranges.proofs.LeastLaws.{lowest-hit, lowest_first, lowest-none}
use Rattle.ranges.proofs.EveryLaws.{never_both}
use Rattle.masks.specs.Mask.{has, gather}
use Rattle.masks.specs.Parts.{both, first_of, first_index, some_index}
use Rattle.std.specs.Prelude.{Option, Some, None}
use Rattle.masks.proofs.Slots.{has_and, has_zero, mask_none}
use Rattle.masks.proofs.Search.{first_is}
use Rattle.masks.proofs.Gather.{gather-has, gather_mask}

pub index_none : (m : ℕ) → m ≡ 0 → first_index m ≡ 0
unfolding first_index
index_none m e = rw (eq-eqb m 0 e, first_index)

pub index_some : (m : ℕ) → m ≢ 0 → first_index m ≡ suc (first_of m)
unfolding first_index
index_some m h = rw (ne_eqb m 0 h, first_index)

-- an index that is missing, and one that is there
pub is_none : (x : ℕ) → None ≡ some_index x → x ≡ 0
is_none zero e = refl
is_none (suc i) e = absurd (cc)

pub is_some : (x y : ℕ) → Some y ≡ some_index x → (x ≡ y) × (x ≢ 0)
is_some zero y e = absurd (cc)
is_some (suc i) y e = (cc, λ z. omega arith)

pub not_some : (x : ℕ) (r : Option ℕ) → r ≡ some_index x → ((y : ℕ) → r ≡ Some y → ⊥) → x ≡ 0
not_some zero r e none = refl
not_some (suc i) r e none = absurd (none (suc i) e)

module _ (q : ℕ → Bool) (n : ℕ) (le : n ≤ 16) where
  -- a mask that has just the slots below n that pass
  pub first_lowest : (m : ℕ) → m < 65536 → ((i : ℕ) → has m i ≡ (ltb i n && q i)) → first_index m ≡ lowest q n
  unfolding first_of
  first_lowest m lt same = go (lowest q n) refl
    where
      out : (i : ℕ) → (i < n → q i ≡ false) → has m i ≡ false
      out i h = pick (ltb i n) refl
        where
          pick : (b : Bool) → ltb i n ≡ b → has m i ≡ false
          pick true e = same i ∙ ap₂ ◌&&◌ e (h (ltb-true i n e))
          pick false e = same i ∙ ap (λ (b : Bool). b && q i) e

      go : (r : ℕ) → lowest q n ≡ r → first_index m ≡ r
      go zero e = index_none m (mask_none 16 m lt (λ i l. out i (λ k. lowest-none q n e i k)))
      go (suc j) e = index_some m some ∙ ap suc (first_is 16 0 m j (omega arith) (omega (arith, hit.0)) there (λ i l k. out i (λ h. lowest_first q n j i e k)))
        where
          hit : (j < n) × (q j ≡ true)
          hit = lowest-hit q n j e

          there : has m j ≡ true
          there = same j ∙ ap₂ ◌&&◌ (lt-ltb j n hit.0) hit.1

          some : m ≢ 0
          some z = never_both (has m j) there (ap (λ (x : ℕ). has x j) z ∙ has_zero j)

  pub first_gather : first_index (gather q n) ≡ lowest q n
  first_gather = first_lowest (gather q n) (gather_mask q n le) (λ i. gather-has q n i)

-- of two masks together
pub first_both : (p : ℕ → Bool) (n : ℕ) → n ≤ 16 → (m : ℕ) → first_index (both (gather p n) m) ≡ lowest (λ i. p i && has m i) n
first_both p n le m =
    first_lowest (λ i. p i && has m i) n le (both (gather p n) m)
    (lt_of_le_of_lt (and_le_l (gather p n) m) (gather_mask p n le))
    (λ i. has_and (gather p n) m i ∙ ap (λ (b : Bool). b && has m i) (gather-has p n i) ∙ and_assoc (ltb i n) (p i) (has m i))
