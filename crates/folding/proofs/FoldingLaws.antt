-- Beats that are folded, and arrivals that are kept. Assumes nothing.
--   folds_behind, folds_other              one beat, by its kind and by whether its callback runs
--   Sifted, sifted, sifted_took, sifted_left, sifted_all   the slots of a mask that pass a test, looked at one after the other
--   folded_none                            an empty mask
--   kept-has, kept_mask, kept_in_lem, kept_most   what is kept, as a mask; it is in the mask; most where nothing is folded
--   kept_few                               of a timer whose beat is kept no instance waits unstarted
use mathlib.Core.Path.{◌≡◌, refl, sym, ap, ◌∙◌}
use mathlib.Core.Logic.{◌≢◌}
use mathlib.Core.Bool.{Bool, true, false, not, ◌&&◌, ◌||◌, or-true, or-false}
use mathlib.Core.List.{List}
use Prim.Native.Nat.{ℕ, suc, ◌≤◌, ◌<◌}
use native.Mathlib.Nat.{le_refl}
use native.Mathlib.Decide.{ℕ_discrete}
use native.Mathlib.Omega.{arith}
use lib.Dec.{eqb, ltb}
use lib.ListN.{get_or}
use borrow.Author.Tests.{eq-eqb, ltb-false}
use Rattle.masks.specs.Mask.{has, with_bit, without_bit, gather}
use Rattle.masks.specs.Parts.{except}
use Rattle.masks.proofs.Slots.{has_zero, has_with_same, has_with_other, has_without_same, has_without_other, has-except, with_lt, except_lt, mask_ext}
use Rattle.masks.proofs.Gather.{gather_in, gather_lt, gather_none}
use Rattle.ranges.specs.Sum.{given, hit}
use Rattle.ranges.proofs.SumLaws.{hit_self, hit_other}
use Rattle.ranges.proofs.EveryLaws.{and_holds, flipped}
use Rattle.numbers.specs.Numbers.{places, timer}
use Rattle.table.specs.declared.Table.{Table}
use Rattle.table.specs.Values.{kind_of}
use Rattle.folding.specs.Folding.{unstarted, folds, folded_of, kept, kept_of}

-- ---- one beat

module _ (kind waiting running slot : ℕ) where
  module _ (k : kind ≡ timer) where
    is : unstarted waiting running slot ≡ (eqb kind timer && unstarted waiting running slot)
    is = sym (ap (λ (b : Bool). b && unstarted waiting running slot) (eq-eqb kind timer k))

    -- of one that runs
    pub folds_behind : running ≡ suc slot → ltb 1 waiting ≡ (eqb kind timer && unstarted waiting running slot)
    unfolding unstarted
    folds_behind e = sym (ap (λ (x : ℕ). ltb x waiting) (ap (λ (r : ℕ). hit r slot) e ∙ hit_self slot)) ∙ is

    -- of one that does not
    pub folds_other : running ≢ suc slot → ltb 0 waiting ≡ (eqb kind timer && unstarted waiting running slot)
    unfolding unstarted
    folds_other h = sym (ap (λ (x : ℕ). ltb x waiting) (hit_other running slot h)) ∙ is

-- ---- the slots of a mask, one after the other

-- those of `rest` are still to be looked at, and `acc` has those of the others that pass
pub record Sifted (p : ℕ → Bool) (mask rest acc : ℕ) : Type 0 where
  pub fits : acc < 65536
  pub same : (j : ℕ) → (has acc j || (has rest j && p j)) ≡ (has mask j && p j)

module _ (p : ℕ → Bool) (mask : ℕ) where
  pub sifted : (rest : ℕ) → rest ≡ mask → Sifted p mask rest 0
  sifted rest e = record { fits = omega arith; same = λ j. rw (has_zero j, e) refl }

  module _ (rest acc i r : ℕ) (s : Sifted p mask rest acc) (e : has rest i ≡ true) (q : r ≡ without_bit rest i) where
    -- a slot that passes
    pub sifted_took : (a : ℕ) → i < 16 → p i ≡ true → a ≡ with_bit acc i → Sifted p mask r a
    sifted_took a l t f = record { fits = omega (arith, with_lt 16 acc i s.fits l); same = λ j. rw (q, f) (at j (ℕ_discrete j i)) }
      where
        at : (j : ℕ) → Dec (j ≡ i) → (has (with_bit acc i) j || (has (without_bit rest i) j && p j)) ≡ (has mask j && p j)
        at j (yes z) = rw (z, has_with_same acc i, t) (sym (or-true (has acc i)) ∙ (rw (e, t) at (s.same i)))
        at j (no z) = rw (has_with_other acc i j z, has_without_other rest i j z) (s.same j)

    -- and one that does not
    pub sifted_left : p i ≡ false → Sifted p mask r acc
    sifted_left t = record { fits = s.fits; same = λ j. rw q (at j (ℕ_discrete j i)) }
      where
        at : (j : ℕ) → Dec (j ≡ i) → (has acc j || (has (without_bit rest i) j && p j)) ≡ (has mask j && p j)
        at j (yes z) = rw (z, has_without_same rest i, t) (rw (e, t) at (s.same i))
        at j (no z) = rw (has_without_other rest i j z) (s.same j)

  -- all of them
  pub sifted_all : (rest acc : ℕ) → Sifted p mask rest acc → rest ≡ 0 → acc ≡ gather (λ j. has mask j && p j) 16
  sifted_all rest acc s z =
      mask_ext 16 acc _ s.fits (gather_lt _ 16)
      (λ j l. sym (or-false (has acc j)) ∙ (rw (z, has_zero) at (s.same j)) ∙ sym (gather_in (λ j. has mask j && p j) 16 j l))

-- nothing is folded where nothing comes
pub folded_none : (t : Table) (ws : List ℕ) (running mask : ℕ) → mask ≡ 0 → 0 ≡ folded_of t ws running mask
unfolding folded_of
folded_none t ws running mask e = sym (gather_none _ places (λ i _. rw (e, has_zero i)))

-- ---- what is kept

-- as a mask
pub kept-has : (mask folded i : ℕ) → i < places → has (kept_of mask folded) i ≡ kept mask folded i
unfolding kept_of
kept-has mask folded i l = gather_in (kept mask folded) places i l

-- which is the mask without those folded
pub kept_mask : (mask folded : ℕ) → mask < 65536 → except mask folded ≡ kept_of mask folded
unfolding kept kept_of
kept_mask mask folded l =
    mask_ext 16 _ _ (except_lt 16 mask folded l) (gather_lt (kept mask folded) 16) (λ i h. has-except mask folded i ∙ sym (gather_in (kept mask folded) 16 i h))

-- it is in the mask
pub kept_in_lem : (mask folded i : ℕ) → kept mask folded i ≡ true → has mask i ≡ true
unfolding kept
kept_in_lem mask folded i e = (and_holds (has mask i) (not (has folded i)) e).0

-- and most where nothing is folded
pub kept_most : (mask folded i : ℕ) → given (kept mask folded i) 1 ≤ given (kept mask 0 i) 1
unfolding kept
kept_most mask folded i = rw (has_zero i) (go (has mask i) (has folded i))
  where
    go : (a b : Bool) → given (a && not b) 1 ≤ given (a && true) 1
    go true true = omega arith
    go true false = le_refl _
    go false b = le_refl _

-- a timer whose beat is kept has no instance that waits unstarted
pub kept_few : (t : Table) (ws : List ℕ) (running mask i : ℕ) → i < places → kind_of t i ≡ timer
    → kept mask (folded_of t ws running mask) i ≡ true → get_or ws i 0 ≤ hit running i
unfolding kept folded_of unstarted
kept_few t ws running mask i l timed e =
    let a = and_holds (has mask i) (not (has (folded_of t ws running mask) i)) e in
    let not-folded = sym (gather_in (λ j. has mask j && folds t ws running j) places i l) ∙ flipped _ _ a.1 in
    ltb-false (hit running i) (get_or ws i 0) (rw (a.0, eq-eqb (kind_of t i) timer timed) at not-folded)
