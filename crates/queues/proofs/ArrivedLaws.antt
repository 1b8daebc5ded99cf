-- Arrivals (step 1 of a tick), slot by slot. Assumes nothing.
-- arrived-length, arrived_at: each slot gains 1 if the mask has it. arrived-none: an empty mask. arrived-one: a slot of the mask taken out and counted.
-- Counting, counting_one: the slots counted one after the other.
use mathlib.Core.Path.{◌≡◌, refl, sym, ap, ◌∙◌}
use mathlib.Core.Bool.{Bool, true, false, cond}
use mathlib.Core.List.{List}
use Prim.Native.Nat.{ℕ, zero, suc, ◌+◌, ◌≤◌, ◌<◌}
use native.Mathlib.Nat.{le_refl, add-zero}
use native.Mathlib.Decide.{ℕ_discrete}
use native.Mathlib.Omega.{arith}
use lib.ListN.{length, get_or, length-set}
use lib.Seq.{get_or-set_same, get_or-set_other, ext_get_or}
use Rattle.masks.specs.Mask.{has, without_bit}
use Rattle.masks.proofs.Slots.{has_zero, has_without_same, has_without_other}
use Rattle.ranges.specs.Sum.{given}
use Rattle.ranges.proofs.EveryLaws.{never_both}
use Rattle.numbers.specs.Numbers.{places, most_waiting}
use Rattle.queues.specs.Queues.{gained, arrived_to, arrived}

module _ (mask : ℕ) (ws : List ℕ) where
  arrived_to_length : (k : ℕ) → length (arrived_to mask k ws) ≡ length ws
  unfolding arrived_to
  arrived_to_length zero = refl
  arrived_to_length (suc k) = go (has mask k) (arrived_to_length k)
    where
      go : (b : Bool) → length (arrived_to mask k ws) ≡ length ws
          → length (cond b (gained k (arrived_to mask k ws)) (arrived_to mask k ws)) ≡ length ws
      go true e = length-set (arrived_to mask k ws) k _ ∙ e
      go false e = e

  -- slots from k on are as they were
  arrived_past : (k j : ℕ) → k ≤ j → get_or (arrived_to mask k ws) j 0 ≡ get_or ws j 0
  unfolding arrived_to
  arrived_past zero j l = refl
  arrived_past (suc k) j l = go (has mask k) (arrived_past k j (omega arith))
    where
      go : (b : Bool) → get_or (arrived_to mask k ws) j 0 ≡ get_or ws j 0
          → get_or (cond b (gained k (arrived_to mask k ws)) (arrived_to mask k ws)) j 0 ≡ get_or ws j 0
      go true e = get_or-set_other (arrived_to mask k ws) k j _ 0 (omega arith) ∙ e
      go false e = e

  arrived_below : (k j : ℕ) → j < k → j < length ws → get_or (arrived_to mask k ws) j 0 ≡ get_or ws j 0 + given (has mask j) 1
  unfolding arrived_to
  arrived_below zero j l h = absurd (omega arith)
  arrived_below (suc k) j l h = go (ℕ_discrete j k) (has mask k) refl (λ m. arrived_below k j m h)
    where
      go : Dec (j ≡ k) → (b : Bool) → has mask k ≡ b → (j < k → get_or (arrived_to mask k ws) j 0 ≡ get_or ws j 0 + given (has mask j) 1)
          → get_or (cond b (gained k (arrived_to mask k ws)) (arrived_to mask k ws)) j 0 ≡ get_or ws j 0 + given (has mask j) 1
      go (yes p) true e w =
          rw (p, e)
          (get_or-set_same (arrived_to mask k ws) k _ 0 (omega (arith, arrived_to_length k)) ∙ ap (λ (x : ℕ). x + 1) (arrived_past k k (le_refl k)))
      go (yes p) false e w = rw (p, e) (arrived_past k k (le_refl k) ∙ sym (add-zero _))
      go (no p) true e w = get_or-set_other (arrived_to mask k ws) k j _ 0 p ∙ w (omega arith)
      go (no p) false e w = w (omega arith)

  pub arrived-length : length (arrived mask ws) ≡ length ws
  unfolding arrived
  arrived-length = arrived_to_length places

  pub arrived_at : (j : ℕ) → j < places → j < length ws → get_or (arrived mask ws) j 0 ≡ get_or ws j 0 + given (has mask j) 1
  unfolding arrived
  arrived_at j l h = arrived_below places j l h

-- an empty mask
pub arrived-none : (ws : List ℕ) → arrived 0 ws ≡ ws
unfolding arrived arrived_to
arrived-none ws = go places
  where
    go : (k : ℕ) → arrived_to 0 k ws ≡ ws
    go zero = refl
    go (suc k) = ap (λ (b : Bool). cond b (gained k (arrived_to 0 k ws)) (arrived_to 0 k ws)) (has_zero k) ∙ go k

-- a slot of the mask may be counted first, and taken out of the mask
pub arrived-one : (mask i : ℕ) (ws : List ℕ) → length ws ≡ places → i < places → has mask i ≡ true
    → arrived (without_bit mask i) (gained i ws) ≡ arrived mask ws
arrived-one mask i ws n l e =
    ext_get_or 0 _ _ (sizes ∙ sym (arrived-length mask ws))
    (λ j h. at j (omega (arith, sizes)))
  where
    grown : length (gained i ws) ≡ length ws
    grown = length-set ws i _

    sizes : length (arrived (without_bit mask i) (gained i ws)) ≡ length ws
    sizes = arrived-length (without_bit mask i) (gained i ws) ∙ grown

    at : (j : ℕ) → j < length ws → get_or (arrived (without_bit mask i) (gained i ws)) j 0 ≡ get_or (arrived mask ws) j 0
    at j h = arrived_at (without_bit mask i) (gained i ws) j (omega arith) (omega (arith, grown)) ∙ go (ℕ_discrete j i) ∙ sym (arrived_at mask ws j (omega arith) h)
      where
        go : Dec (j ≡ i) → get_or (gained i ws) j 0 + given (has (without_bit mask i) j) 1 ≡ get_or ws j 0 + given (has mask j) 1
        go (yes p) = rw (p, has_without_same mask i, e, get_or-set_same ws i (get_or ws i 0 + 1) 0 (omega arith)) (add-zero _)
        go (no p) = rw (has_without_other mask i j p, get_or-set_other ws i j (get_or ws i 0 + 1) 0 p)

-- what stands while the slots of a mask are counted one after the other: those of `rest` are still to count, and `ws` has the others
pub record Counting (mask : ℕ) (ws₀ : List ℕ) (rest : ℕ) (ws : List ℕ) : Type 0 where
  pub sized : length ws ≡ places
  pub room : (i : ℕ) → i < places → has rest i ≡ true → get_or ws i 0 ≤ most_waiting
  pub same : arrived rest ws ≡ arrived mask ws₀

pub counting_one : (mask : ℕ) (ws₀ : List ℕ) (rest : ℕ) (ws : List ℕ) (i r : ℕ) → Counting mask ws₀ rest ws
    → i < places → has rest i ≡ true → r ≡ without_bit rest i → Counting mask ws₀ r (gained i ws)
counting_one mask ws₀ rest ws i r k l e q = record {
  sized = length-set ws i _ ∙ k.sized;
  room = λ j h f. room j h (ap (λ (x : ℕ). has x j) (sym q) ∙ f) (ℕ_discrete j i);
  same = ap (λ (x : ℕ). arrived x (gained i ws)) q ∙ arrived-one rest i ws k.sized l e ∙ k.same;
}
  where
    room : (j : ℕ) → j < places → has (without_bit rest i) j ≡ true → Dec (j ≡ i) → get_or (gained i ws) j 0 ≤ most_waiting
    room j h f (yes p) = absurd (never_both (has (without_bit rest i) j) f (ap (has (without_bit rest i)) p ∙ has_without_same rest i))
    room j h f (no p) = rw (get_or-set_other ws i j (get_or ws i 0 + 1) 0 p) (k.room j h (sym (has_without_other rest i j p) ∙ f))
