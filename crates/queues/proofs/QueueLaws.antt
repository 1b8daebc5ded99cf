-- Queues that are full, slot by slot, and the next that a completion activates. Assumes nothing.
-- full-hit, full_miss, full_end: a mask's slots one after the other. full_alone, full_past, full-one: with the callback that is counted.
-- counted_none, counted-some: the next of a completion. gained_at, lessened_at, counted_at, completed_at: the counts then, slot by slot;
-- counted-length, completed-length: as many as before.
use mathlib.Core.Path.{◌≡◌, refl, sym, ap, ap₂, ◌∙◌}
use mathlib.Core.Logic.{◌≢◌}
use mathlib.Core.Bool.{Bool, true, false, ◌&&◌, ◌||◌}
use mathlib.Core.List.{List}
use Prim.Native.Nat.{ℕ, zero, suc, ◌+◌, ◌-◌, ◌≤◌, ◌<◌}
use native.Mathlib.Decide.{ℕ_discrete}
use native.Mathlib.Numerals.{add-one}
use native.Mathlib.Omega.{arith}
use lib.Dec.{eqb, leb}
use lib.ListN.{get_or}
use borrow.Author.Tests.{eq-eqb, ne_eqb, le-leb, lt-leb}
use Rattle.masks.specs.Mask.{has, with_bit, without_bit}
use Rattle.masks.specs.Parts.{first_of, some_index}
use Rattle.std.specs.Prelude.{Some, None}
use Rattle.masks.proofs.Slots.{has_zero, has_with, has_without_other}
use Rattle.masks.proofs.Search.{first_of_below, lowest_set}
use Rattle.ranges.proofs.LeastLaws.{lowest_is, lowest_never, lowest-same}
use Rattle.ranges.specs.Sum.{hit}
use Rattle.ranges.proofs.SumLaws.{hit_self, hit_other, hit-none}
use lib.ListN.{length, length-set}
use lib.Seq.{get_or-set_same, get_or-set_other}
use native.Mathlib.Nat.{add-zero}
use Rattle.numbers.specs.Numbers.{places, most_waiting}
use Rattle.queues.specs.Queues.{gained, lessened, counted, completed, full_with}
use Rattle.queues.specs.Parts.{full_in}

-- ---- the slots of a mask that are full

module _ (ws : List ℕ) (m r : ℕ) (first : (r ≡ first_of m) × (r < 16)) where
  pub full-hit : most_waiting ≤ get_or ws r 0 → Some (r + 1) ≡ some_index (full_in ws m)
  unfolding full_in
  full-hit h =
      ap Some (add-one r)
      ∙ ap some_index (sym (lowest_is (λ j. has m j && leb most_waiting (get_or ws j 0)) places r first.1
      (ap₂ ◌&&◌ (lowest_set m r first) (le-leb most_waiting (get_or ws r 0) h))
      (λ j l. ap (λ (b : Bool). b && leb most_waiting (get_or ws j 0)) (first_of_below m j (omega arith)))))

  pub full_miss : (x : ℕ) → get_or ws r 0 < most_waiting → x ≡ without_bit m r → full_in ws x ≡ full_in ws m
  unfolding full_in
  full_miss x h e = lowest-same _ _ places (λ j l. go j (ℕ_discrete j r))
    where
      -- slot r passes neither test
      not_full : (b : Bool) → (b && leb most_waiting (get_or ws r 0)) ≡ false
      not_full true = lt-leb most_waiting (get_or ws r 0) h
      not_full false = refl

      go : (j : ℕ) → Dec (j ≡ r) → (has x j && leb most_waiting (get_or ws j 0)) ≡ (has m j && leb most_waiting (get_or ws j 0))
      go j (yes q) = rw q (not_full (has x r) ∙ sym (not_full (has m r)))
      go j (no q) = ap (λ (b : Bool). b && leb most_waiting (get_or ws j 0)) (ap (λ (y : ℕ). has y j) e ∙ has_without_other m r j q)

pub full_end : (ws : List ℕ) (m : ℕ) → m ≡ 0 → None ≡ some_index (full_in ws m)
unfolding full_in
full_end ws m e = ap some_index (sym (lowest_never _ places (λ j l. ap (λ (x : ℕ). has x j && leb most_waiting (get_or ws j 0)) e ∙ ap (λ (b : Bool). b && leb most_waiting (get_or ws j 0)) (has_zero j))))

-- ---- with the callback that is counted

module _ (ws : List ℕ) (mask x : ℕ) where
  or_false : (b : Bool) → b ≡ (b || false)
  or_false true = refl
  or_false false = refl

  alone : ((j : ℕ) → j < places → x ≢ suc j) → full_in ws mask ≡ full_with ws mask x
  unfolding full_in full_with
  alone nobody =
      lowest-same _ _ places
      (λ j l. ap (λ (b : Bool). b && leb most_waiting (get_or ws j 0)) (or_false (has mask j) ∙ ap (λ (b : Bool). has mask j || b) (sym (ne_eqb x (suc j) (nobody j l)))))

  pub full_alone : x ≡ 0 → full_in ws mask ≡ full_with ws mask x
  full_alone z = alone (λ j l q. omega arith)

  pub full_past : places < x → full_in ws mask ≡ full_with ws mask x
  full_past h = alone (λ j l q. omega arith)

  pub full-one : (y : ℕ) → x ≢ 0 → y ≡ with_bit mask (x - 1) → full_in ws y ≡ full_with ws mask x
  unfolding full_in full_with
  full-one y h e =
      lowest-same _ _ places
      (λ j l.
      ap (λ (b : Bool). b && leb most_waiting (get_or ws j 0))
      (ap (λ (z : ℕ). has z j) e ∙ has_with mask (x - 1) j ∙ ap (λ (b : Bool). has mask j || b) (same j (ℕ_discrete j (x - 1)))))
    where
      same : (j : ℕ) → Dec (j ≡ x - 1) → eqb j (x - 1) ≡ eqb x (suc j)
      same j (yes q) = eq-eqb j (x - 1) q ∙ sym (eq-eqb x (suc j) (omega arith))
      same j (no q) = ne_eqb j (x - 1) q ∙ sym (ne_eqb x (suc j) (λ f. q (omega arith)))

-- ---- the next of a completion

pub counted_none : (x : ℕ) (ws : List ℕ) → x ≡ 0 → ws ≡ counted x ws
unfolding counted
counted_none x ws e = ap (λ (y : ℕ). counted y ws) (sym e)

pub counted-some : (x : ℕ) (ws : List ℕ) → x ≢ 0 → gained (x - 1) ws ≡ counted x ws
unfolding counted
counted-some zero ws h = absurd (h refl)
counted-some (suc j) ws h = ap (λ (i : ℕ). gained i ws) (omega arith)

-- ---- the counts, slot by slot

pub gained_at : (ws : List ℕ) (i j : ℕ) → j < length ws → get_or (gained i ws) j 0 ≡ get_or ws j 0 + hit (suc i) j
gained_at ws i j h = go (ℕ_discrete j i)
  where
    go : Dec (j ≡ i) → get_or (gained i ws) j 0 ≡ get_or ws j 0 + hit (suc i) j
    go (yes p) = rw (p, hit_self) (get_or-set_same ws i (get_or ws i 0 + 1) 0 (omega arith))
    go (no p) = rw (hit_other (suc i) j (λ e. p (omega arith)), get_or-set_other ws i j (get_or ws i 0 + 1) 0 p, add-zero)

pub lessened_at : (ws : List ℕ) (i j : ℕ) → j < length ws → 0 < get_or ws i 0 → get_or (lessened i ws) j 0 + hit (suc i) j ≡ get_or ws j 0
lessened_at ws i j h w = go (ℕ_discrete j i)
  where
    go : Dec (j ≡ i) → get_or (lessened i ws) j 0 + hit (suc i) j ≡ get_or ws j 0
    go (yes p) = rw (p, hit_self, get_or-set_same ws i (get_or ws i 0 - 1) 0 (omega arith)) (omega arith)
    go (no p) = rw (hit_other (suc i) j (λ e. p (omega arith)), get_or-set_other ws i j (get_or ws i 0 - 1) 0 p, add-zero)

pub counted-length : (x : ℕ) (ws : List ℕ) → length (counted x ws) ≡ length ws
unfolding counted
counted-length zero ws = refl
counted-length (suc i) ws = length-set ws i _

pub counted_at : (x : ℕ) (ws : List ℕ) (j : ℕ) → j < length ws → get_or (counted x ws) j 0 ≡ get_or ws j 0 + hit x j
unfolding counted
counted_at zero ws j h = omega (arith, hit-none j)
counted_at (suc i) ws j h = gained_at ws i j h

pub completed-length : (i x : ℕ) (ws : List ℕ) → length (completed i x ws) ≡ length ws
completed-length i x ws = counted-length x (lessened i ws) ∙ length-set ws i _

pub completed_at : (i x : ℕ) (ws : List ℕ) (j : ℕ) → j < length ws → 0 < get_or ws i 0 → get_or (completed i x ws) j 0 + hit (suc i) j ≡ get_or ws j 0 + hit x j
completed_at i x ws j h w = omega (arith, counted_at x (lessened i ws) j (omega (arith, length-set ws i (get_or ws i 0 - 1))), lessened_at ws i j h w)
