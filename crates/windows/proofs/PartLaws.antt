-- Laws of the analyser's parts: the head of a slot (head_within, head_spaced), its arrivals and work by its head (arrivals_of_lem, work_of_lem), who is charged in a level (below_none, member_all),
-- its demand as a loop adds it (in_skip, in_add), and what that demand makes of the window's (demand_is) and of an offset's (demand_own).
use mathlib.Core.Path.{◌≡◌, refl, sym, ap, subst, ◌∙◌}
use mathlib.Core.Logic.{◌⊎◌, inl, inr, ◌≢◌}
use mathlib.Core.Bool.{Bool, true, false, not}
use mathlib.Core.List.{List}
use Prim.Native.Nat.{ℕ, zero, suc, ◌+◌, ◌<◌}
use native.Mathlib.Nat.{eq-or-lt_of_le, le_of_suc-le-suc}
use native.Mathlib.Omega.{arith}
use lib.ListN.{get_or}
use Rattle.masks.specs.Mask.{has}
use Rattle.masks.proofs.Slots.{has_with_same, has_with_other}
use Rattle.ranges.specs.Sum.{sum, given}
use Rattle.curves.specs.Demand.{demand, limit}
use Rattle.ranges.proofs.SumLaws.{sum_same, sum_more}
use Rattle.curves.proofs.DemandLaws.{limit_own, limit_other}
use Rattle.curves.proofs.CostLaws.{cost_zero}
use Rattle.table.specs.declared.Table.{Table}
use Rattle.numbers.specs.Numbers.{places}
use Rattle.table.specs.Values.{callback_at, entries_of}
use Rattle.rules.specs.Parts.{Sound}
use Rattle.rules.proofs.Heads.{head_lt}
use Rattle.windows.proofs.TableLaws.{spaced, costed}
use Rattle.chains.specs.Chains.{head_of}
use Rattle.windows.specs.declared.Level.{Level}
use Rattle.windows.specs.Bounds.{arrivals_of, cost_of, arrivals_in}
use Rattle.windows.specs.Parts.{head_arrivals, work_of, work_in, demand_in, but, Spaced, Headed}

-- the head that is at hand for slot i lies in the table, and its arrivals can be asked for
module _ (t : Table) (heads : List ℕ) (ready : Headed t heads) (i : ℕ) (below : i < t.count) where
  pub head_within : get_or heads i 0 < places
  head_within = omega (arith, ready.headed i below, head_lt t i below, ready.sound.few)

  pub head_spaced : Spaced (callback_at t (get_or heads i 0))
  head_spaced = subst (λ (h : ℕ). Spaced (callback_at t h)) (sym (ready.headed i below)) (spaced t ready.sound i below)

-- the arrivals of slot i, its head h at hand
pub arrivals_of_lem : (t : Table) (i h D : ℕ) → h ≡ head_of t i → head_arrivals (callback_at t h) D ≡ arrivals_of t i D
unfolding arrivals_of
arrivals_of_lem t i h D e = ap (λ (g : ℕ). head_arrivals (callback_at t g) D) e

-- the work of slot i
pub work_of_lem : (t : Table) (i h D : ℕ) → h ≡ head_of t i → work_of (callback_at t i) (callback_at t h) D ≡ cost_of t i (arrivals_of t i D)
unfolding work_of cost_of arrivals_of
work_of_lem t i h D e = ap (λ (g : ℕ). work_of (callback_at t i) (callback_at t g) D) e

module _ (t : Table) (v : Level) where
  -- who is below a level is not charged, who is not is charged as in the table
  pub below_none : (i D : ℕ) → has v.below i ≡ true → arrivals_in t v i D ≡ 0
  unfolding arrivals_in
  below_none i D e = ap (λ (b : Bool). given (not b) (arrivals_of t i D)) e

  pub member_all : (i D : ℕ) → has v.below i ≡ false → arrivals_in t v i D ≡ arrivals_of t i D
  unfolding arrivals_in
  member_all i D e = ap (λ (b : Bool). given (not b) (arrivals_of t i D)) e

  module _ (so : Sound t) where
    pub skipped : (D i : ℕ) → i < t.count → has v.below i ≡ true → work_in t v D i ≡ 0
    unfolding work_in cost_of
    skipped D i l e = ap (cost_of t i) (below_none i D e) ∙ cost_zero (entries_of (callback_at t i)) (costed t so i l).listed

    -- who is below adds nothing
    pub in_skip : (D i s : ℕ) → i < t.count → has v.below i ≡ true → s ≡ v.blocking + sum i (work_in t v D) → s ≡ v.blocking + sum (i + 1) (work_in t v D)
    in_skip D i s l e p = omega (arith, sum_more (work_in t v D) i, skipped D i l e)

    -- every other adds its work
    pub in_add : (D i s r : ℕ) → has v.below i ≡ false → s ≡ v.blocking + sum i (work_in t v D) → r ≡ cost_of t i (arrivals_of t i D)
        → s + r ≡ v.blocking + sum (i + 1) (work_in t v D)
    unfolding work_in
    in_add D i s r e p f = omega (arith, sum_more (work_in t v D) i, ap (cost_of t i) (member_all i D e))

-- a level without slot x, with the work of slot x up to offset A, has the demand of that offset
module _ (t : Table) (so : Sound t) (v : Level) (x D A : ℕ) (h : x < t.count) (member : has v.below x ≡ false) where
  abbrev charged : ℕ → ℕ
  charged j = cost_of t j (limit (arrivals_in t v) x A D j)

  own : charged x ≡ cost_of t x (arrivals_of t x (suc A))
  own = ap (cost_of t x) (limit_own (arrivals_in t v) x A D ∙ member_all t v x (suc A) member)

  other : (j : ℕ) → j ≢ x → work_in t (but v x) D j ≡ charged j
  unfolding work_in arrivals_in
  other j p = ap (λ (b : Bool). cost_of t j (given (not b) (arrivals_of t j D))) (has_with_other v.below x j p) ∙ ap (cost_of t j) (sym (limit_other (arrivals_in t v) x A D j p))

  none : work_in t (but v x) D x ≡ 0
  none = skipped t (but v x) so D x h (has_with_same v.below x)

  upto : (n : ℕ) → x < n → cost_of t x (arrivals_of t x (suc A)) + sum n (work_in t (but v x) D) ≡ sum n charged
  unfolding sum
  upto zero l = absurd (omega arith)
  upto (suc n) l = go (eq-or-lt_of_le (le_of_suc-le-suc l)) (upto n)
    where
      go : (x ≡ n) ⊎ (x < n) → (x < n → cost_of t x (arrivals_of t x (suc A)) + sum n (work_in t (but v x) D) ≡ sum n charged)
          → cost_of t x (arrivals_of t x (suc A)) + (sum n (work_in t (but v x) D) + work_in t (but v x) D n) ≡ sum n charged + charged n
      go (inl p) w = omega (arith, sum_same (work_in t (but v x) D) charged n (λ j k. other j (λ e. omega arith)), ap (work_in t (but v x) D) p, none, ap charged p, own)
      go (inr k) w = omega (arith, w k, other n (λ e. omega arith))

  pub demand_own : cost_of t x (arrivals_of t x (suc A)) + demand_in t (but v x) D ≡ v.blocking + demand t.count (cost_of t) (limit (arrivals_in t v) x A D)
  demand_own = omega (arith, upto t.count h)

-- the demand of a level is that of its window
pub demand_is : (t : Table) (v : Level) (D : ℕ) → demand_in t v D ≡ v.blocking + demand t.count (cost_of t) (λ i. arrivals_in t v i D)
unfolding work_in
demand_is t v D = refl
