-- Laws of the analyser's two searches, as its loops go: both by the law of the jump.
-- The window: window_start, window_hit, window_jump, window_end (of `rest`, what is left of the search at a length).
-- F of slot x at offset A, from a length up to F(A) on: finish_in_lem, finish_hit, finish_jump, finish_next. The bound: bound_start, bound_skip, bound_is, bound_in_lem.
use mathlib.Core.Path.{◌≡◌, refl, sym, ap, subst, ◌∙◌}
use mathlib.Core.Logic.{◌⊎◌, inl, inr}
use mathlib.Core.Bool.{false}
use mathlib.Core.List.{List}
use Prim.Native.Nat.{ℕ, zero, suc, ◌+◌, ◌-◌, ◌≤◌, ◌<◌}
use native.Mathlib.Nat.{eq-or-lt_of_le}
use native.Mathlib.Numerals.{add-one}
use native.Mathlib.Omega.{arith}
use Rattle.masks.specs.Mask.{has}
use Rattle.ranges.specs.Least.{largest}
use Rattle.curves.specs.Demand.{demand, limit}
use Rattle.curves.specs.Parts.{Rising}
use Rattle.ranges.proofs.LeastLaws.{rest, rest_start, rest_end, largest-le, largest_more}
use Rattle.curves.proofs.ArrivalsLaws.{arrivals-none, arrivals_first}
use Rattle.curves.proofs.DemandLaws.{whole_up, part_up}
use Rattle.curves.proofs.JumpLaws.{jump_hit, jump_miss, jump_within}
use Rattle.table.specs.declared.Callback.{Callback}
use Rattle.table.specs.declared.Table.{Table}
use Rattle.table.specs.Values.{callback_at}
use Rattle.chains.specs.Chains.{head_of}
use Rattle.windows.specs.Window.{covered, window, bound}
use Rattle.windows.proofs.WindowLaws.{finish_within, finish_covers, finish_least, finish_up, finish_same, bound_le}
use Rattle.windows.proofs.TableLaws.{spaced, level_rising, sound_inverse}
use Rattle.windows.proofs.PartLaws.{member_all, demand_is, demand_own}
use Rattle.windows.specs.declared.Level.{Level}
use Rattle.windows.specs.Bounds.{arrivals_of, cost_of, supply_of, arrivals_in, window_in, bound_in}
use Rattle.windows.specs.Parts.{demand_in, but, covered_in, finish_in, reach_of, Headed}

module _ (t : Table) (v : Level) where
  pub window_start : rest (covered_in t v) v.horizon 1 ≡ window_in t v
  unfolding covered_in window_in window
  window_start = rest_start (covered_in t v) v.horizon

  pub window_end : (D : ℕ) → v.horizon < D → rest (covered_in t v) v.horizon D ≡ 0
  window_end D l = rest_end (covered_in t v) v.horizon D l

module _ (t : Table) (heads : List ℕ) (ready : Headed t heads) (v : Level) where
  rises : Rising t.count (arrivals_in t v) (cost_of t)
  rises = level_rising t ready.sound v

  module _ (D d next : ℕ) (all : d ≡ demand_in t v D) (reached : next ≡ reach_of t v.horizon d) where
    abbrev whole : ℕ → ℕ
    whole D = v.blocking + demand t.count (cost_of t) (λ i. arrivals_in t v i D)

    up : (D : ℕ) → whole D ≤ whole (suc D)
    up D = omega (arith, whole_up t.count (arrivals_in t v) (cost_of t) rises D)

    -- where the jump ends, by the definition's demand
    goal : next ≡ reach_of t v.horizon (whole D)
    goal = reached ∙ ap (reach_of t v.horizon) (all ∙ demand_is t v D)

    -- a length that the jump does not go past is covered, and ends the search
    pub window_hit : D ≤ v.horizon → next ≤ D → rest (covered_in t v) v.horizon D ≡ D
    unfolding covered_in covered
    window_hit l k = jump_hit v.horizon whole (supply_of t) (reach_of t v.horizon) up (sound_inverse t ready.sound v.horizon) D l (subst (λ (r : ℕ). r ≤ D) goal k)

    -- any other leaves it to the jump's end
    pub window_jump : D < next → rest (covered_in t v) v.horizon D ≡ rest (covered_in t v) v.horizon next
    unfolding covered_in covered
    window_jump k =
        jump_miss v.horizon whole (supply_of t) (reach_of t v.horizon) up (sound_inverse t ready.sound v.horizon) D (omega (arith, goal))
        ∙ ap (rest (covered_in t v) v.horizon) (sym goal)

  module _ (x A : ℕ) (early : A < window_in t v) where
    -- F(A) lies in 1 to the window
    pub finish_in_lem : (1 ≤ finish_in t v x A) × (finish_in t v x A ≤ window_in t v)
    unfolding finish_in window_in
    finish_in_lem = finish_within t.count (arrivals_in t v) (cost_of t) (supply_of t) v.blocking v.horizon rises x A early

    module _ (below : x < t.count) (member : has v.below x ≡ false) (D own others next : ℕ) (from : D ≤ finish_in t v x A) (some : 1 ≤ D)
        (charged : own ≡ cost_of t x (arrivals_of t x (A + 1))) (rest_of : others ≡ demand_in t (but v x) D) (reached : next ≡ reach_of t (window_in t v) (own + others)) where
      abbrev part : ℕ → ℕ
      part D = v.blocking + demand t.count (cost_of t) (limit (arrivals_in t v) x A D)

      -- the same
      aim : next ≡ reach_of t (window_in t v) (part D)
      aim = reached ∙ ap (reach_of t (window_in t v)) (omega (arith, charged, rest_of, demand_own t ready.sound v x D A below member, ap (λ (k : ℕ). cost_of t x (arrivals_of t x k)) (add-one A)))

      -- up to F(A), a length that the jump does not go past is F(A)
      pub finish_hit : next ≤ D → D ≡ finish_in t v x A
      unfolding finish_in window_in
      finish_hit l = go (eq-or-lt_of_le from)
        where
          covers : part D ≤ supply_of t D
          covers = (sound_inverse t ready.sound (window_in t v)).enough (part D) D (omega (arith, finish_in_lem)) (omega (arith, aim))

          go : (D ≡ finish_in t v x A) ⊎ (D < finish_in t v x A) → D ≡ finish_in t v x A
          go (inl e) = e
          go (inr k) = absurd (omega (arith, covers, finish_least t.count (arrivals_in t v) (cost_of t) (supply_of t) v.blocking v.horizon rises x A early D some k))

      -- and no jump goes past F(A)
      pub finish_jump : next ≤ finish_in t v x A
      unfolding finish_in window_in
      finish_jump =
          let covers = finish_covers t.count (arrivals_in t v) (cost_of t) (supply_of t) v.blocking v.horizon rises x A early in
          subst (λ (r : ℕ). r ≤ finish_in t v x A) (sym aim)
          (jump_within (window_in t v) part (supply_of t) (reach_of t (window_in t v)) up_part (sound_inverse t ready.sound (window_in t v)) D (finish_in t v x A) from finish_in_lem.1 covers)
        where
          up_part : (D : ℕ) → part D ≤ part (suc D)
          up_part D = omega (arith, part_up t.count (arrivals_in t v) (cost_of t) rises x A D)

module _ (t : Table) (heads : List ℕ) (ready : Headed t heads) (v : Level) (x : ℕ) where
  -- the search of the next offset goes on where this one ended
  pub finish_next : (A : ℕ) → A + 1 < window_in t v → finish_in t v x A ≤ finish_in t v x (A + 1)
  unfolding finish_in window_in
  finish_next A l = finish_up t.count (arrivals_in t v) (cost_of t) (supply_of t) v.blocking v.horizon (rises t heads ready v) x A (A + 1) (omega arith) l

  -- no instance of x comes in no time
  pub bound_start : 0 ≡ arrivals_of t x 0
  unfolding arrivals_of
  bound_start = let c : Callback = callback_at t (head_of t x) in sym (arrivals-none c.period c.jitter c.distance)

  -- offset 0 charges an instance of x
  first_offset : x < t.count → arrivals_of t x 0 < arrivals_of t x (0 + 1)
  unfolding arrivals_of
  first_offset below =
      let c : Callback = callback_at t (head_of t x) in
      let so = spaced t ready.sound x below in
      omega (arith, arrivals-none c.period c.jitter c.distance, arrivals_first c.period c.jitter c.distance so.period_some so.distance_some)

  -- an offset that charges no instance of x more needs no search: its F is that of the offset before it
  pub bound_skip : (A w : ℕ) → x < t.count → has v.below x ≡ false → arrivals_of t x (A + 1) ≡ arrivals_of t x A → w ≡ largest A (λ B. finish_in t v x B - B)
      → w ≡ largest (A + 1) (λ B. finish_in t v x B - B)
  unfolding finish_in
  bound_skip zero w below member same e = absurd (omega (arith, same, first_offset below))
  bound_skip (suc A) w below member same e =
      let f : ℕ → ℕ = λ B. finish_in t v x B - B in
      let one = subst (λ (m : ℕ). arrivals_of t x m ≡ arrivals_of t x (suc A)) (add-one (suc A)) same in
      let k = finish_same t.count (arrivals_in t v) (cost_of t) (supply_of t) v.blocking v.horizon x (suc A) A (member_all t v x (suc (suc A)) member ∙ one ∙ sym (member_all t v x (suc A) member)) in
      omega (arith, e, k, largest-le f (suc A) A (omega arith), largest_more f (suc A))

  pub bound_is : bound_in t v x ≡ largest (window_in t v) (λ A. finish_in t v x A - A)
  unfolding bound_in bound window_in finish_in
  bound_is = refl

  pub bound_in_lem : bound_in t v x ≤ window_in t v
  unfolding bound_in window_in
  bound_in_lem = bound_le t.count (arrivals_in t v) (cost_of t) (supply_of t) v.blocking v.horizon (rises t heads ready v) x
