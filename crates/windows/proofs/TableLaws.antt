-- What a table that the reader accepts ensures of its curves: spaced, costed, sound_rising, level_rising, sound_inverse. head_own: whether a slot leads itself.
-- horizon_in: the horizon is a length that curves can be asked for.
use mathlib.Core.Path.{◌≡◌, refl, sym, subst}
use mathlib.Core.Bool.{Bool, true, false, not}
use Prim.Native.Nat.{ℕ, ◌≤◌, ◌<◌}
use native.Mathlib.Nat.{le_refl}
use native.Mathlib.Omega.{arith}
use lib.Dec.{eqb}
use borrow.Author.Tests.{eq-eqb, ne_eqb}
use Rattle.masks.specs.Mask.{has}
use Rattle.curves.specs.Parts.{Rising, Inverse}
use Rattle.ranges.proofs.EveryLaws.{never_both}
use Rattle.ranges.proofs.SumLaws.{given_up}
use Rattle.curves.proofs.ArrivalsLaws.{arrivals_mono}
use Rattle.curves.proofs.CostLaws.{cost_up}
use Rattle.curves.proofs.SupplyLaws.{supply_inverse}
use Rattle.table.specs.declared.Callback.{Callback}
use Rattle.table.specs.declared.Table.{Table}
use Rattle.numbers.specs.Numbers.{longest}
use Rattle.table.specs.Values.{callback_at, entries_of, horizon_of}
use Rattle.table.specs.Links.{is_head}
use Rattle.rules.specs.Parts.{Sound}
use Rattle.rules.proofs.Heads.{head_lt, head_self, head_is_head}
use Rattle.chains.specs.Chains.{head_of}
use Rattle.windows.specs.declared.Level.{Level}
use Rattle.windows.specs.Bounds.{arrivals_of, cost_of, supply_of, arrivals_in}
use Rattle.windows.specs.Parts.{reach_of, Spaced, Costed}

module _ (t : Table) (so : Sound t) where
  -- the arrivals of each chain's head
  pub spaced : (i : ℕ) → i < t.count → Spaced (callback_at t (head_of t i))
  spaced i l =
      let k = head_lt t i l in
      let e = head_is_head t so i l in
      record {
        period_some = so.head_period _ k e;
        period_most = so.head_period_le _ k e;
        jitter_most = so.head_jitter_le _ k e;
        distance_some = so.head_distance _ k e;
        distance_most = omega (arith, so.head_distance_le _ k e, so.head_period_le _ k e);
      }

  -- the costs of each callback
  pub costed : (i : ℕ) → i < t.count → Costed (callback_at t i)
  costed i l = record {
    entries_some = so.entries_some i l;
    entries_most = so.entries_few i l;
    listed = omega (arith, so.entries_length i l, so.entries_some i l);
    rising = so.entries_rise i l;
  }

  -- a does not fall, and E rises
  pub sound_rising : Rising t.count (arrivals_of t) (cost_of t)
  unfolding arrivals_of cost_of
  sound_rising = record {
    a_up = λ i d l. let c : Callback = callback_at t (head_of t i) in arrivals_mono c.period c.jitter c.distance (spaced i l).period_some (spaced i l).distance_some d;
    e_up = λ i m l. cost_up (entries_of (callback_at t i)) (costed i l).listed (costed i l).rising m;
  }

  -- so it is in a level
  pub level_rising : (v : Level) → Rising t.count (arrivals_in t v) (cost_of t)
  unfolding arrivals_in
  level_rising v = record { a_up = λ i d l. given_up (not (has v.below i)) (sound_rising.a_up i d l); e_up = sound_rising.e_up }

  -- its supply has an inverse
  pub sound_inverse : (most : ℕ) → Inverse most (supply_of t) (reach_of t most)
  unfolding supply_of reach_of
  sound_inverse = supply_inverse t.budget t.period t.delay so.budget_some so.budget_le

  -- a head leads itself, and nobody else does
  pub head_own : (i : ℕ) → i < t.count → is_head t i ≡ eqb (head_of t i) i
  head_own i l = go (is_head t i) refl
    where
      go : (b : Bool) → is_head t i ≡ b → b ≡ eqb (head_of t i) i
      go true e = sym (eq-eqb (head_of t i) i (head_self t i e))
      go false e = sym (ne_eqb (head_of t i) i (λ q. never_both (is_head t i) (subst (λ (h : ℕ). is_head t h ≡ true) q (head_is_head t so i l)) e))

  pub horizon_in : horizon_of t ≤ longest
  unfolding horizon_of
  horizon_in = go (eqb t.horizon 0)
    where
      go : (b : Bool) → elim b [ true ↦ longest | false ↦ t.horizon ] ≤ longest
      go true = le_refl longest
      go false = so.horizon_le
