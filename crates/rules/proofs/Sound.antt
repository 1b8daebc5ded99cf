-- What holds of every table without faults: sound t, from (fault_of t).number ≡ 0. ticks-le, entries_le: its numbers fit their bytes. Assumes nothing.
-- sound_by: the same of a table that has passed with 24 tested or not. cost_count, cost-entry, cost_long, used_length, used_rise, used_le: what 10 leaves of m and the entries.
use mathlib.Core.Path.{◌≡◌, refl, sym, ap, ap₂, ◌∙◌}
use mathlib.Core.Logic.{◌⊎◌, inl, inr}
use mathlib.Core.Bool.{Bool, true, false, not, ◌&&◌, ◌||◌}
use Prim.Native.Nat.{ℕ, zero, suc, ◌≤◌, ◌<◌}
use native.Mathlib.Decide.{ℕ_discrete}
use native.Mathlib.Omega.{arith}
use lib.Dec.{eqb, ltb, leb}
use lib.ListN.{length, get_or-eq_default, get_or}
use lib.Seq.{length-take-le}
use borrow.Author.Tests.{not-false, eq-eqb, ltb-true, ltb-false, leb-true, leb-false, eqb-true, le-ltb}
use Rattle.curves.specs.Cost.{entry}
use Rattle.ranges.specs.Every.{every, within}
use Rattle.ranges.proofs.SumLaws.{le_or_lt}
use Rattle.ranges.proofs.LeastLaws.{lowest-none}
use Rattle.ranges.proofs.EveryLaws.{never_both, and_holds, or_fails, every_at, within_passed}
use Rattle.curves.proofs.CostLaws.{entry-take}
use Rattle.curves.specs.Parts.{RisingEntries}
use Rattle.table.specs.declared.Callback.{Callback}
use Rattle.table.specs.declared.Table.{Table}
use Rattle.masks.specs.Mask.{has}
use Rattle.numbers.specs.Numbers.{entry_places, longest, timer, client}
use Rattle.table.specs.Values.{callback_at, kind_of, entries_of}
use Rattle.table.specs.Links.{named, is_head, on_loop}
use Rattle.rules.specs.Rules.{supply_fault, entries_fault, fault_of, unused_fault}
use Rattle.rules.specs.Parts.{Sound}
use Rattle.rules.proofs.RulesLaws.{rises}
use Rattle.link_rules.proofs.Names.{names_once, off-loop}
use Rattle.rules.proofs.Passed.{HeadPassed, BodyPassedBy, fault_passed, RecordPassed}
use Rattle.link_rules.specs.LinkRules.{arrivals_fault}

-- ---- the tests, read back

supply_passed : (q p : ℕ) → supply_fault q p ≡ false → (0 < q) × (q ≤ p) × (p ≤ longest)
unfolding supply_fault
supply_passed q p e =
    let one = or_fails (eqb q 0) (ltb p q || ltb longest p) e in
    let two = or_fails (ltb p q) (ltb longest p) one.1 in
    (positive, ltb-false p q two.0, ltb-false longest p two.1)
  where
    positive : 0 < q
    positive = go (ℕ_discrete q 0)
      where
        go : Dec (q ≡ 0) → 0 < q
        go (yes z) = absurd (never_both (eqb q 0) (eq-eqb q 0 z) (or_fails (eqb q 0) (ltb p q || ltb longest p) e).0)
        go (no h) = omega arith

module _ (c : Callback) (ok : entries_fault c ≡ false) where
  both_hold : (within 1 entry_places c.used ≡ true) × (every c.used (rises c) ≡ true)
  unfolding entries_fault
  both_hold = and_holds (within 1 entry_places c.used) (every c.used (rises c)) (not-false (within 1 entry_places c.used && every c.used (rises c)) ok)

  pub cost_count : (1 ≤ c.used) × (c.used ≤ entry_places)
  cost_count = within_passed 1 entry_places c.used both_hold.0

  pub cost-entry : (k : ℕ) → k < c.used → (entry c.entries k < entry c.entries (suc k)) × (entry c.entries (suc k) ≤ longest)
  cost-entry k l =
      let b = and_holds (ltb (entry c.entries k) (entry c.entries (suc k))) (leb (entry c.entries (suc k)) longest) (every_at (rises c) c.used both_hold.1 k l) in
      (ltb-true (entry c.entries k) (entry c.entries (suc k)) b.0, leb-true (entry c.entries (suc k)) longest b.1)

  -- an entry above 0 is one of the list
  pub cost_long : c.used ≤ length c.entries
  cost_long = go (le_or_lt c.used (length c.entries))
    where
      go : (c.used ≤ length c.entries) ⊎ (length c.entries < c.used) → c.used ≤ length c.entries
      go (inl h) = h
      go (inr h) = absurd (omega (arith, (cost-entry (length c.entries) h).0, get_or-eq_default c.entries 0 {n = length c.entries} (omega arith)))

  pub used_length : length (entries_of c) ≡ c.used
  used_length = length-take-le c.used c.entries cost_long

  pub used_rise : RisingEntries (entries_of c)
  used_rise k l =
      let h : k < c.used = omega (arith, used_length) in
      omega (arith, entry-take c.entries c.used k (omega arith), entry-take c.entries c.used (suc k) h, (cost-entry k h).0)

  pub used_le : (k : ℕ) → entry (entries_of c) k ≤ longest
  used_le zero = omega arith
  used_le (suc k) = go (le_or_lt c.used k)
    where
      go : (c.used ≤ k) ⊎ (k < c.used) → entry (entries_of c) (suc k) ≤ longest
      go (inl h) = omega (arith, get_or-eq_default (entries_of c) 0 {n = k} (omega (arith, used_length)))
      go (inr h) = omega (arith, entry-take c.entries c.used (suc k) h, (cost-entry k h).1)

module _ (t : Table) where
  is_head_lem : (i : ℕ) → named t i < 1 → is_head t i ≡ true
  unfolding is_head
  is_head_lem i h = eq-eqb (named t i) 0 (omega arith)

  module _ (i : ℕ) (ok : arrivals_fault (is_head t i) (callback_at t i) ≡ false) where
    abbrev c : Callback
    c = callback_at t i

    head_tests : is_head t i ≡ true → (not (within 1 longest c.period) || (ltb longest c.jitter || not (within 1 c.period c.distance))) ≡ false
    unfolding arrivals_fault
    head_tests e = ap (λ (b : Bool). arrivals_fault b c) (sym e) ∙ ok

    head_tests_passed : is_head t i ≡ true → (1 ≤ c.period) × (c.period ≤ longest) × (c.jitter ≤ longest) × (1 ≤ c.distance) × (c.distance ≤ c.period)
    head_tests_passed e =
        let one = or_fails (not (within 1 longest c.period)) (ltb longest c.jitter || not (within 1 c.period c.distance)) (head_tests e) in
        let two = or_fails (ltb longest c.jitter) (not (within 1 c.period c.distance)) one.1 in
        let period = within_passed 1 longest c.period (not-false (within 1 longest c.period) one.0) in
        let distance = within_passed 1 c.period c.distance (not-false (within 1 c.period c.distance) two.1) in
        (period.0, period.1, ltb-false longest c.jitter two.0, distance.0, distance.1)

    follower_tests : is_head t i ≡ false → (not (eqb c.period 0) || (not (eqb c.jitter 0) || not (eqb c.distance 0))) ≡ false
    unfolding arrivals_fault
    follower_tests e = ap (λ (b : Bool). arrivals_fault b c) (sym e) ∙ ok

    follower_passed : is_head t i ≡ false → (c.period ≡ 0) × (c.jitter ≡ 0) × (c.distance ≡ 0)
    follower_passed e =
        let one = or_fails (not (eqb c.period 0)) (not (eqb c.jitter 0) || not (eqb c.distance 0)) (follower_tests e) in
        let two = or_fails (not (eqb c.jitter 0)) (not (eqb c.distance 0)) one.1 in (
          eqb-true c.period 0 (not-false (eqb c.period 0) one.0),
          eqb-true c.jitter 0 (not-false (eqb c.jitter 0) two.0),
          eqb-true c.distance 0 (not-false (eqb c.distance 0) two.1),
        )

-- ---- all of it

pub sound_by : (sums spare : Bool) (spares : ℕ) (t : Table) → HeadPassed t.edition t.count → BodyPassedBy sums spare spares t → Sound t
sound_by sums spare spares t head body =
    record {
      edition_to = head.edition_to;
      some = head.some;
      few = head.few;
      budget_some = supplied.0;
      budget_le = supplied.1;
      period_le = supplied.2;
      delay_le = body.delay;
      horizon_le = body.horizon;
      kind_from = λ i l. (within_passed timer client (kind_of t i) (body.records i l).kind).0;
      kind_to = λ i l. (within_passed timer client (kind_of t i) (body.records i l).kind).1;
      names = λ i l. (body.records i l).next;
      entries_some = λ i l. (cost_count (callback_at t i) (body.records i l).entries).0;
      entries_few = λ i l. (cost_count (callback_at t i) (body.records i l).entries).1;
      entries_length = λ i l. used_length (callback_at t i) (body.records i l).entries;
      entries_rise = λ i l. used_rise (callback_at t i) (body.records i l).entries;
      entries_le = λ i k l. used_le (callback_at t i) (body.records i l).entries k;
      once = names_once t body.links.once (λ i l. (body.records i l).next);
      timer_head = λ i l e. is_head_lem t i (unnamed_timer i l e);
      loopless = λ i k l. off-loop t i (lowest-none (on_loop t) t.count body.links.loops i l) k;
      head_period = λ i l e. (head_tests_passed t i (arrive i l) e).0;
      head_period_le = λ i l e. (head_tests_passed t i (arrive i l) e).1;
      head_jitter_le = λ i l e. (head_tests_passed t i (arrive i l) e).2;
      head_distance = λ i l e. (head_tests_passed t i (arrive i l) e).3;
      head_distance_le = λ i l e. (head_tests_passed t i (arrive i l) e).4;
      follower_period = λ i l e. (follower_passed t i (arrive i l) e).0;
      follower_jitter = λ i l e. (follower_passed t i (arrive i l) e).1;
      follower_distance = λ i l e. (follower_passed t i (arrive i l) e).2;
    }
  where
    supplied : (0 < t.budget) × (t.budget ≤ t.period) × (t.period ≤ longest)
    supplied = supply_passed t.budget t.period body.supply

    arrive : (i : ℕ) → i < t.count → arrivals_fault (is_head t i) (callback_at t i) ≡ false
    arrive i l = lowest-none (λ i. arrivals_fault (is_head t i) (callback_at t i)) t.count body.links.arrivals i l

    unnamed_timer : (i : ℕ) → i < t.count → kind_of t i ≡ timer → named t i < 1
    unnamed_timer i l e = go (leb 1 (named t i)) refl
      where
        free : (leb 1 (named t i) && eqb (kind_of t i) timer) ≡ false
        free = lowest-none (λ i. leb 1 (named t i) && eqb (kind_of t i) timer) t.count body.links.timers i l

        go : (b : Bool) → leb 1 (named t i) ≡ b → named t i < 1
        go true f = absurd (never_both _ (ap₂ ◌&&◌ f (eq-eqb (kind_of t i) timer e)) free)
        go false f = leb-false 1 (named t i) f

pub sound : (t : Table) → (fault_of t).number ≡ 0 → Sound t
sound t ok = let p = fault_passed t ok in sound_by true false 0 t p.0 p.1

-- ---- the values of a table without faults fit the bytes that they are written to

module _ (t : Table) (ok : (fault_of t).number ≡ 0) (i : ℕ) (l : i < t.count) where
  abbrev own : Callback
  own = callback_at t i

  pub ticks-le : (own.period ≤ longest) × (own.jitter ≤ longest) × (own.distance ≤ longest)
  ticks-le = go (is_head t i) refl
    where
      s : Sound t
      s = sound t ok

      go : (b : Bool) → is_head t i ≡ b → (own.period ≤ longest) × (own.jitter ≤ longest) × (own.distance ≤ longest)
      go true e = (s.head_period_le i l e, s.head_jitter_le i l e, omega (arith, s.head_distance_le i l e, s.head_period_le i l e))
      go false e = (omega (arith, s.follower_period i l e), omega (arith, s.follower_jitter i l e), omega (arith, s.follower_distance i l e))

  -- used or not
  pub entries_le : (k : ℕ) → k < entry_places → get_or own.entries k 0 ≤ longest
  unfolding unused_fault
  entries_le k h = go (le_or_lt own.used k)
    where
      passed : RecordPassed t.count own (has 0 i)
      passed = (fault_passed t ok).1.records i l

      go : (own.used ≤ k) ⊎ (k < own.used) → get_or own.entries k 0 ≤ longest
      go (inr m) = (cost-entry own passed.entries k m).1
      go (inl m) =
          let blank = every_at (λ k. ltb k own.used || eqb (get_or own.entries k 0) 0) entry_places (not-false _ passed.unused) k h in
          omega (arith, eqb-true (get_or own.entries k 0) 0 (sym (ap (λ (b : Bool). b || eqb (get_or own.entries k 0) 0) (le-ltb k own.used m)) ∙ blank))
