-- A record whose entries are replaced. Assumes nothing.
-- replaced, replaced_entries: the record, and its entries E(1) to E(m).
-- replaced_rises, replaced_sums, replaced_unused: 10 and 24 pass, and 5 where it did.
-- without_24, replaced-same: a record without fault 24 is subadditive, and stays as it is.
use mathlib.Core.Path.{◌≡◌, sym, ap, ◌∙◌}
use mathlib.Core.Logic.{◌⊎◌, inl, inr}
use mathlib.Core.Bool.{false, not, ◌||◌}
use mathlib.Core.List.{List, ◌++◌}
use Prim.Native.Nat.{ℕ, suc, ◌+◌, ◌-◌, ◌≤◌, ◌<◌}
use native.Mathlib.Omega.{arith}
use lib.Dec.{eqb, ltb}
use lib.ListN.{get_or, drop}
use lib.Seq.{get_or-drop}
use borrow.Author.Tests.{not-false, lt-ltb, leb-true, le-leb}
use Rattle.numbers.specs.Numbers.{entry_places}
use Rattle.ranges.specs.Every.{every}
use Rattle.ranges.proofs.SumLaws.{le_or_lt}
use Rattle.ranges.proofs.EveryLaws.{every_at, every_all, every-same}
use Rattle.lent.proofs.Numbers.{past}
use Rattle.curves.specs.Cost.{entry}
use Rattle.curves.proofs.CostLaws.{entry-take}
use Rattle.table.specs.declared.Callback.{Callback}
use Rattle.table.specs.Values.{callback_bytes, callback_ticks, callback_of, entries_of}
use Rattle.rules.specs.Rules.{entries_fault, joins, sums_fault, unused_fault}
use Rattle.rules.proofs.RulesLaws.{rises, cost_all, rises_well, blank_beyond}
use Rattle.rules.proofs.Sound.{cost_count, cost_long, used_length, used_rise, used_le}
use Rattle.closure.specs.Closure.{closed}
use Rattle.closure.specs.Split.{Subadditive}
use Rattle.closure.proofs.ClosureLaws.{closed-length, closed_under, closed_rises, closed_sums, closed_same}
use Rattle.normaliser.proofs.NormaliserLaws.{closed_front}

-- the record with its m entries replaced
abbrev pub replaced : Callback → Callback
replaced c = callback_of (callback_bytes c) (callback_ticks c) (closed (entries_of c) ++ drop c.used c.entries)

module _ (c : Callback) (ok : entries_fault c ≡ false) where
  abbrev es : List ℕ
  es = entries_of c

  pub replaced_entries : entries_of (replaced c) ≡ closed es
  replaced_entries = closed_front c.entries c.used (cost_long c ok)

  -- E'(k), out of eight places
  placed-entry : (k : ℕ) → k ≤ c.used → entry (replaced c).entries k ≡ entry (closed es) k
  placed-entry k h = sym (entry-take (replaced c).entries c.used k h) ∙ ap (λ (x : List ℕ). entry x k) replaced_entries

  -- 10
  pub replaced_rises : entries_fault (replaced c) ≡ false
  replaced_rises =
      let n = cost_count c ok in
      sym (cost_all (replaced c) (λ z. omega (arith, n.0)) n.1 (every_all (rises (replaced c)) c.used (λ k l. rises_well (replaced c) k (up k l) (most k l))))
    where
      up : (k : ℕ) → k < c.used → entry (replaced c).entries k < entry (replaced c).entries (suc k)
      up k l = omega (arith, placed-entry k (omega arith), placed-entry (suc k) l, closed_rises es (used_rise c ok) k (omega (arith, closed-length es, used_length c ok)))

      most : (k : ℕ) → k < c.used → entry (replaced c).entries (suc k) ≤ 60000
      most k l = omega (arith, placed-entry (suc k) l, closed_under es (suc k), used_le c ok (suc k))

  -- 24
  pub replaced_sums : sums_fault (replaced c) ≡ false
  unfolding sums_fault
  replaced_sums = ap not (every_all (λ k. every k (joins (replaced c).entries k)) c.used (λ k l. every_all (joins (replaced c).entries k) k (λ j h. le-leb _ _ (below k l j h))))
    where
      below : (k : ℕ) → k < c.used → (j : ℕ) → j < k → entry (replaced c).entries (suc k) ≤ entry (replaced c).entries (suc j) + entry (replaced c).entries (k - j)
      below k l j h =
          let e : suc j + (k - j) ≡ suc k = omega arith in
          omega (
            arith,
            placed-entry (suc k) l,
            placed-entry (suc j) (omega arith),
            placed-entry (k - j) (omega arith),
            ap (entry (closed es)) e,
            closed_sums es (suc j) (k - j) (omega arith) (omega arith) (omega (arith, closed-length es, used_length c ok)),
          )

  -- 5, of the entries beyond m
  pub replaced_unused : unused_fault c ≡ false → unused_fault (replaced c) ≡ false
  unfolding unused_fault
  replaced_unused h = ap not (sym (every-same (blank_beyond c) (blank_beyond (replaced c)) entry_places (λ k l. same k (le_or_lt c.used k)))) ∙ h
    where
      same : (k : ℕ) → (c.used ≤ k) ⊎ (k < c.used) → blank_beyond c k ≡ blank_beyond (replaced c) k
      same k (inr l) = simp (lt-ltb k c.used l)
      same k (inl l) =
          let e : c.used + (k - c.used) ≡ k = omega arith in
          ap (λ (x : ℕ). ltb k c.used || eqb x 0) (sym (
          ap (λ (i : ℕ). get_or (replaced c).entries i 0) (sym e)
          ∙ past (closed es) (drop c.used c.entries) c.used (k - c.used) (closed-length es ∙ used_length c ok)
          ∙ get_or-drop c.used c.entries (k - c.used) 0
          ∙ ap (λ (i : ℕ). get_or c.entries i 0) e))

  module _ (sub : sums_fault c ≡ false) where
    -- no entry is above the sum of two
    pub without_24 : Subadditive es
    unfolding sums_fault
    without_24 i j a b h =
        let m : i + j ≤ c.used = omega (arith, used_length c ok) in
        let k : ℕ = i + j - 1 in
        let p : suc (i + j - 1) ≡ i + j = omega arith in
        let q : suc (i - 1) ≡ i = omega arith in
        let r : i + j - 1 - (i - 1) ≡ j = omega arith in
        let passed = every_at (joins c.entries k) k (every_at (λ k. every k (joins c.entries k)) c.used (not-false _ sub) k (omega arith)) (i - 1) (omega arith) in
        omega (
          arith,
          leb-true (entry c.entries (suc k)) (entry c.entries (suc (i - 1)) + entry c.entries (k - (i - 1))) passed,
          ap (entry c.entries) p,
          ap (entry c.entries) q,
          ap (entry c.entries) r,
          entry-take c.entries c.used (i + j) m,
          entry-take c.entries c.used i (omega arith),
          entry-take c.entries c.used j (omega arith),
        )

    pub entries_same : closed es ≡ es
    entries_same = closed_same es without_24
