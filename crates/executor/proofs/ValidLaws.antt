-- A state without faults. Assumes nothing.
--   table_sound                                    its table is sound
--   valid_of, faultless                            what row 29 leaves of a state, and that it is all that row asks
--   fresh-table, fresh_valid                                    a fresh state
--   arrive_at, valid_arrived, admissible_arrived  the state after the arrivals
use mathlib.Core.Path.{◌≡◌, refl, ap, ap₂, ◌∙◌}
use mathlib.Core.Logic.{◌⊎◌, inl, inr}
use mathlib.Core.Bool.{Bool, true, false, ◌||◌}
use Prim.Native.Nat.{ℕ, zero, suc, ◌+◌, ◌-◌, ◌≤◌, ◌<◌}
use native.Mathlib.Omega.{arith}
use lib.Dec.{leb, eqb}
use lib.ListN.{length, length-replicate, get_or-replicate}
use borrow.Author.Tests.{eq-eqb, eqb-true, le-leb, leb-true, not-false}
use Rattle.masks.specs.Mask.{has}
use Rattle.masks.proofs.Slots.{has_above, has_zero}
use Rattle.ranges.specs.Sum.{given}
use Rattle.ranges.specs.Every.{some}
use Rattle.ranges.proofs.SumLaws.{le_or_lt, given-le}
use Rattle.ranges.proofs.EveryLaws.{or_fails, never_both, some_miss, some-none}
use Rattle.table.specs.declared.Table.{Table}
use Rattle.numbers.specs.Numbers.{places, most_waiting}
use Rattle.rules.specs.Rules.{fault_of}
use Rattle.rules.specs.Parts.{Sound}
use Rattle.rules.proofs.Sound.{sound}
use Rattle.faults.specs.Faults.{table_fault, slot_fault, run_wrong}
use Rattle.faults.proofs.ValueLaws.{SlotRight, RunRight, slot_right, slot_faultless, run_right, run_faultless}
use Rattle.turns.specs.Choosing.{is_polled}
use Rattle.queues.proofs.ArrivedLaws.{arrived-length, arrived_at}
use Rattle.folding.specs.Folding.{kept}
use Rattle.folding.proofs.FoldingLaws.{kept-has, kept_in_lem}
use Rattle.executor.specs.declared.Machine.{Machine}
use Rattle.executor.specs.State.{fresh, waiting_of, finished_at, state_fault, faulty}
use Rattle.executor.specs.Effect.{folded_in, kept_in, arrive}
use Rattle.table.specs.Links.{foreign}
use Rattle.table.proofs.MaskLaws.{masked}
use Rattle.executor.specs.Parts.{Valid, Room, Admissible}

pub table_sound : (t : Table) → table_fault t ≡ false → Sound t
unfolding table_fault
table_sound t ok = sound t (eqb-true (fault_of t).number 0 (not-false _ ok))

-- ---- row 29

module _ (m : Machine) where
  abbrev Slot : ℕ → Type 0
  Slot i = SlotRight (leb m.table.count i) (has m.cache i) (eqb m.running (suc i)) (is_polled m.table i) (waiting_of m i) (finished_at m i) m.clock

  abbrev test : ℕ → Bool
  test = slot_fault m.table m.cache m.running m.waiting m.finished m.clock

  -- a state as its types have it, in which no test finds a fault
  pub valid_of : (length m.waiting ≡ places) × (length m.finished ≡ places) → m.cache < 65536
      → table_fault m.table ≡ false → state_fault m ≡ false → Valid m × Room most_waiting m
  valid_of sized small table right = (
    record {
      table = table;
      sized = sized;
      beyond = λ i k l. (let a = (slot i l).outside (le-leb m.table.count i k) in (a.1, a.2));
      cached = λ i h. (let a = (slot i (low i h)).kept h in (inside i h (le_or_lt m.table.count i), a.0, a.1));
      runner = λ i e. (let a = (slot i (omega (arith, run.inside, (table_sound m.table table).few))).running (eq-eqb m.running (suc i) e) in (omega (arith, run.inside), a.0, a.1));
      measured = λ i e. run.measured (λ z. omega arith);
      rest = run.rest;
      early = λ i l. (slot i l).early;
    },
    λ i l. (slot i l).room,
  )
    where
      halves : (run_wrong m.table.count m.running m.units ≡ false) × (some places test ≡ false)
      halves = or_fails (run_wrong m.table.count m.running m.units) (some places test) right

      slot : (i : ℕ) → i < places → Slot i
      slot i l = slot_right _ _ _ _ _ _ _ (some_miss test places i halves.1 l)

      run : RunRight m.table.count m.running m.units
      run = run_right _ _ _ halves.0

      low : (i : ℕ) → has m.cache i ≡ true → i < places
      low i h = go (le_or_lt places i)
        where
          go : (places ≤ i) ⊎ (i < places) → i < places
          go (inl k) = absurd (never_both (has m.cache i) h (has_above 16 m.cache i small k))
          go (inr k) = k

      inside : (i : ℕ) → has m.cache i ≡ true → (m.table.count ≤ i) ⊎ (i < m.table.count) → i < m.table.count
      inside i h (inl k) = absurd (never_both (has m.cache i) h ((slot i (low i h)).outside (le-leb m.table.count i k)).0)
      inside i h (inr k) = k

  pub faultless : Valid m → Room most_waiting m → faulty m ≡ false
  unfolding faulty
  faultless ok small = ap₂ ◌||◌ ok.table (ap₂ ◌||◌ (run_faultless _ _ _ run) (some-none test places (λ i l. slot_faultless _ _ _ _ _ _ _ (slot i l))))
    where
      run : RunRight m.table.count m.running m.units
      run = record { inside = go m.running refl; rest = ok.rest; measured = λ d. ok.measured (m.running - 1) (omega arith) }
        where
          go : (r : ℕ) → m.running ≡ r → r ≤ m.table.count
          go zero e = omega arith
          go (suc i) e = (ok.runner i e).0

      slot : (i : ℕ) → i < places → Slot i
      slot i l = record {
        outside = λ b. (let a = ok.beyond i (leb-true m.table.count i b) l in (uncached (leb-true m.table.count i b) (has m.cache i) refl, a.0, a.1));
        room = small i l;
        early = ok.early i l;
        kept = λ h. (let a = ok.cached i h in (a.1, a.2));
        running = λ h. (let a = ok.runner i (eqb-true m.running (suc i) h) in (a.1, a.2));
      }
        where
          uncached : m.table.count ≤ i → (b : Bool) → has m.cache i ≡ b → b ≡ false
          uncached k true h = absurd (omega (arith, (ok.cached i h).0))
          uncached k false h = refl

-- ---- a fresh state

pub fresh-table : (t : Table) → (fresh t).table ≡ t
unfolding fresh
fresh-table t = refl

pub fresh_valid : (t : Table) → table_fault t ≡ false → Valid (fresh t)
unfolding fresh
fresh_valid t ok = record {
  table = ok;
  sized = (length-replicate {A = ℕ} places 0, length-replicate {A = ℕ} places 0);
  beyond = λ i k h. (get_or-replicate {A = ℕ} places i 0 0 h, get_or-replicate {A = ℕ} places i 0 0 h);
  cached = λ i h. absurd (never_both (has 0 i) h (has_zero i));
  runner = λ i e. absurd (omega arith);
  measured = λ i e. absurd (omega arith);
  rest = λ e. refl;
  early = λ i h. omega (arith, get_or-replicate {A = ℕ} places i 0 0 h);
}

-- ---- the arrivals

module _ (m : Machine) (ok : Valid m) (mask : ℕ) where
  -- whose arrival is kept
  abbrev pub comes : ℕ → Bool
  comes j = kept mask (folded_in m mask) j

  pub arrive_at : (j : ℕ) → j < places → waiting_of (arrive m mask) j ≡ waiting_of m j + given (comes j) 1
  arrive_at j l =
      arrived_at (kept_in m mask) m.waiting j l (omega (arith, ok.sized.0))
      ∙ ap (λ (b : Bool). waiting_of m j + given b 1) (kept-has mask (folded_in m mask) j l)

  pub valid_arrived : foreign m.table mask ≡ 0 → Valid (arrive m mask)
  valid_arrived heads = record {
    table = ok.table;
    sized = (arrived-length (kept_in m mask) m.waiting ∙ ok.sized.0, ok.sized.1);
    beyond = λ i k l. (omega (arith, arrive_at i l, (ok.beyond i k l).0, none i k l (comes i) refl), (ok.beyond i k l).1);
    cached = λ i h. (let a = ok.cached i h in (a.0, omega (arith, a.1, arrive_at i (omega (arith, a.0, few))), a.2));
    runner = λ i e. (let a = ok.runner i e in (a.0, omega (arith, a.1, arrive_at i (omega (arith, a.0, few))), a.2));
    measured = ok.measured;
    rest = ok.rest;
    early = ok.early;
  }
    where
      few : m.table.count ≤ places
      few = (table_sound m.table ok.table).few

      none : (i : ℕ) → m.table.count ≤ i → i < places → (b : Bool) → comes i ≡ b → given b 1 ≡ 0
      none i k l true h = absurd (omega (arith, (masked m.table mask heads i l (kept_in_lem mask (folded_in m mask) i h)).0))
      none i k l false h = refl

pub admissible_arrived : (m : Machine) (mask cost most : ℕ) → Admissible most m cost → foreign m.table mask ≡ 0 → Admissible (most + 1) (arrive m mask) cost
admissible_arrived m mask cost most ok heads = record {
  valid = valid_arrived m ok.valid mask heads;
  room = λ i l. omega (arith, arrive_at m ok.valid mask i l, ok.room i l, given-le (comes m ok.valid mask i) 1);
  early = ok.early;
  priced = ok.priced;
}
