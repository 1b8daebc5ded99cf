-- What a record's test gives; what holds of every table without faults, as the functions of reader, analyser and machine ask for it.
use Rattle.std.specs.Prelude.{◌≡◌, ◌≢◌, true, false, ℕ, suc, ◌≤◌, ◌<◌, length, Result, Ok, Err}
use Rattle.numbers.specs.Numbers.{places, entry_places, longest, edition_two, timer, client}
use Rattle.curves.specs.Cost.{entry}
use Rattle.curves.specs.Parts.{RisingEntries}
use Rattle.table.specs.declared.Table.{Table}
use Rattle.table.specs.Values.{callback_at, kind_of, next_of, entries_of}
use Rattle.table.specs.Rows.{number_of}
use Rattle.table.specs.declared.rows.Row.{Row}
use Rattle.table.specs.Walk.{walk}
use Rattle.table.specs.Links.{is_head}

-- the number that a record's test gives, 0 where it is passed
abbrev pub row_number : Result (Unit {0}) Row → ℕ
row_number r = elim r [ Ok _ ↦ 0 | Err row ↦ number_of row ]

-- what the tests leave: the header, the record of each slot, the links, the arrivals
pub record Sound (t : Table) : Type 0 where
  -- the header
  pub edition_to : t.edition ≤ edition_two
  pub some : 1 ≤ t.count
  pub few : t.count ≤ places
  pub budget_some : 0 < t.budget
  pub budget_le : t.budget ≤ t.period
  pub period_le : t.period ≤ longest
  pub delay_le : t.delay ≤ longest
  pub horizon_le : t.horizon ≤ longest
  -- the record of each slot
  pub kind_from : (i : ℕ) → i < t.count → timer ≤ kind_of t i
  pub kind_to : (i : ℕ) → i < t.count → kind_of t i ≤ client
  pub names : (i : ℕ) → i < t.count → next_of t i ≤ t.count
  pub entries_some : (i : ℕ) → i < t.count → 1 ≤ (callback_at t i).used
  pub entries_few : (i : ℕ) → i < t.count → (callback_at t i).used ≤ entry_places
  pub entries_length : (i : ℕ) → i < t.count → length (entries_of (callback_at t i)) ≡ (callback_at t i).used
  pub entries_rise : (i : ℕ) → i < t.count → RisingEntries (entries_of (callback_at t i))
  pub entries_le : (i k : ℕ) → i < t.count → entry (entries_of (callback_at t i)) k ≤ longest
  -- the links
  pub once : (p q i : ℕ) → p < t.count → q < t.count → next_of t p ≡ suc i → next_of t q ≡ suc i → p ≡ q
  pub timer_head : (i : ℕ) → i < t.count → kind_of t i ≡ timer → is_head t i ≡ true
  pub loopless : (i k : ℕ) → i < t.count → 0 < k → k ≤ t.count → walk (next_of t) k (suc i) ≢ suc i
  -- the arrivals
  pub head_period : (i : ℕ) → i < t.count → is_head t i ≡ true → 1 ≤ (callback_at t i).period
  pub head_period_le : (i : ℕ) → i < t.count → is_head t i ≡ true → (callback_at t i).period ≤ longest
  pub head_jitter_le : (i : ℕ) → i < t.count → is_head t i ≡ true → (callback_at t i).jitter ≤ longest
  pub head_distance : (i : ℕ) → i < t.count → is_head t i ≡ true → 1 ≤ (callback_at t i).distance
  pub head_distance_le : (i : ℕ) → i < t.count → is_head t i ≡ true → (callback_at t i).distance ≤ (callback_at t i).period
  pub follower_period : (i : ℕ) → i < t.count → is_head t i ≡ false → (callback_at t i).period ≡ 0
  pub follower_jitter : (i : ℕ) → i < t.count → is_head t i ≡ false → (callback_at t i).jitter ≡ 0
  pub follower_distance : (i : ℕ) → i < t.count → is_head t i ≡ false → (callback_at t i).distance ≡ 0
