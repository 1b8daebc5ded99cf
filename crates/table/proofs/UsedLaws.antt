-- The callbacks of a table that count says are used, in a loop over them. Assumes nothing.
-- used-at: the callback of a place among them is that of its slot. used_end: the loop ends at count.
use mathlib.Core.Path.{◌≡◌}
use Prim.Native.Nat.{ℕ, ◌≤◌, ◌<◌}
use native.Mathlib.Omega.{arith}
use lib.ListN.{length, get_or, take, length-take}
use lib.Seq.{get_or-take}
use Rattle.numbers.specs.Numbers.{places}
use Rattle.table.specs.declared.Table.{Table}
use Rattle.table.specs.Values.{callback_at, vacant}

module _ (t : Table) (i : ℕ) where
  pub used-below : i < length (take t.count t.callbacks) → i < t.count
  used-below h = omega (arith, length-take t.count t.callbacks)

  pub used-at : i < length (take t.count t.callbacks) → get_or (take t.count t.callbacks) i vacant ≡ callback_at t i
  used-at h = get_or-take t.count t.callbacks i vacant (used-below h)

  pub used_end : t.count ≤ places → length t.callbacks ≡ places → i ≤ length (take t.count t.callbacks) → length (take t.count t.callbacks) ≤ i → i ≡ t.count
  used_end le full a b = omega (arith, length-take t.count t.callbacks)
