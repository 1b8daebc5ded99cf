-- `spares_at` meets its contract: after i records the mask has those of them with a spare byte not zero. Assumes nothing.
use mathlib.Core.Path.{◌≡◌}
use mathlib.Core.Bool.{Bool}
use mathlib.Core.List.{List}
use Prim.Native.Nat.{ℕ}
use Rattle.masks.specs.Mask.{gather}
use Rattle.reader.specs.Format.{spare_at, record_start}
use Rattle.reader.proofs.spares_at.Given as goal

abbrev pub spare_in : List ℕ → ℕ → Bool
spare_in b i = spare_at b (record_start i)

abbrev pub invariant-loop-i : goal.invariant-loop-i
invariant-loop-i l = l.spares ≡ gather (spare_in l.b) l.i
