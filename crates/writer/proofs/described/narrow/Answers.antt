-- A number above 255, and one that a byte holds.
use mathlib.Core.Path.{◌≡◌, ◌∙◌}
use mathlib.Core.Logic.{◌⊎◌, inl, inr}
use Prim.Native.Nat.{ℕ, ◌≤◌, ◌<◌, min}
use native.Mathlib.Omega.{arith}
use borrow.Author.Tests.{lt-ltb, le-ltb}
use Rattle.ranges.proofs.SumLaws.{le_or_lt}
use Rattle.writer.specs.Parts.{narrow}
use Rattle.writer.proofs.described.narrow.Goals as goal

-- the smaller of the two
smaller : (x : ℕ) → (x ≤ 255) ⊎ (255 < x) → min x 255 ≡ narrow x
unfolding narrow
smaller x (inl h) = rw (le-ltb 255 x h) (omega arith)
smaller x (inr h) = rw (lt-ltb 255 x h) (omega arith)

pub returns : goal.returns
returns c = c.min.ensures ∙ smaller _ (le_or_lt _ 255)
