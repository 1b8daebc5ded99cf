-- Which numbers are those of editions. Assumes nothing.
use mathlib.Core.Path.{◌≡◌, refl}
use mathlib.Core.Bool.{not, and-false}
use Prim.Native.Nat.{ℕ, zero, suc, ◌<◌}
use native.Mathlib.Omega.{arith}
use borrow.Author.Tests.{ne_eqb, lt-leb}
use Rattle.std.specs.Result.{is_err}
use Rattle.ranges.specs.Every.{within}
use Rattle.numbers.specs.Numbers.{edition_one, edition_two}
use Rattle.table.specs.Editions.{edition_numbered}

pub unknown_edition : (n : ℕ) → is_err (edition_numbered n) ≡ not (within edition_one edition_two n)
unknown_edition zero = refl
unknown_edition (suc zero) = refl
unknown_edition (suc (suc zero)) = refl
unknown_edition (suc (suc (suc n))) = above (suc (suc (suc n))) (omega arith)
  where
    above : (x : ℕ) → 2 < x → is_err (edition_numbered x) ≡ not (within edition_one edition_two x)
    above x h = simp (ne_eqb x 1 (λ e. omega arith), ne_eqb x 2 (λ e. omega arith), lt-leb x 2 h, and-false)
