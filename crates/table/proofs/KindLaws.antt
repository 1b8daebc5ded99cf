-- Which numbers are those of kinds. Assumes nothing.
use mathlib.Core.Path.{◌≡◌, refl}
use mathlib.Core.Bool.{not, and-false}
use Prim.Native.Nat.{ℕ, zero, suc, ◌<◌}
use native.Mathlib.Omega.{arith}
use borrow.Author.Tests.{ne_eqb, lt-leb}
use Rattle.std.specs.Result.{is_err}
use Rattle.ranges.specs.Every.{within}
use Rattle.numbers.specs.Numbers.{timer, client}
use Rattle.table.specs.Kinds.{kind_numbered}

pub unknown_kind : (n : ℕ) → is_err (kind_numbered n) ≡ not (within timer client n)
unknown_kind zero = refl
unknown_kind (suc zero) = refl
unknown_kind (suc (suc zero)) = refl
unknown_kind (suc (suc (suc zero))) = refl
unknown_kind (suc (suc (suc (suc zero)))) = refl
unknown_kind (suc (suc (suc (suc (suc n))))) = above (suc (suc (suc (suc (suc n))))) (omega arith)
  where
    above : (x : ℕ) → 4 < x → is_err (kind_numbered x) ≡ not (within timer client x)
    above x h = simp (ne_eqb x 1 (λ e. omega arith), ne_eqb x 2 (λ e. omega arith), ne_eqb x 3 (λ e. omega arith), ne_eqb x 4 (λ e. omega arith), lt-leb x 4 h, and-false)
