-- A length that was searched for: found_some, where it is not 0; found_or, it is the length, or 0. Assumes nothing.
use mathlib.Core.Path.{◌≡◌, refl}
use mathlib.Core.Logic.{◌≢◌}
use Prim.Native.Nat.{ℕ, zero, suc}
use Rattle.std.proofs.Common.{Some, unwrap_or}
use Rattle.windows.specs.Parts.{found}

pub found_some : (D : ℕ) → D ≢ 0 → Some D ≡ found D
found_some zero p = absurd (p refl)
found_some (suc D) p = refl

pub found_or : (D : ℕ) → unwrap_or (found D) 0 ≡ D
found_or zero = refl
found_or (suc D) = refl
