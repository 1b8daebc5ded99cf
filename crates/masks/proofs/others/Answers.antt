-- `others` meets its contract: `1 << n` does not wrap, and `all & !mask` is in all and not in the mask. Assumes nothing.
use mathlib.Core.Path.{ap, ◌∙◌}
use Prim.Native.Nat.{ℕ, ◌-◌}
use native.Mathlib.Omega.{arith}
use lib.Bits.{bit_and}
use Rattle.masks.proofs.Operators.{and_not, one_shl_32}
use Rattle.masks.proofs.others.Goals as goal

pub returns : goal.returns
returns c =
    let a = c.args in
    let l = one_shl_32 a.n c.requires in
    ap (λ (x : ℕ). bit_and (x - 1) (65535 - a.mask)) l.0 ∙ and_not 16 _ a.mask (omega (arith, l)) c.ranges.mask.fits
