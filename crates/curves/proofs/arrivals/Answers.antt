-- `arrivals` meets its contract: the smaller of the two roundings is the definition's, and no more than the length.
use Prim.Native.Nat.{◌+◌}
use native.Mathlib.Omega.{arith}
use Rattle.curves.specs.Arrivals.{arrivals}
use Rattle.curves.proofs.ArrivalsLaws.{ceiling_is, arrivals-some, arrivals-le}
use Rattle.curves.proofs.arrivals.Goals as goal

pub returns-then-length-eq0 : goal.returns-then-length-eq0
unfolding arrivals
returns-then-length-eq0 c = (rw c.if-length-eq0.true, omega arith)

pub returns : goal.returns
returns c =
    let a = c.args in
    omega (
      arith,
      ceiling_is (a.length + a.jitter) a.period c.requires.0,
      ceiling_is a.length a.distance c.requires.3,
      arrivals-some a.period a.jitter a.distance a.length (omega arith),
      arrivals-le a.period a.jitter a.distance c.requires.0 c.requires.3 a.length,
    )
