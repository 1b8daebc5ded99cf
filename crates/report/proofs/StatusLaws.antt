-- Whatever was written and refused, the status is one of the three, and the third where not all was written.
use mathlib.Core.Path.{◌≡◌, ap}
use mathlib.Core.Bool.{Bool, true, false}
use Prim.Native.Nat.{◌≤◌}
use native.Mathlib.Omega.{arith}
use lib.Dec.{eqb}
use Rattle.table.specs.declared.Refusal.{Refusal}
use Rattle.report.specs.declared.Printed.{Printed}
use Rattle.report.specs.Status.{status_by, status_of, whole, refused, failed}

pub status_most : (w : Bool) (x : Refusal) → status_by w x ≤ failed
unfolding status_by
status_most false x = omega arith
status_most true x = go (eqb x.number 0)
  where
    go : (a : Bool) → elim a [ true ↦ whole | false ↦ refused ] ≤ failed
    go false = omega arith
    go true = omega arith

pub printed_most : (p : Printed) → status_of p ≤ failed
unfolding status_of
printed_most p = status_most p.written p.sheet.refusal

pub unwritten : (w : Bool) (x : Refusal) → w ≡ false → status_by w x ≡ failed
unfolding status_by
unwritten w x e = ap (λ v. status_by v x) e

pub unwritten_of : (p : Printed) → p.written ≡ false → status_of p ≡ failed
unfolding status_of
unwritten_of p e = unwritten p.written p.sheet.refusal e
