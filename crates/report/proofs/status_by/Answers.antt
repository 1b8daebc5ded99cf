-- The status goes by what was written, then by the refusal's number.
use mathlib.Core.Path.{◌≡◌}
use mathlib.Core.Bool.{Bool, true}
use borrow.Author.Tests.{eq-eqb, ne_eqb}
use Rattle.table.specs.declared.Refusal.{Refusal}
use Rattle.report.specs.Status.{status_by, whole, refused}
use Rattle.report.proofs.status_by.Goals as goal

refused_by : (w : Bool) (x : Refusal) → w ≡ true → (x.number ≡ 0 → ⊥) → refused ≡ status_by w x
unfolding status_by
refused_by w x e n = rw e (rw (ne_eqb x.number 0 n, status_by))

whole_by : (w : Bool) (x : Refusal) → w ≡ true → x.number ≡ 0 → whole ≡ status_by w x
unfolding status_by
whole_by w x e z = rw e (rw (eq-eqb x.number 0 z, status_by))

pub returns-then-not-written : goal.returns-then-not-written
unfolding status_by
returns-then-not-written c = simp c.if-not-written.true

pub returns-then-refusal-ne0 : goal.returns-then-refusal-ne0
returns-then-refusal-ne0 c = refused_by _ _ c.if-not-written.false c.if-refusal-ne0.true

pub returns-else-refusal-ne0 : goal.returns-else-refusal-ne0
returns-else-refusal-ne0 c = whole_by _ _ c.if-not-written.false c.if-refusal-ne0.false
