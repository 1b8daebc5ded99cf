-- The state that bytes hold, test by test. Assumes nothing.
-- none_in, is_in: by the layout. laid_none, laid_some: what an unpacked state says. not_zero, part_refused, part_read: the tests.
use mathlib.Core.Path.{◌≡◌, refl, sym, ap, ◌∙◌}
use mathlib.Core.Bool.{Bool, true, false, not}
use mathlib.Core.Logic.{◌≢◌}
use mathlib.Core.List.{List}
use Prim.Native.Nat.{ℕ}
use borrow.Author.Tests.{not-true}
use Rattle.ranges.proofs.EveryLaws.{never_both}
use Rattle.std.specs.Prelude.{Ok, Err, Option, Some, None, is_some, unwrap_or}
use Rattle.table.specs.declared.Refusal.{Refusal}
use Rattle.table.specs.declared.Table.{Table}
use Rattle.table.specs.Values.{unless}
use Rattle.table.proofs.RefusalLaws.{err_refused, ok_passed}
use Rattle.reader.specs.Format.{table_at, read_fault}
use Rattle.executor.specs.declared.Machine.{Machine}
use Rattle.layout.specs.Layout.{table_part, laid_out, unpacked}
use Rattle.layout.specs.Parts.{machine_in}
use Rattle.layout.proofs.LayoutLaws.{Laid, laid, laid_out_lem}

pub none_in : (b : List ℕ) → (Laid b → ⊥) → None ≡ machine_in b
unfolding machine_in
none_in b h = go (laid_out b) refl
  where
    go : (x : Bool) → laid_out b ≡ x → None ≡ machine_in b
    go true e = absurd (h (laid b e))
    go false e = rw (e, machine_in)

pub is_in : (b : List ℕ) → Laid b → Some (unpacked b) ≡ machine_in b
unfolding machine_in
is_in b l = rw (laid_out_lem b l, machine_in)

some_where : (b : List ℕ) → is_some (machine_in b) ≡ laid_out b
unfolding machine_in
some_where b = go (laid_out b) refl
  where
    go : (x : Bool) → laid_out b ≡ x → is_some (machine_in b) ≡ x
    go true e = rw (e, machine_in)
    go false e = rw (e, machine_in)

pub laid_none : (b : List ℕ) → None ≡ machine_in b → laid_out b ≡ false
laid_none b e = sym (some_where b) ∙ sym (ap is_some e)

pub laid_some : (b : List ℕ) (m : Machine) → Some m ≡ machine_in b → Laid b × (m ≡ unpacked b)
laid_some b m e =
    let l : Laid b = laid b (sym (some_where b) ∙ sym (ap is_some e)) in
    (l, ap (λ (o : Option Machine). unwrap_or o m) (e ∙ sym (is_in b l)))

-- a test for zeros that fails
pub not_zero : (x y : Bool) → x ≡ y → not x ≡ true → y ≡ true → ⊥
not_zero x y e f g = never_both x (e ∙ g) (not-true x f)

-- a table read from its own part
pub part_refused : (b : List ℕ) {r : Refusal} → unless (read_fault (table_part b)) (table_at (table_part b)) ≡ Err r → (read_fault (table_part b)).number ≢ 0
part_refused b e = (err_refused _ _ _ e).1

pub part_read : (b : List ℕ) {t : Table} → unless (read_fault (table_part b)) (table_at (table_part b)) ≡ Ok t
    → (t ≡ table_at (table_part b)) × ((read_fault (table_part b)).number ≡ 0)
part_read b e = ok_passed _ _ _ e
