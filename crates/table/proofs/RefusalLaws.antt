-- Refusals one after the other. Assumes nothing.
-- first_refused, first_passed, both_passed, first_alike: the first of two. refused, passed: what a refusal leaves; refused_first, passed_first: of two.
-- lowest-refused, lowest_passed, lowest_zero: one that names the callback found.
use mathlib.Core.Path.{◌≡◌, refl, sym, ap, ap₂, ◌∙◌}
use mathlib.Core.Logic.{◌≢◌}
use mathlib.Core.Bool.{Bool, true, false}
use Prim.Native.Nat.{ℕ, zero, suc}
use native.Mathlib.Decide.{ℕ_discrete}
use borrow.Author.Tests.{eq-eqb, ne_eqb}
use Rattle.table.specs.declared.Refusal.{Refusal}
use Rattle.std.specs.Prelude.{Result, Ok, Err}
use Rattle.table.specs.Values.{refuse, or_else, unless, lowest_refused}

pub first_refused : (r s : Refusal) → r.number ≢ 0 → or_else r s ≡ r
first_refused r s h = ap (λ (b : Bool). elim b as (λ _. Refusal) [ true ↦ s | false ↦ r ]) (ne_eqb r.number 0 h)

pub first_passed : (r s : Refusal) → r.number ≡ 0 → or_else r s ≡ s
first_passed r s e = ap (λ (b : Bool). elim b as (λ _. Refusal) [ true ↦ s | false ↦ r ]) (eq-eqb r.number 0 e)

pub both_passed : (r s : Refusal) → (or_else r s).number ≡ 0 → (r.number ≡ 0) × (s.number ≡ 0)
both_passed r s ok = go (ℕ_discrete r.number 0)
  where
    go : Dec (r.number ≡ 0) → (r.number ≡ 0) × (s.number ≡ 0)
    go (yes e) = (e, ap (λ (x : Refusal). x.number) (sym (first_passed r s e)) ∙ ok)
    go (no h) = absurd (h (ap (λ (x : Refusal). x.number) (sym (first_refused r s h)) ∙ ok))

-- the second is looked at where the first does not refuse
pub first_alike : (r s x y : Refusal) → r ≡ x → (r.number ≡ 0 → s ≡ y) → or_else r s ≡ or_else x y
first_alike r s x y e f = go (ℕ_discrete r.number 0)
  where
    go : Dec (r.number ≡ 0) → or_else r s ≡ or_else x y
    go (yes z) = ap₂ or_else e (f z)
    go (no h) = first_refused r s h ∙ e ∙ sym (first_refused x y (λ z. h (ap (λ (q : Refusal). q.number) e ∙ z)))

pub lowest-refused : (n x : ℕ) (r : Refusal) → x ≢ 0 → lowest_refused n x r ≡ refuse n x
lowest-refused n zero r h = absurd (h refl)
lowest-refused n (suc x) r h = refl

pub lowest_passed : (n x : ℕ) (r : Refusal) → x ≡ 0 → lowest_refused n x r ≡ r
lowest_passed n x r e = rw e

pub lowest_zero : (n x : ℕ) (r : Refusal) → n ≢ 0 → (lowest_refused n x r).number ≡ 0 → (x ≡ 0) × (r.number ≡ 0)
lowest_zero n zero r h e = (refl, e)
lowest_zero n (suc x) r h e = absurd (h e)

pub refused : {A : Type 0} (r : Refusal) (x : A) → r.number ≢ 0 → unless r x ≡ Err r
refused {A} r x h = ap (λ (b : Bool). elim b as (λ _. Result A Refusal) [ true ↦ Ok x | false ↦ Err r ]) (ne_eqb r.number 0 h)

pub passed : {A : Type 0} (r : Refusal) (x : A) → r.number ≡ 0 → unless r x ≡ Ok x
passed {A} r x e = ap (λ (b : Bool). elim b as (λ _. Result A Refusal) [ true ↦ Ok x | false ↦ Err r ]) (eq-eqb r.number 0 e)

-- `?` after the first of two
pub refused_first : {A : Type 0} (r s : Refusal) (x : A) → r.number ≢ 0 → unless (or_else r s) x ≡ Err r
refused_first r s x h = ap (λ (q : Refusal). unless q x) (first_refused r s h) ∙ refused r x h

pub passed_first : {A : Type 0} (r s : Refusal) (x : A) → r.number ≡ 0 → unless (or_else r s) x ≡ unless s x
passed_first r s x e = ap (λ (q : Refusal). unless q x) (first_passed r s e)

-- what a call with `unless` for its result says where it gave this or that
pub err_refused : {A : Type 0} (r q : Refusal) (x : A) → unless r x ≡ Err q → (q ≡ r) × (r.number ≢ 0)
err_refused {A} r q x h = go (ℕ_discrete r.number 0)
  where
    go : Dec (r.number ≡ 0) → (q ≡ r) × (r.number ≢ 0)
    go (yes e) = (let k = passed r x e in cc, λ _. let k = passed r x e in cc)
    go (no n) = (let k = refused r x n in cc, n)

pub ok_passed : {A : Type 0} (r : Refusal) (x y : A) → unless r x ≡ Ok y → (y ≡ x) × (r.number ≡ 0)
ok_passed {A} r x y h = go (ℕ_discrete r.number 0)
  where
    go : Dec (r.number ≡ 0) → (y ≡ x) × (r.number ≡ 0)
    go (yes e) = (let k = passed r x e in cc, e)
    go (no n) = (let k = refused r x n in cc, let k = refused r x n in cc)
