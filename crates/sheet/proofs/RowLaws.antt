-- Laws of the lent row as its places are written: bounds-length, row_start, row_more; and of what stands in them then: bounds_at, row_at.
use mathlib.Core.Path.{◌≡◌, refl, sym, ap, ◌∙◌}
use mathlib.Core.Logic.{◌⊎◌, inl, inr}
use mathlib.Core.List.{List, [], ◌∷◌, ◌++◌}
use Prim.Native.Nat.{ℕ, zero, suc, ◌+◌, ◌<◌}
use native.Mathlib.Nat.{eq-or-lt_of_le, le_of_suc-le-suc}
use native.Mathlib.Numerals.{add-one}
use native.Mathlib.Omega.{arith}
use lib.ListN.{length, get_or, set, length-append, get_or-append}
use lib.Seq.{get_or_at}
use Rattle.lent.specs.Over.{over}
use Rattle.lent.proofs.Replace.{over_nil, over_more}
use Rattle.table.specs.declared.Table.{Table}
use Rattle.sheet.specs.Sheet.{bounds_to}
use Rattle.levels.specs.Levels.{bound_of}

pub bounds-length : (t : Table) (i : ℕ) → length (bounds_to t i) ≡ i
unfolding bounds_to
bounds-length t zero = refl
bounds-length t (suc i) = omega (arith, length-append (bounds_to t i) (bound_of t i ∷ []), bounds-length t i)

pub bounds_at : (t : Table) (k i : ℕ) → i < k → get_or (bounds_to t k) i 0 ≡ bound_of t i
unfolding bounds_to
bounds_at t zero i l = absurd (omega arith)
bounds_at t (suc k) i l = go (eq-or-lt_of_le (le_of_suc-le-suc l)) (bounds_at t k i)
  where
    go : (i ≡ k) ⊎ (i < k) → (i < k → get_or (bounds_to t k) i 0 ≡ bound_of t i) → get_or (bounds_to t k ++ (bound_of t k ∷ [])) i 0 ≡ bound_of t i
    go (inl e) w = rw e (get_or_at (bounds_to t k) (bound_of t k) [] 0 k (bounds-length t k))
    go (inr m) w = get_or-append (bounds_to t k) (bound_of t k ∷ []) 0 i (omega (arith, bounds-length t k)) ∙ w m

module _ (t : Table) (row : List ℕ) where
  pub row_start : row ≡ over row 0 (bounds_to t 0)
  unfolding bounds_to
  row_start = sym (over_nil row 0)

  -- one bound more
  pub row_more : (i : ℕ) → i < length row → set (over row 0 (bounds_to t i)) i (bound_of t i) ≡ over row 0 (bounds_to t (i + 1))
  unfolding bounds_to
  row_more i h =
      let e : 0 + length (bounds_to t i) ≡ i = omega (arith, bounds-length t i) in
      over_more row 0 (bounds_to t i) (bound_of t i) i e h ∙ ap (λ (k : ℕ). over row 0 (bounds_to t k)) (sym (add-one i))

  -- place i holds the bound of slot i
  pub row_at : (k i : ℕ) → i < k → get_or (over row 0 (bounds_to t k)) i 0 ≡ bound_of t i
  unfolding over
  row_at k i l = get_or-append (bounds_to t k) _ 0 i (omega (arith, bounds-length t k)) ∙ bounds_at t k i l
