-- 16: the test of a crowded head is the definition's. Assumes nothing.
use mathlib.Core.Path.{◌≡◌, sym, ap, ◌∙◌}
use mathlib.Core.Bool.{Bool, ◌&&◌}
use mathlib.Core.List.{List}
use Prim.Native.Nat.{ℕ, ◌<◌}
use native.Mathlib.Decide.{ℕ_discrete}
use lib.Dec.{eqb, ltb}
use lib.ListN.{get_or}
use borrow.Author.Tests.{ne_eqb}
use Rattle.numbers.specs.Numbers.{most_waiting}
use Rattle.table.specs.declared.Table.{Table}
use Rattle.table.specs.Values.{callback_at}
use Rattle.table.specs.Links.{is_head}
use Rattle.chains.specs.Chains.{head_of}
use Rattle.windows.specs.Bounds.{arrivals_of}
use Rattle.windows.specs.Parts.{head_arrivals, Headed}
use Rattle.windows.proofs.TableLaws.{head_own}
use Rattle.sheet.specs.Parts.{crowded_by}

-- the test of 16 for one slot
abbrev pub crowded : Table → ℕ → ℕ → Bool
crowded t w i = is_head t i && ltb most_waiting (arrivals_of t i w)

module _ (t : Table) (heads : List ℕ) (ready : Headed t heads) (i : ℕ) (below : i < t.count) where
  pub crowded_at : (w : ℕ) → crowded_by (callback_at t i) i (get_or heads i 0) w ≡ crowded t w i
  unfolding crowded_by arrivals_of
  crowded_at w = ap (λ (h : ℕ). eqb h i && ltb most_waiting (head_arrivals (callback_at t i) w)) (ready.headed i below) ∙ go (ℕ_discrete (head_of t i) i) ∙ ap (λ (b : Bool). b && ltb most_waiting (head_arrivals (callback_at t (head_of t i)) w)) (sym (head_own t ready.sound i below))
    where
      go : Dec (head_of t i ≡ i)
          → (eqb (head_of t i) i && ltb most_waiting (head_arrivals (callback_at t i) w)) ≡ (eqb (head_of t i) i && ltb most_waiting (head_arrivals (callback_at t (head_of t i)) w))
      go (yes e) = ap (λ (h : ℕ). eqb (head_of t i) i && ltb most_waiting (head_arrivals (callback_at t h) w)) (sym e)
      go (no p) = rw (ne_eqb (head_of t i) i p)
