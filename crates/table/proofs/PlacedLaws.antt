-- Sixteen places, of which the first n are filled. Assumes nothing.
-- placed-length: how many they are. placed_in, placed_out: the place of a slot below n, and of one beyond. headless_more: one place more, as a loop fills them.
use mathlib.Core.Path.{◌≡◌, sym, ap, ap₂, ◌∙◌}
use mathlib.Core.Logic.{◌⊎◌, inl, inr}
use Prim.Native.Nat.{ℕ, zero, suc, ◌+◌, ◌≤◌, ◌<◌}
use native.Mathlib.Nat.{eq-or-lt_of_le, le_of_suc-le-suc}
use native.Mathlib.Numerals.{add-one}
use native.Mathlib.Omega.{arith}
use lib.ListN.{length, get_or, set, length-set, length-replicate, get_or-replicate}
use lib.Seq.{get_or-set_same, get_or-set_other}
use Rattle.numbers.specs.Numbers.{places}
use Rattle.table.specs.declared.Callback.{Callback}
use Rattle.table.specs.declared.Table.{Table}
use Rattle.table.specs.Values.{with_callbacks, blank, placed, headless, vacant}

module _ (f : ℕ → Callback) where
  pub placed-length : (n : ℕ) → length (placed f n) ≡ places
  unfolding placed
  placed-length zero = length-replicate places blank
  placed-length (suc n) = length-set (placed f n) n (f n) ∙ placed-length n

  pub placed_in : (n i : ℕ) → n ≤ places → i < n → get_or (placed f n) i vacant ≡ f i
  unfolding placed
  placed_in zero i h l = absurd (omega arith)
  placed_in (suc n) i h l = go (eq-or-lt_of_le (le_of_suc-le-suc l)) (λ k. placed_in n i (omega arith) k)
    where
      go : (i ≡ n) ⊎ (i < n) → (i < n → get_or (placed f n) i vacant ≡ f i) → get_or (set (placed f n) n (f n)) i vacant ≡ f i
      go (inl e) w = rw e (get_or-set_same (placed f n) n (f n) vacant (omega (arith, placed-length n)))
      go (inr k) w = get_or-set_other (placed f n) n i (f n) vacant (λ q. omega arith) ∙ w k

  pub placed_out : (n i : ℕ) → n ≤ i → i < places → get_or (placed f n) i vacant ≡ blank
  unfolding placed
  placed_out zero i h l = get_or-replicate places i blank vacant l
  placed_out (suc n) i h l = get_or-set_other (placed f n) n i (f n) vacant (λ q. omega arith) ∙ placed_out n i (omega arith) l

  pub headless_more : (n : ℕ) (t : Table) → t ≡ headless (placed f n) → (c : Callback) → c ≡ f n
      → with_callbacks t (set t.callbacks n c) ≡ headless (placed f (n + 1))
  unfolding placed
  headless_more n t so c e =
      ap₂ (λ (u : Table) (d : Callback). with_callbacks u (set u.callbacks n d)) so e ∙ ap (λ (k : ℕ). headless (placed f k)) (sym (add-one n))
