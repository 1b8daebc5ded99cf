-- Whom a completion feeds, as the busy-window argument counts it: fed_next.
use mathlib.Core.Path.{◌≡◌, refl, sym, ap, ◌∙◌, fun_ext}
use mathlib.Core.Logic.{◌≢◌}
use mathlib.Core.Bool.{Bool, true, false}
use Prim.Native.Nat.{ℕ, zero, suc, ◌+◌, ◌<◌}
use native.Mathlib.Nat.{zero-add, add-zero}
use native.Mathlib.Decide.{ℕ_discrete}
use native.Mathlib.Omega.{arith}
use Rattle.ranges.specs.Sum.{sum, given, hit}
use Rattle.ranges.proofs.SumLaws.{sum-none, hit_self, hit_other, hit-none}
use Rattle.table.specs.declared.Table.{Table}
use Rattle.table.specs.Values.{next_of}
use Rattle.table.specs.Links.{linked, next_after}
use Rattle.busy_window.specs.Flow.{fed}
use Rattle.busy_window.proofs.Flow.{fed_zero}

given_zero : (b : Bool) → given b 0 ≡ 0
given_zero true = refl
given_zero false = refl

fed-sum : (t : Table) (n i j : ℕ) → i < n → sum n (λ p. given (linked t p j) (hit (suc i) p)) ≡ given (linked t i j) 1
unfolding sum
fed-sum t zero i j h = absurd (omega arith)
fed-sum t (suc n) i j h = go (ℕ_discrete i n) (fed-sum t n i j)
  where
    -- slots other than i add nothing
    nothing : (p : ℕ) → p ≢ i → given (linked t p j) (hit (suc i) p) ≡ 0
    nothing p d = ap (given (linked t p j)) (hit_other (suc i) p (λ e. d (omega arith))) ∙ given_zero (linked t p j)

    go : Dec (i ≡ n) → (i < n → sum n (λ p. given (linked t p j) (hit (suc i) p)) ≡ given (linked t i j) 1)
        → sum n (λ p. given (linked t p j) (hit (suc i) p)) + given (linked t n j) (hit (suc i) n) ≡ given (linked t i j) 1
    go (yes p) w = rw (sum-none (λ p. given (linked t p j) (hit (suc i) p)) n (λ q l. nothing q (omega arith)), ← p, hit_self, zero-add)
    go (no p) w = rw (w (omega arith), nothing n (λ e. p (omega arith)), add-zero)

fed-hit : (t : Table) (n i j : ℕ) → i < n → fed (linked t) n (hit (suc i)) j ≡ hit (next_of t i) j
unfolding fed hit linked
fed-hit t n i j h = fed-sum t n i j h

fed-none : (t : Table) (n j : ℕ) → fed (linked t) n (hit 0) j ≡ 0
fed-none t n j = ap (λ (f : ℕ → ℕ). fed (linked t) n f j) (fun_ext hit-none) ∙ fed_zero (linked t) n j

-- a completion of index x feeds the next of its callback; 0 where there was none
pub fed_next : (t : Table) (n x j : ℕ) → ((p : ℕ) → x ≡ suc p → p < n) → fed (linked t) n (hit x) j ≡ hit (next_after t x) j
unfolding next_after
fed_next t n zero j h = fed-none t n j ∙ sym (hit-none j)
fed_next t n (suc i) j h = fed-hit t n i j (h i refl)
