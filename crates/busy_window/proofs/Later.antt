-- What follows from a bound R that holds (Answered): the room for bounds whose windows need not begin quiet.
--   settled       what was activated R ticks before is finished
--   queue_depth   after the arrivals of a tick at most a(R) instances are unfinished
--   carried       the instances unfinished at v that start within D ticks are at most a(D + R - 1)
use mathlib.Core.Path.{◌≡◌}
use mathlib.Core.Logic.{◌⊎◌, inl, inr}
use Prim.Native.Nat.{ℕ, zero, suc, ◌+◌, ◌-◌, ◌≤◌, ◌<◌}
use native.Mathlib.Nat.{le_refl, zero-add}
use native.Mathlib.Omega.{arith}
use Rattle.curves.specs.Parts.{Rising}
use Rattle.ranges.proofs.SumLaws.{le_or_lt, mono_upto}
use Rattle.busy_window.specs.Counts.{Counts}
use Rattle.busy_window.specs.Run.{Run}
use Rattle.busy_window.specs.Within.{Within}
use Rattle.busy_window.specs.Bound.{Answered}
use Rattle.busy_window.proofs.Busy.{finished_mono}

module _ (n N : ℕ) (c : Counts) (a e : ℕ → ℕ → ℕ) (s : ℕ → ℕ) (M : ℕ) (fits : M ≤ N) (b : ℕ) (r : Run n M b c)
    (w : Within n N M c a e s) (cv : Rising n a e) (i R : ℕ) (l : i < n) (ans : Answered M c i R) where
  -- what was activated R or more ticks ago has finished
  pub settled : (u t : ℕ) → t ≤ M → u + R ≤ suc t → c.activated i u ≤ c.finished i t
  settled zero t ht h = omega (arith, r.fresh i l, finished_mono n M b c r i 0 t l (omega arith) ht)
  settled (suc u) t ht h = go (le_or_lt (c.activated i (suc u)) (c.activated i u)) (settled u t ht (omega arith))
    where
      go : (c.activated i (suc u) ≤ c.activated i u) ⊎ (c.activated i u < c.activated i (suc u)) → c.activated i u ≤ c.finished i t
          → c.activated i (suc u) ≤ c.finished i t
      go (inl k) p = omega arith
      go (inr k) p = omega (arith, ans u (c.activated i (suc u)) k (le_refl _) (omega arith), finished_mono n M b c r i (u + R) t l (omega arith) ht)

  -- after the arrivals of tick t at most a(R) instances wait
  pub queue_depth : 0 < R → (t : ℕ) → t ≤ M → t < N → c.activated i (suc t) ≤ c.finished i t + a i R
  queue_depth pos t ht hn = go (le_or_lt (suc t) R)
    where
      go : (suc t ≤ R) ⊎ (R < suc t) → c.activated i (suc t) ≤ c.finished i t + a i R
      go (inl k) = omega (
        arith,
        rw zero-add at (w.arrive i 0 (suc t) l (omega arith)),
        r.fresh i l,
        finished_mono n M b c r i 0 t l (omega arith) ht,
        mono_upto (a i) R (λ x _. cv.a_up i x l) (suc t) R k (le_refl R),
      )
      go (inr k) = omega (arith, rw same at (w.arrive i (suc t - R) R l (omega arith)), settled (suc t - R) t ht (omega arith))
        where
          same : suc t - R + R ≡ suc t
          same = omega arith

  -- what is unfinished at v and starts in the D ticks from there
  pub carried : (v D : ℕ) → R ≤ suc v → 0 < R → v + D ≤ M → c.started i (v + D) ≤ c.finished i v + a i (D + R - 1)
  carried v D k pos h = omega (
    arith,
    r.begun i (v + D) l h,
    rw same at (w.arrive i (suc v - R) (D + R - 1) l (omega arith)),
    settled (suc v - R) v (omega arith) (omega arith),
  )
    where
      same : suc v - R + (D + R - 1) ≡ v + D
      same = omega arith
