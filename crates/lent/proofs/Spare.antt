-- Whether a run of bytes is zero goes by each of them, so by what is written and what is kept. Assumes nothing.
-- zeros_at, zeros_all: byte by byte. zeros-same: of bytes that are the same. or_zero, zeros-none, zeros_more: the bytes taken together by `|`. zeros_part: as a list.
-- zeros-numbers, numbers-zeros: as a field of single bytes.
use mathlib.Core.Path.{◌≡◌, sym, ap, ap₂, ◌∙◌}
use mathlib.Core.Bool.{Bool, true, ◌&&◌}
use mathlib.Core.List.{List}
use Prim.Native.Nat.{ℕ, suc, ◌≤◌, ◌<◌, ◌+◌, ◌*◌, ◌-◌}
use native.Mathlib.Decide.{ℕ_discrete}
use native.Mathlib.Omega.{arith}
use lib.ListN.{length, get_or, take, drop, replicate, length-replicate, length-drop, get_or-replicate}
use lib.Seq.{ext_get_or, length-take-le, get_or-take, get_or-drop}
use lib.Bits.{bit_or, or_zero_l, or_add_and, and_le_r}
use lib.Dec.{eqb}
use borrow.Author.Tests.{eq-eqb, ne_eqb, eqb-true}
use Rattle.ranges.specs.Every.{every}
use Rattle.ranges.proofs.EveryLaws.{every_at, every_all, every-same}
use Rattle.lent.specs.Bytes.{numbers, zeros}
use Rattle.lent.proofs.Numbers.{numbers_at, length-numbers}

-- each byte of a run of zeros
pub zeros_at : (b : List ℕ) (k n i : ℕ) → zeros b k n ≡ true → i < n → get_or b (k + i) 0 ≡ 0
unfolding zeros
zeros_at b k n i e l = eqb-true _ 0 (every_at (λ i. eqb (get_or b (k + i) 0) 0) n e i l)

-- a run of which each byte is zero
pub zeros_all : (b : List ℕ) (k n : ℕ) → ((i : ℕ) → i < n → get_or b (k + i) 0 ≡ 0) → zeros b k n ≡ true
unfolding zeros
zeros_all b k n each = every_all (λ i. eqb (get_or b (k + i) 0) 0) n (λ i l. eq-eqb _ 0 (each i l))

-- runs of the same bytes
pub zeros-same : (b c : List ℕ) (k n : ℕ) → ((i : ℕ) → k ≤ i → i < k + n → get_or b i 0 ≡ get_or c i 0) → zeros b k n ≡ zeros c k n
unfolding zeros
zeros-same b c k n h =
    every-same (λ i. eqb (get_or b (k + i) 0) 0) (λ i. eqb (get_or c (k + i) 0) 0) n (λ i l. ap (λ (x : ℕ). eqb x 0) (h (k + i) (omega arith) (omega arith)))

-- ---- the bytes from k up to but not including a place, taken together by `|`

-- two numbers taken together are zero where both are
or_zero : (a x : ℕ) → eqb (bit_or a x) 0 ≡ (eqb a 0 && eqb x 0)
or_zero a x = go (ℕ_discrete a 0)
  where
    go : Dec (a ≡ 0) → eqb (bit_or a x) 0 ≡ (eqb a 0 && eqb x 0)
    go (yes z) = ap (λ (y : ℕ). eqb (bit_or y x) 0) z ∙ ap (λ (y : ℕ). eqb y 0) (or_zero_l x) ∙ sym (ap (λ (c : Bool). c && eqb x 0) (eq-eqb a 0 z))
    go (no h) = ne_eqb (bit_or a x) 0 (λ z. h (omega (arith, or_add_and a x, and_le_r a x))) ∙ sym (ap (λ (c : Bool). c && eqb x 0) (ne_eqb a 0 h))

-- none yet
pub zeros-none : (b : List ℕ) (k : ℕ) → eqb 0 0 ≡ zeros b k (k - k)
zeros-none b k = sym (zeros_all b k (k - k) (λ i l. absurd (omega arith)))

-- one byte more
pub zeros_more : (b : List ℕ) (k i a : ℕ) → k ≤ i → eqb a 0 ≡ zeros b k (i - k) → eqb (bit_or a (get_or b i 0)) 0 ≡ zeros b k (i + 1 - k)
unfolding zeros every
zeros_more b k i a h e =
    let at : i ≡ k + (i - k) = omega arith in
    let more : suc (i - k) ≡ i + 1 - k = omega arith in
    or_zero a (get_or b i 0) ∙ ap₂ ◌&&◌ e (ap (λ (j : ℕ). eqb (get_or b j 0) 0) at) ∙ ap (zeros b k) more

-- ---- as lists

pub zeros_part : (b : List ℕ) (k n : ℕ) → k + n ≤ length b → zeros b k n ≡ true → take n (drop k b) ≡ replicate n 0
zeros_part b k n h e =
    let l : length (take n (drop k b)) ≡ n = length-take-le n (drop k b) (simp length-drop (omega arith)) in
    ext_get_or 0 (take n (drop k b)) (replicate n 0) (l ∙ sym (length-replicate n 0))
    (λ i q.
    let r : i < n = omega arith in
    get_or-take n (drop k b) i 0 r ∙ get_or-drop k b i 0 ∙ zeros_at b k n i e r ∙ sym (get_or-replicate n i 0 0 r))

module _ (b : List ℕ) (k o n : ℕ) where
  -- byte i of the field
  byte_at : (i : ℕ) → i < n → get_or (numbers 1 b k o n) i 0 ≡ get_or b (k + o + i) 0
  byte_at i l = let e : k + (o + 1 * i) ≡ k + o + i = omega arith in numbers_at 1 b k o n i l ∙ ap (λ (j : ℕ). get_or b j 0) e

  pub zeros-numbers : zeros b (k + o) n ≡ true → numbers 1 b k o n ≡ replicate n 0
  zeros-numbers e =
      ext_get_or 0 (numbers 1 b k o n) (replicate n 0) (length-numbers 1 b k o n ∙ sym (length-replicate n 0))
      (λ i l.
      let r : i < n = omega (arith, length-numbers 1 b k o n) in
      byte_at i r ∙ zeros_at b (k + o) n i e r ∙ sym (get_or-replicate n i 0 0 r))

  pub numbers-zeros : numbers 1 b k o n ≡ replicate n 0 → zeros b (k + o) n ≡ true
  numbers-zeros e = zeros_all b (k + o) n (λ i l. sym (byte_at i l) ∙ ap (λ (x : List ℕ). get_or x i 0) e ∙ get_or-replicate n i 0 0 l)
