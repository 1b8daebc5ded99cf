-- Laws of over: its length, one place more, two parts one behind the other, a copy as it goes on, a part lent and given back, what stands behind it, and each place before and behind it. Assumes nothing.
use mathlib.Core.Path.{◌≡◌, sym, ap, ap₂, ◌∙◌}
use mathlib.Core.List.{List, [], ◌∷◌, ◌++◌, append_assoc, append-nil}
use Prim.Native.Nat.{ℕ, suc, ◌≤◌, ◌<◌, ◌+◌, ◌-◌}
use native.Mathlib.Numerals.{add-one}
use native.Mathlib.Nat.{add-zero}
use native.Mathlib.Omega.{arith}
use lib.ListN.{length, take, drop, set, get_or, length-append, length-drop, take-append-drop, drop_of_length-le, get_or-append}
use lib.Seq.{drop-cons, set_at, length-take-le, take_at, drop_at, drop-drop, take-suc, get_or-take, get_or-drop}
use Rattle.lent.specs.Over.{over}

module _ (b : List ℕ) (k : ℕ) where
  -- nothing written
  pub over_nil : over b k [] ≡ b
  unfolding over
  over_nil = ap (λ (j : ℕ). take k b ++ drop j b) (add-zero k) ∙ take-append-drop k b

  -- as long as before
  pub over-length : (vs : List ℕ) → k + length vs ≤ length b → length (over b k vs) ≡ length b
  unfolding over
  over-length vs h =
      omega (
        arith,
        length-append (take k b) (vs ++ drop (k + length vs) b),
        length-append vs (drop (k + length vs) b),
        length-drop (k + length vs) b,
        length-take-le k b (omega arith),
      )

  head_length : (vs : List ℕ) → k + length vs ≤ length b → length (take k b ++ vs) ≡ k + length vs
  head_length vs h = omega (arith, length-append (take k b) vs, length-take-le k b (omega arith))

  -- one element more
  pub over_more : (vs : List ℕ) (x n : ℕ) → k + length vs ≡ n → n < length b → set (over b k vs) n x ≡ over b k (vs ++ (x ∷ []))
  unfolding over
  over_more vs x n e h =
      let j : suc n ≡ k + length (vs ++ (x ∷ [])) = omega (arith, length-append vs (x ∷ [])) in
      ap (λ (l : List ℕ). set l n x)
      (sym (append_assoc (take k b) vs (drop (k + length vs) b))
      ∙ ap (λ (l : List ℕ). (take k b ++ vs) ++ l) (ap (λ (j : ℕ). drop j b) e ∙ drop-cons b n 0 h))
      ∙ set_at (take k b ++ vs) _ (drop (suc n) b) x n (head_length vs (omega arith) ∙ e)
      ∙ append_assoc (take k b) vs (x ∷ drop (suc n) b)
      ∙ ap (λ (l : List ℕ). take k b ++ l)
      (sym (append_assoc vs (x ∷ []) (drop (suc n) b))
      ∙ ap (λ (j : ℕ). (vs ++ (x ∷ [])) ++ drop j b) j)

  -- a second run right behind the first
  pub over-over : (vs ws : List ℕ) (n : ℕ) → k + length vs ≡ n → n + length ws ≤ length b → over (over b k vs) n ws ≡ over b k (vs ++ ws)
  unfolding over
  over-over vs ws n e h =
      let l : over b k vs ≡ (take k b ++ vs) ++ drop n b =
      sym (append_assoc (take k b) vs (drop (k + length vs) b)) ∙ ap (λ (j : ℕ). (take k b ++ vs) ++ drop j b) e in
      let p : length (take k b ++ vs) ≡ n = head_length vs (omega arith) ∙ e in
      let j : n + length ws ≡ k + length (vs ++ ws) = omega (arith, length-append vs ws) in
      let t : take n (over b k vs) ≡ take k b ++ vs = ap (take n) l ∙ take_at (take k b ++ vs) (drop n b) n p in
      let d : drop (n + length ws) (over b k vs) ≡ drop (k + length (vs ++ ws)) b =
      sym (drop-drop (length ws) n (over b k vs))
      ∙ ap (drop (length ws)) (ap (drop n) l ∙ drop_at (take k b ++ vs) (drop n b) n p)
      ∙ drop-drop (length ws) n b
      ∙ ap (λ (j : ℕ). drop j b) j in
      ap₂ (λ (x y : List ℕ). x ++ (ws ++ y)) t d
      ∙ append_assoc (take k b) vs (ws ++ drop (k + length (vs ++ ws)) b)
      ∙ ap (λ (x : List ℕ). take k b ++ x) (sym (append_assoc vs ws (drop (k + length (vs ++ ws)) b)))

  -- a copy, one element more
  pub over-take : (ws : List ℕ) (i : ℕ) → i < length ws → k + i < length b
      → set (over b k (take i ws)) (k + i) (get_or ws i 0) ≡ over b k (take (i + 1) ws)
  over-take ws i h l =
      over_more (take i ws) (get_or ws i 0) (k + i) (ap (λ (j : ℕ). k + j) (length-take-le i ws (omega arith))) l
      ∙ ap (over b k) (sym (take-suc ws i 0 h) ∙ ap (λ (j : ℕ). take j ws) (sym (add-one i)))

-- a part lent and given back with other elements
pub over-part : (b vs : List ℕ) (k n : ℕ) → n ≡ length vs → take k b ++ (vs ++ drop n (drop k b)) ≡ over b k vs
unfolding over
over-part b vs k n e = ap (λ (l : List ℕ). take k b ++ (vs ++ l)) (drop-drop n k b ∙ ap (λ (j : ℕ). drop (k + j) b) e)

-- all of it
pub over_all : (b vs : List ℕ) → length vs ≡ length b → over b 0 vs ≡ vs
unfolding over
over_all b vs e =
    let h : length b ≤ 0 + length vs = omega arith in
    ap (λ (l : List ℕ). vs ++ l) (drop_of_length-le b h) ∙ append-nil vs

-- a part's own elements, written again
pub over_own : (b : List ℕ) (k n : ℕ) → k + n ≤ length b → over b k (take n (drop k b)) ≡ b
unfolding over
over_own b k n h =
    let l : length (take n (drop k b)) ≡ n = length-take-le n (drop k b) (simp length-drop (omega arith)) in
    ap (λ (j : ℕ). take k b ++ (take n (drop k b) ++ drop (k + j) b)) l
    ∙ ap (λ (x : List ℕ). take k b ++ (take n (drop k b) ++ x)) (sym (drop-drop n k b))
    ∙ ap (λ (x : List ℕ). take k b ++ x) (take-append-drop n (drop k b))
    ∙ take-append-drop k b

-- what stands behind a part that is replaced is kept
module _ (b : List ℕ) (k : ℕ) (vs : List ℕ) (fits : k + length vs ≤ length b) where
  behind : drop (k + length vs) (over b k vs) ≡ drop (k + length vs) b
  unfolding over
  behind =
      ap (drop (k + length vs)) (sym (append_assoc (take k b) vs (drop (k + length vs) b)))
      ∙ drop_at (take k b ++ vs) (drop (k + length vs) b) (k + length vs) (head_length b k vs fits)

  pub part_after : (j n : ℕ) → k + length vs ≤ j → take n (drop j (over b k vs)) ≡ take n (drop j b)
  part_after j n h =
      let e : k + length vs + (j - (k + length vs)) ≡ j = omega arith in
      ap (take n)
      (ap (λ (i : ℕ). drop i (over b k vs)) (sym e)
      ∙ sym (drop-drop (j - (k + length vs)) (k + length vs) (over b k vs))
      ∙ ap (drop (j - (k + length vs))) behind
      ∙ drop-drop (j - (k + length vs)) (k + length vs) b
      ∙ ap (λ (i : ℕ). drop i b) e)

  -- each place before the part, and behind it
  pub over_before : (j : ℕ) → j < k → get_or (over b k vs) j 0 ≡ get_or b j 0
  unfolding over
  over_before j l = get_or-append (take k b) _ 0 j (omega (arith, length-take-le k b (omega arith))) ∙ get_or-take k b j 0 l

  pub over_behind : (j : ℕ) → k + length vs ≤ j → get_or (over b k vs) j 0 ≡ get_or b j 0
  over_behind j l =
      let n : ℕ = k + length vs in
      let e : k + length vs + (j - (k + length vs)) ≡ j = omega arith in
      ap (λ (i : ℕ). get_or (over b k vs) i 0) (sym e)
      ∙ sym (get_or-drop n (over b k vs) (j - n) 0)
      ∙ ap (λ (x : List ℕ). get_or x (j - n) 0) behind
      ∙ get_or-drop n b (j - n) 0
      ∙ ap (λ (i : ℕ). get_or b i 0) e
