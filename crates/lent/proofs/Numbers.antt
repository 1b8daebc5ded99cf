-- Numbers in bytes: one, and several of one width. Assumes nothing.
-- get_more: a byte and the rest. past, get_past: behind a prefix. get_part: in a part. get-le, le-get: a number written and read, read and written.
-- numbers_snoc, numbers_at: one number more, and one of them. length_run, length-numbers. numbers-run, run-numbers: several numbers written and read, read and written.
-- numbers-same, numbers-add: of bytes that are the same, and two runs one behind the other.
use mathlib.Core.Path.{◌≡◌, refl, sym, ap, ap₂, ◌∙◌}
use mathlib.Core.List.{List, [], ◌∷◌, ◌++◌, append_assoc, append-nil}
use Prim.Native.Nat.{ℕ, zero, suc, ◌≤◌, ◌<◌, ◌+◌, ◌*◌, ◌/◌, ◌%◌, ◌^◌}
use native.Mathlib.Nat.{add_assoc, add-zero, zero-add, suc-add, mul-suc, mul-zero, pow-suc, div-lt_iff_lt-mul}
use native.Mathlib.Numerals.{add-one}
use native.Mathlib.Omega.{arith}
use lib.Arith.{lt-one}
use lib.Dec.{lit<}
use lib.ListN.{length, get_or, take, drop, length-append}
use lib.Seq.{get_or-append-add, get_or-take, get_or-drop, drop-cons, drop-drop, take-add}
use Rattle.lent.specs.Bytes.{get, le, numbers, run}
use Rattle.lent.specs.Parts.{Below}

-- ---- one number

pub get_more : (w : ℕ) (b : List ℕ) (k : ℕ) → get (suc w) b k ≡ get_or b k 0 + get w b (k + 1) * 256
get_more zero b k = omega arith
get_more (suc w) b k = refl

pub past : (p q : List ℕ) (k n : ℕ) → length p ≡ k → get_or (p ++ q) (k + n) 0 ≡ get_or q n 0
past p q k n e = ap (λ (j : ℕ). get_or (p ++ q) (j + n) 0) (sym e) ∙ get_or-append-add p q n 0

pub get_past : (w : ℕ) (p q : List ℕ) (k n : ℕ) → length p ≡ k → get w (p ++ q) (k + n) ≡ get w q n
get_past zero p q k n e = refl
get_past (suc w) p q k n e =
    get_more w (p ++ q) (k + n)
    ∙ ap₂ (λ (x y : ℕ). x + y * 256) (past p q k n e) (ap (get w (p ++ q)) (add_assoc k n 1) ∙ get_past w p q k (n + 1) e)
    ∙ sym (get_more w q n)

-- in a part of the bytes
pub get_part : (w n : ℕ) (b : List ℕ) (k o : ℕ) → o + w ≤ n → get w (take n (drop k b)) o ≡ get w b (k + o)
get_part zero n b k o h = refl
get_part (suc w) n b k o h =
    get_more w (take n (drop k b)) o
    ∙ ap₂ (λ (x y : ℕ). x + y * 256)
    (get_or-take n (drop k b) o 0 (omega arith) ∙ get_or-drop k b o 0)
    (get_part w n b k (o + 1) (omega arith) ∙ ap (get w b) (sym (add_assoc k o 1)))
    ∙ sym (get_more w b (k + o))

pub get-le : (w x : ℕ) (q : List ℕ) → x < 256 ^ w → get w (le w x ++ q) 0 ≡ x
get-le zero x q h = sym (lt-one h)
get-le (suc w) x q h =
    get_more w (le (suc w) x ++ q) 0
    ∙ ap (λ (y : ℕ). x % 256 + y * 256) (get_past w (x % 256 ∷ []) (le w (x / 256) ++ q) 1 0 refl ∙ get-le w (x / 256) q rest)
    ∙ parts
  where
    rest : x / 256 < 256 ^ w
    rest = (div-lt_iff_lt-mul {x = x} {y = 256 ^ w} (lit< {m = 0} {n = 256} tt)).1 (omega (arith, pow-suc 256 w))

    parts : x % 256 + x / 256 * 256 ≡ x
    parts = omega arith

pub length-le : (w x : ℕ) → length (le w x) ≡ w
length-le zero x = refl
length-le (suc w) x = ap suc (length-le w (x / 256))

module _ (b : List ℕ) (bytes : (i : ℕ) → get_or b i 0 < 256) where
  pub le-get : (w k : ℕ) → k + w ≤ length b → le w (get w b k) ≡ take w (drop k b)
  le-get zero k h = refl
  le-get (suc w) k h =
      ap (le (suc w)) (get_more w b k)
      ∙ ap₂ ◌∷◌ low (ap (le w) high ∙ le-get w (k + 1) (omega arith))
      ∙ sym (ap (take (suc w)) (drop-cons b k 0 (omega arith) ∙ ap (λ (j : ℕ). get_or b k 0 ∷ drop j b) (sym (add-one k))))
    where
      low : (get_or b k 0 + get w b (k + 1) * 256) % 256 ≡ get_or b k 0
      low = omega (arith, bytes k)

      high : (get_or b k 0 + get w b (k + 1) * 256) / 256 ≡ get w b (k + 1)
      high = omega (arith, bytes k)

-- ---- several

pub numbers_snoc : (w : ℕ) (b : List ℕ) (k o n : ℕ) → numbers w b k o (suc n) ≡ numbers w b k o n ++ (get w b (k + (o + w * n)) ∷ [])
unfolding numbers
numbers_snoc w b k o zero = let e : o ≡ o + w * 0 = omega (arith, mul-zero w) in ap (λ (j : ℕ). get w b (k + j) ∷ []) e
numbers_snoc w b k o (suc n) =
    let e : o + w + w * n ≡ o + w * suc n = omega (arith, mul-suc w n) in
    ap (λ (l : List ℕ). get w b (k + o) ∷ l) (numbers_snoc w b k (o + w) n ∙ ap (λ (j : ℕ). numbers w b k (o + w) n ++ (get w b (k + j) ∷ [])) e)

-- bytes that are the same hold the same numbers
get-same : (w : ℕ) (b c : List ℕ) (k : ℕ) → ((i : ℕ) → k ≤ i → i < k + w → get_or b i 0 ≡ get_or c i 0) → get w b k ≡ get w c k
get-same zero b c k h = refl
get-same (suc w) b c k h =
    get_more w b k
    ∙ ap₂ (λ (x y : ℕ). x + y * 256) (h k (omega arith) (omega arith)) (get-same w b c (k + 1) (λ i l m. h i (omega arith) (omega arith)))
    ∙ sym (get_more w c k)

pub numbers-same : (w : ℕ) (b c : List ℕ) (k o n : ℕ) → ((i : ℕ) → k + o ≤ i → i < k + o + w * n → get_or b i 0 ≡ get_or c i 0)
    → numbers w b k o n ≡ numbers w c k o n
unfolding numbers
numbers-same w b c k o zero h = refl
numbers-same w b c k o (suc n) h =
    let more : w * suc n ≡ w * n + w = mul-suc w n in
    ap₂ ◌∷◌ (get-same w b c (k + o) (λ i l m. h i l (omega arith))) (numbers-same w b c k (o + w) n (λ i l m. h i (omega arith) (omega arith)))

-- two runs, one behind the other
pub numbers-add : (w : ℕ) (b : List ℕ) (k o m n : ℕ) → numbers w b k o (m + n) ≡ numbers w b k o m ++ numbers w b k (o + w * m) n
unfolding numbers
numbers-add w b k o zero n =
    let e : o ≡ o + w * 0 = omega (arith, mul-zero w) in
    ap (numbers w b k o) (zero-add n) ∙ ap (λ (j : ℕ). numbers w b k j n) e
numbers-add w b k o (suc m) n =
    let e : o + w + w * m ≡ o + w * suc m = omega (arith, mul-suc w m) in
    ap (numbers w b k o) (suc-add m n)
    ∙ ap (λ (l : List ℕ). get w b (k + o) ∷ l) (numbers-add w b k (o + w) m n ∙ ap (λ (j : ℕ). numbers w b k (o + w) m ++ numbers w b k j n) e)

pub length-numbers : (w : ℕ) (b : List ℕ) (k o n : ℕ) → length (numbers w b k o n) ≡ n
unfolding numbers
length-numbers w b k o zero = refl
length-numbers w b k o (suc n) = ap suc (length-numbers w b k (o + w) n)

-- number i of them
pub numbers_at : (w : ℕ) (b : List ℕ) (k o n i : ℕ) → i < n → get_or (numbers w b k o n) i 0 ≡ get w b (k + (o + w * i))
unfolding numbers
numbers_at w b k o zero i h = absurd (omega arith)
numbers_at w b k o (suc n) zero h = let e : o ≡ o + w * 0 = omega (arith, mul-zero w) in ap (λ (j : ℕ). get w b (k + j)) e
numbers_at w b k o (suc n) (suc i) h =
    let e : o + w + w * i ≡ o + w * suc i = omega (arith, mul-suc w i) in
    numbers_at w b k (o + w) n i (omega arith) ∙ ap (λ (j : ℕ). get w b (k + j)) e

pub length_run : (w : ℕ) (xs : List ℕ) → length (run w xs) ≡ w * length xs
unfolding run
length_run w [] = sym (mul-zero w)
length_run w (x ∷ xs) = omega (arith, length-append (le w x) (run w xs), length-le w x, length_run w xs, mul-suc w (length xs))

pub run_snoc : (w : ℕ) (xs : List ℕ) (x : ℕ) → run w (xs ++ (x ∷ [])) ≡ run w xs ++ le w x
unfolding run
run_snoc w [] x = simp append-nil
run_snoc w (y ∷ ys) x = ap (λ (l : List ℕ). le w y ++ l) (run_snoc w ys x) ∙ sym (append_assoc (le w y) (run w ys) (le w x))

-- written behind a prefix, then read
pub numbers-run : (w : ℕ) (p q xs : List ℕ) (k o : ℕ) → length p ≡ k + o → Below (256 ^ w) xs → numbers w (p ++ (run w xs ++ q)) k o (length xs) ≡ xs
unfolding numbers run
numbers-run w p q [] k o e h = refl
numbers-run w p q (x ∷ xs) k o e h =
    ap₂ ◌∷◌
    (ap₂ (get w) (ap (λ (l : List ℕ). p ++ l) (append_assoc (le w x) (run w xs) q)) (sym (add-zero (k + o)))
    ∙ get_past w p (le w x ++ (run w xs ++ q)) (k + o) 0 e
    ∙ get-le w x (run w xs ++ q) h.0)
    (ap (λ (l : List ℕ). numbers w l k (o + w) (length xs)) (simp append_assoc)
    ∙ numbers-run w (p ++ le w x) q xs k (o + w) (omega (arith, length-append p (le w x), length-le w x)) h.1)

-- read, then written
pub run-numbers : (w : ℕ) (b : List ℕ) (k o n : ℕ) → ((i : ℕ) → get_or b i 0 < 256) → k + o + w * n ≤ length b
    → run w (numbers w b k o n) ≡ take (w * n) (drop (k + o) b)
unfolding numbers run
run-numbers w b k o zero bytes h = ap (λ (j : ℕ). take j (drop (k + o) b)) (sym (mul-zero w))
run-numbers w b k o (suc n) bytes h =
    let m : w * suc n ≡ w + w * n = omega (arith, mul-suc w n) in
    let d : k + (o + w) ≡ k + o + w = omega arith in
    ap₂ ◌++◌ (le-get b bytes w (k + o) (omega (arith, m))) (run-numbers w b k (o + w) n bytes (omega (arith, m)) ∙ ap (λ (j : ℕ). take (w * n) (drop j b)) d ∙ ap (take (w * n)) (sym (drop-drop w (k + o) b)))
    ∙ sym (take-add w (w * n) (drop (k + o) b))
    ∙ ap (λ (j : ℕ). take j (drop (k + o) b)) (sym m)
