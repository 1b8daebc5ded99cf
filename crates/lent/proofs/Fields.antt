-- Fields in bytes: what is written is read back, and what is read is written back. Assumes nothing.
-- below_all, below_zeros: numbers that fit, one by one, and zeros. fit_sized, length_fields: the bytes that fields take. fields_back, fields_again: the two round trips.
-- over_fields_lem: fields written one behind the other. numbers-step, run_step, run_start: one number more, as a loop goes on.
use mathlib.Core.Path.{◌≡◌, refl, sym, ap, ap₂, ◌∙◌}
use mathlib.Core.List.{List, [], ◌∷◌, ◌++◌, append_assoc}
use Prim.Native.Nat.{ℕ, zero, suc, ◌≤◌, ◌<◌, ◌+◌, ◌*◌}
use native.Mathlib.Nat.{mul-suc}
use native.Mathlib.Numerals.{add-one}
use native.Mathlib.Omega.{arith}
use lib.ListN.{length, get_or, take, drop, set, replicate, length-append}
use lib.Seq.{drop-drop, take-add, take-suc, take-suc-set, length-take-le}
use Rattle.lent.specs.Bytes.{Field, get, le, numbers, run, size_of, fields_at, field_bytes}
use Rattle.lent.specs.Over.{over}
use Rattle.lent.specs.Parts.{Below, Sized, Fit}
use Rattle.lent.proofs.Replace.{over_nil, over-over, over-length}
use Rattle.lent.proofs.Numbers.{numbers_snoc, length-le, length_run, numbers-run, run_snoc, run-numbers}

pub below_all : (m : ℕ) (xs : List ℕ) → ((i : ℕ) → i < length xs → get_or xs i 0 < m) → Below m xs
below_all m [] h = tt
below_all m (x ∷ xs) h = (h 0 (omega arith), below_all m xs (λ i l. h (suc i) (omega arith)))

pub below_zeros : (m n : ℕ) → 0 < m → Below m (replicate n 0)
below_zeros m zero h = tt
below_zeros m (suc n) h = (h, below_zeros m n h)

pub fit_sized : (fs : List Field) (vs : List (List ℕ)) → Fit fs vs → Sized fs vs
fit_sized [] [] h = tt
fit_sized (f ∷ fs) (v ∷ vs) h = (h.0, fit_sized fs vs h.2)
fit_sized [] (v ∷ vs) h = elim h [ ]
fit_sized (f ∷ fs) [] h = elim h [ ]

pub length_fields : (fs : List Field) (vs : List (List ℕ)) → Sized fs vs → length (field_bytes fs vs) ≡ size_of fs
unfolding field_bytes
length_fields [] [] h = refl
length_fields (f ∷ fs) (v ∷ vs) h =
    omega (
      arith,
      length-append (run f.width v) (field_bytes fs vs),
      length_run f.width v,
      ap (λ (n : ℕ). f.width * n) h.0,
      length_fields fs vs h.1,
    )
length_fields [] (v ∷ vs) h = elim h [ ]
length_fields (f ∷ fs) [] h = elim h [ ]

-- ---- written behind a prefix, then read

pub fields_back : (fs : List Field) (vs : List (List ℕ)) (p q : List ℕ) (k o : ℕ) → length p ≡ k + o → Fit fs vs
    → fields_at fs (p ++ (field_bytes fs vs ++ q)) k o ≡ vs
unfolding fields_at field_bytes
fields_back [] (v ∷ vs) p q k o e h = elim h [ ]
fields_back (f ∷ fs) [] p q k o e h = elim h [ ]
fields_back [] [] p q k o e h = refl
fields_back (f ∷ fs) (v ∷ vs) p q k o e h =
    ap₂ ◌∷◌
    (ap₂ (λ (l : List ℕ) (n : ℕ). numbers w l k o n) (ap (λ (l : List ℕ). p ++ l) (append_assoc (run w v) (field_bytes fs vs) q)) (sym h.0)
    ∙ numbers-run w p (field_bytes fs vs ++ q) v k o e h.1)
    (ap (λ (l : List ℕ). fields_at fs l k (o + w * f.many)) (simp append_assoc)
    ∙ fields_back fs vs (p ++ run w v) q k (o + w * f.many)
    (omega (arith, length-append p (run w v), length_run w v, ap (λ (n : ℕ). w * n) h.0)) h.2)
  where
    w : ℕ
    w = f.width

-- ---- read, then written

pub fields_again : (fs : List Field) (b : List ℕ) (k o : ℕ) → ((i : ℕ) → get_or b i 0 < 256) → k + o + size_of fs ≤ length b
    → field_bytes fs (fields_at fs b k o) ≡ take (size_of fs) (drop (k + o) b)
unfolding fields_at field_bytes
fields_again [] b k o bytes h = refl
fields_again (f ∷ fs) b k o bytes h =
    let n : ℕ = f.width * f.many in
    let d : k + (o + n) ≡ k + o + n = omega arith in
    ap₂ ◌++◌ (run-numbers f.width b k o f.many bytes (omega arith))
    (fields_again fs b k (o + n) bytes (omega arith) ∙ ap (λ (j : ℕ). take (size_of fs) (drop j b)) d ∙ ap (take (size_of fs)) (sym (drop-drop n (k + o) b)))
    ∙ sym (take-add n (size_of fs) (drop (k + o) b))

-- ---- written one behind the other, from k on

unfoldable pub over_fields : List Field → List (List ℕ) → List ℕ → ℕ → List ℕ
over_fields [] vs b k = b
over_fields (f ∷ fs) [] b k = b
over_fields (f ∷ fs) (v ∷ vs) b k = over_fields fs vs (over b k (run f.width v)) (k + f.width * f.many)

pub over_fields_lem : (fs : List Field) (vs : List (List ℕ)) (b : List ℕ) (k : ℕ) → Sized fs vs → k + size_of fs ≤ length b
    → over_fields fs vs b k ≡ over b k (field_bytes fs vs)
unfolding over_fields field_bytes
over_fields_lem [] (v ∷ vs) b k h l = elim h [ ]
over_fields_lem (f ∷ fs) [] b k h l = elim h [ ]
over_fields_lem [] [] b k h l = sym (over_nil b k)
over_fields_lem (f ∷ fs) (v ∷ vs) b k h l =
    over_fields_lem fs vs (over b k (run f.width v)) (k + f.width * f.many) h.1 (omega (arith, over-length b k (run f.width v) (omega (arith, n))))
    ∙ over-over b k (run f.width v) (field_bytes fs vs) (k + f.width * f.many) (omega (arith, n)) (omega (arith, length_fields fs vs h.1))
  where
    n : length (run f.width v) ≡ f.width * f.many
    n = length_run f.width v ∙ ap (λ (m : ℕ). f.width * m) h.0

-- ---- one number more, as a loop reads it, and as a loop writes it

pub numbers-step : (w : ℕ) (b xs : List ℕ) (k o i : ℕ) → i < length xs → take i xs ≡ numbers w b k o i
    → take (i + 1) (set xs i (get w b (k + (o + w * i)))) ≡ numbers w b k o (i + 1)
numbers-step w b xs k o i h e =
    ap (λ (j : ℕ). take j (set xs i (get w b (k + (o + w * i))))) (add-one i)
    ∙ take-suc-set xs i (get w b (k + (o + w * i))) h
    ∙ ap (λ (l : List ℕ). l ++ (get w b (k + (o + w * i)) ∷ [])) e
    ∙ sym (numbers_snoc w b k o i)
    ∙ ap (numbers w b k o) (sym (add-one i))

pub run_step : (w : ℕ) (b xs : List ℕ) (k i : ℕ) → i < length xs → k + w * (i + 1) ≤ length b
    → over (over b k (run w (take i xs))) (k + w * i) (le w (get_or xs i 0)) ≡ over b k (run w (take (i + 1) xs))
run_step w b xs k i h l =
    let m : w * (i + 1) ≡ w * i + w = ap (λ (j : ℕ). w * j) (add-one i) ∙ mul-suc w i in
    let e : length (run w (take i xs)) ≡ w * i = length_run w (take i xs) ∙ ap (λ (j : ℕ). w * j) (length-take-le i xs (omega arith)) in
    over-over b k (run w (take i xs)) (le w (get_or xs i 0)) (k + w * i) (omega arith) (omega (arith, m, length-le w (get_or xs i 0)))
    ∙ ap (over b k) (sym (run_snoc w (take i xs) (get_or xs i 0)) ∙ ap (run w) (sym (take-suc xs i 0 h)) ∙ ap (λ (j : ℕ). run w (take j xs)) (sym (add-one i)))

-- nothing written
pub run_start : (w : ℕ) (b xs : List ℕ) (k : ℕ) → b ≡ over b k (run w (take 0 xs))
unfolding run
run_start w b xs k = sym (over_nil b k)
