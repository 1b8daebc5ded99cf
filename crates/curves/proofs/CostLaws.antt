-- Laws of the cost E(n): E(0) = 0, E(k) is the entry up to m, E(q × m + r) = q × E(m) + E(r), and E rises strictly where the entries do.
-- entry-take, entry_at, cost_read: the entries as the code reads them. cost_under: no more than so much for each instance.
use mathlib.Core.Path.{◌≡◌, refl, subst, sym, ap}
use mathlib.Core.Logic.{◌⊎◌, inl, inr}
use mathlib.Core.List.{List}
use Prim.Native.Nat.{ℕ, zero, suc, ◌+◌, ◌*◌, ◌-◌, ◌/◌, ◌%◌, ◌≤◌, ◌<◌}
use native.Mathlib.Nat.{div-add-mod', mod-lt, eq-or-lt_of_le, zero-add, zero-mul, mul-le-mul_left}
use native.Mathlib.Omega.{arith}
use lib.ListN.{length, get_or, take}
use lib.Seq.{get_or-take}
use lib.Arith.{digits_div, digits_mod}
use Rattle.curves.specs.Cost.{entry, cost}
use Rattle.curves.specs.Parts.{RisingEntries}

module _ (es : List ℕ) where
  pub cost_at : (q r : ℕ) → r < length es → cost es (q * length es + r) ≡ q * entry es (length es) + entry es r
  unfolding cost
  cost_at q r h = rw (digits_div q h, digits_mod q h)

  -- the entries themselves
  pub cost-entry : (r : ℕ) → r < length es → cost es r ≡ entry es r
  cost-entry r h = simp (zero-mul, zero-add) at (cost_at 0 r h)

  -- E(0) = 0
  pub cost_zero : 0 < length es → cost es 0 ≡ 0
  cost_zero h = cost-entry 0 h

  -- and up to the last of them
  pub cost_listed : 0 < length es → (k : ℕ) → k ≤ length es → cost es k ≡ entry es k
  cost_listed p k h = go (eq-or-lt_of_le h)
    where
      m : ℕ
      m = length es

      whole : 1 * m + 0 ≡ m
      whole = omega arith

      go : (k ≡ m) ⊎ (k < m) → cost es k ≡ entry es k
      go (inl e) = subst (λ (x : ℕ). cost es x ≡ entry es x) (sym e) (omega (arith, ap (cost es) whole, cost_at 1 0 p))
      go (inr l) = cost-entry k l

  pub cost_up : 0 < length es → RisingEntries es → (n : ℕ) → cost es n < cost es (suc n)
  cost_up p up n = go (eq-or-lt_of_le (mod-lt n p))
    where
      m : ℕ
      m = length es

      q : ℕ
      q = n / length es

      r : ℕ
      r = n % length es

      here : cost es n ≡ q * entry es m + entry es r
      here = subst (λ (x : ℕ). cost es x ≡ q * entry es m + entry es r) (div-add-mod' n m) (cost_at q r (mod-lt n p))

      go : (suc r ≡ m) ⊎ (suc r < m) → cost es n < cost es (suc n)
      go (inl h) = rw (here, next) (omega (arith, subst (λ (x : ℕ). entry es r < entry es x) h (up r (mod-lt n p))))
        where
          next : cost es (suc n) ≡ suc q * entry es m + 0
          next = subst (λ (x : ℕ). cost es x ≡ suc q * entry es m + 0) (omega (arith, h, div-add-mod' n m)) (cost_at (suc q) 0 p)
      go (inr h) = rw (here, next) (omega (arith, up r (mod-lt n p)))
        where
          next : cost es (suc n) ≡ q * entry es m + entry es (suc r)
          next = subst (λ (x : ℕ). cost es x ≡ q * entry es m + entry es (suc r)) (omega (arith, div-add-mod' n m)) (cost_at q (suc r) h)

-- one of the first m entries
pub entry-take : (es : List ℕ) (m k : ℕ) → k ≤ m → entry (take m es) k ≡ entry es k
entry-take es m zero h = refl
entry-take es m (suc k) h = get_or-take m es k 0 h

pub entry_at : (es : List ℕ) (k : ℕ) → 0 < k → entry es k ≡ get_or es (k - 1) 0
entry_at es zero h = absurd (omega arith)
entry_at es (suc k) h = ap (λ (i : ℕ). get_or es i 0) (omega arith)

module _ (es : List ℕ) (n : ℕ) (some : 0 < length es) where
  -- E(n)
  pub cost_read : cost es n ≡ n / length es * get_or es (length es - 1) 0 + entry es (n % length es)
  unfolding cost
  cost_read = rw (entry_at es (length es) some)

  -- where no entry is above b, n instances cost no more than b each
  pub cost_under : (b : ℕ) → ((k : ℕ) → get_or es k 0 ≤ b) → cost es n ≤ b * n
  cost_under b h = omega (arith, cost_read, mul-le-mul_left (n / m) (h (m - 1)), last (n % m), mul-le-mul_left b fewer)
    where
      m : ℕ
      m = length es

      last : (k : ℕ) → entry es k ≤ b * k
      last zero = omega arith
      last (suc k) = omega (arith, h k)

      fewer : n / m + n % m ≤ n
      fewer = omega (arith, div-add-mod' n m, mul-le-mul_left (n / m) some)
