-- Laws of the entries replaced by least sums (document 02, U7), whatever the entries. Assumes nothing.
-- closed-length: they are as many as before.
-- closed-least: each is the least sum over the ways to split its position.
-- closed_under: none is above the one that it replaces.
-- closed_rises: they rise where those before did.
-- closed_sums: none is above the sum of two whose positions add up to its own.
-- closed-cost: n instances cost no more than before.
-- closed_same: entries of which that holds already stay.
-- closed_twice: to replace them once more changes nothing.
-- replaced_none, replaced_more, replaced_all: the places that the code holds, at first, after a step more and in the end.
use mathlib.Core.Path.{◌≡◌, refl, sym, ap, ap₂, subst, ◌∙◌}
use mathlib.Core.Logic.{◌⊎◌, inl, inr}
use mathlib.Core.List.{List, [], ◌∷◌, ◌++◌}
use Prim.Native.Nat.{ℕ, zero, suc, ◌+◌, ◌-◌, ◌/◌, ◌%◌, ◌≤◌, ◌<◌}
use native.Mathlib.Nat.{eq-or-lt_of_le, le_refl, zero-add, mul-le-mul_left}
use native.Mathlib.Numerals.{add-one}
use native.Mathlib.Omega.{arith}
use lib.ListN.{length, get_or, take, drop, set, length-append, get_or-append, get_or-eq_default}
use lib.Seq.{get_or_at, ext_get_or, drop-cons, set_at, append_snoc, length-take-le}
use Rattle.ranges.specs.Least.{smallest}
use Rattle.ranges.proofs.SumLaws.{le_or_lt}
use Rattle.ranges.proofs.LeastLaws.{smallest_first, smallest-le, smallest-hit, smallest-same}
use Rattle.curves.specs.Cost.{entry, cost}
use Rattle.curves.specs.Parts.{RisingEntries}
use Rattle.curves.proofs.CostLaws.{entry-take}
use Rattle.closure.specs.Closure.{closed_to, closed}
use Rattle.closure.specs.Split.{total, Positions, Split, sum_of, LeastSum, Subadditive}

-- the entries of a list stay where more follow
entry_before : (xs ys : List ℕ) (k : ℕ) → k ≤ length xs → entry (xs ++ ys) k ≡ entry xs k
entry_before xs ys k h = get_or-append (0 ∷ xs) ys 0 k (omega arith)

-- past the last there is none
entry_past : (xs : List ℕ) (k : ℕ) → length xs < k → entry xs k ≡ 0
entry_past xs k h = get_or-eq_default (0 ∷ xs) 0 h

module _ (es : List ℕ) where
  -- k of them
  length-closed_to : (k : ℕ) → length (closed_to es k) ≡ k
  unfolding closed_to
  length-closed_to zero = refl
  length-closed_to (suc k) = length-append (closed_to es k) _ ∙ ap (λ (n : ℕ). n + 1) (length-closed_to k) ∙ omega arith

  -- E'(k)
  unfoldable least_at : ℕ → ℕ
  least_at k = entry (closed_to es k) k

  -- it stays as more follow
  entry-closed_to : (m k : ℕ) → k ≤ m → entry (closed_to es m) k ≡ least_at k
  unfolding closed_to least_at
  entry-closed_to zero zero h = refl
  entry-closed_to zero (suc k) h = absurd (omega arith)
  entry-closed_to (suc m) k h = go (eq-or-lt_of_le h) (entry-closed_to m k)
    where
      go : (k ≡ suc m) ⊎ (k < suc m) → (k ≤ m → entry (closed_to es m) k ≡ least_at k) → entry (closed_to es (suc m)) k ≡ least_at k
      go (inl e) r = ap (λ (n : ℕ). entry (closed_to es n) k) (sym e)
      go (inr l) r = entry_before (closed_to es m) _ k (omega (arith, length-closed_to m)) ∙ r (omega arith)

  -- E'(0) = 0
  least_at_none : least_at 0 ≡ 0
  unfolding least_at
  least_at_none = refl

  -- the sum by a first part of position j + 1 of a split of k + 1
  abbrev first_sum : ℕ → ℕ → ℕ
  first_sum k j = entry es (suc j) + least_at (k - j)

  -- E'(k + 1) is the least of the whole and these sums
  least_at_next : (k : ℕ) → least_at (suc k) ≡ smallest (entry es (suc k)) k (first_sum k)
  unfolding least_at closed_to
  least_at_next k =
      get_or_at (closed_to es k) _ [] 0 k (length-closed_to k)
      ∙ smallest-same (entry es (suc k)) (λ j. entry es (suc j) + entry (closed_to es k) (k - j)) (first_sum k) k
      (λ j l. ap (λ (x : ℕ). entry es (suc j) + x) (entry-closed_to k (k - j) (omega arith)))

  -- a first part and the rest
  least_at_first : (p r : ℕ) → 1 ≤ p → least_at (p + r) ≤ entry es p + least_at r
  least_at_first zero r h = absurd (omega arith)
  least_at_first (suc j) r h = go (le_or_lt r 0)
    where
      same : suc j + r ≡ suc (j + r)
      same = omega arith

      back : j + r - j ≡ r
      back = omega arith

      next : least_at (suc j + r) ≡ smallest (entry es (suc (j + r))) (j + r) (first_sum (j + r))
      next = ap least_at same ∙ least_at_next (j + r)

      go : (r ≤ 0) ⊎ (0 < r) → least_at (suc j + r) ≤ entry es (suc j) + least_at r
      go (inl l) = omega (arith, next, smallest_first (entry es (suc (j + r))) (first_sum (j + r)) (j + r), ap (entry es) whole)
        where
          whole : suc (j + r) ≡ suc j
          whole = omega arith
      go (inr l) = omega (arith, next, smallest-le (entry es (suc (j + r))) (first_sum (j + r)) (j + r) j (omega arith), step)
        where
          step : first_sum (j + r) j ≡ entry es (suc j) + least_at r
          step = ap (λ (x : ℕ). entry es (suc j) + least_at x) back

  -- a way to split a first position, and the least sum of a second
  least_at_joins : (ps : List ℕ) (r : ℕ) → Positions ps → least_at (total ps + r) ≤ sum_of es ps + least_at r
  least_at_joins [] r h = rw (zero-add r) (omega arith)
  least_at_joins (p ∷ ps) r h = omega (arith, ap least_at same, least_at_first p (total ps + r) h.0, least_at_joins ps r h.1)
    where
      same : p + total ps + r ≡ p + (total ps + r)
      same = omega arith

  -- a way that sums to E'(k), of any k up to n
  least_at_met : (n k : ℕ) → k ≤ n → (ps : List ℕ) × Split k ps × (least_at k ≡ sum_of es ps)
  least_at_met zero zero h = ([], (tt, refl), least_at_none)
  least_at_met zero (suc k) h = absurd (omega arith)
  least_at_met (suc n) zero h = ([], (tt, refl), least_at_none)
  least_at_met (suc n) (suc k) h = go (smallest-hit (entry es (suc k)) (first_sum k) k) (λ i l. least_at_met n i l)
    where
      least : ℕ
      least = smallest (entry es (suc k)) k (first_sum k)

      go : (least ≡ entry es (suc k)) ⊎ ((j : ℕ) × (j < k) × (least ≡ first_sum k j))
          → ((i : ℕ) → i ≤ n → (ps : List ℕ) × Split i ps × (least_at i ≡ sum_of es ps)) → (ps : List ℕ) × Split (suc k) ps × (least_at (suc k) ≡ sum_of es ps)
      go (inl e) r = (suc k ∷ [], ((omega arith, tt), omega arith), omega (arith, least_at_next k, e))
      go (inr x) r = more (r (k - x.0) (omega arith))
        where
          more : (ps : List ℕ) × Split (k - x.0) ps × (least_at (k - x.0) ≡ sum_of es ps) → (ps : List ℕ) × Split (suc k) ps × (least_at (suc k) ≡ sum_of es ps)
          more y = (suc x.0 ∷ y.0, ((omega arith, y.1.0), omega (arith, x.1, y.1.1)), least_at_next k ∙ x.2 ∙ ap (λ (s : ℕ). entry es (suc x.0) + s) y.2)

  -- so E'(k) is the least sum
  least_at_least : (k : ℕ) → LeastSum es k (least_at k)
  least_at_least k = record { under = none; met = least_at_met k k (le_refl k) }
    where
      none : (ps : List ℕ) → Split k ps → least_at k ≤ sum_of es ps
      none ps s = omega (arith, least_at_joins ps 0 s.0, least_at_none, ap least_at same)
        where
          same : total ps + 0 ≡ k
          same = omega (arith, s.1)

  -- ---- the entries replaced

  -- as many as before
  pub closed-length : length (closed es) ≡ length es
  unfolding closed
  closed-length = length-closed_to (length es)

  -- each is E'(k)
  entry_closed : (k : ℕ) → k ≤ length es → entry (closed es) k ≡ least_at k
  unfolding closed
  entry_closed k h = entry-closed_to (length es) k h

  -- each is the least sum over the ways to split its position
  pub closed-least : (k : ℕ) → k ≤ length es → LeastSum es k (entry (closed es) k)
  closed-least k h = subst (LeastSum es k) (sym (entry_closed k h)) (least_at_least k)

  -- none grows
  pub closed_under : (k : ℕ) → entry (closed es) k ≤ entry es k
  closed_under zero = le_refl 0
  closed_under (suc k) = go (le_or_lt (suc k) (length es))
    where
      go : (suc k ≤ length es) ⊎ (length es < suc k) → entry (closed es) (suc k) ≤ entry es (suc k)
      go (inl l) = omega (arith, (closed-least (suc k) l).under (suc k ∷ []) ((omega arith, tt), omega arith))
      go (inr l) = omega (arith, entry_past (closed es) (suc k) (omega (arith, closed-length)))

  -- entries that rise still do: of a split that meets a least sum, a first part of 1 costs something, and any other may be one shorter
  pub closed_rises : RisingEntries es → RisingEntries (closed es)
  closed_rises up k h = go (least_at_met (suc k) (suc k) (le_refl (suc k)))
    where
      fits : suc k ≤ length es
      fits = omega (arith, closed-length, h)

      here : entry (closed es) k ≡ least_at k
      here = entry_closed k (omega (arith, fits))

      less : (ps : List ℕ) → Positions ps → total ps ≡ suc k → least_at k < sum_of es ps
      less [] a e = absurd (omega arith)
      less (zero ∷ ps) a e = absurd (omega (arith, a.0))
      less (suc zero ∷ ps) a e = omega (arith, up 0 (omega (arith, fits)), (least_at_least k).under ps (a.1, omega arith))
      less (suc (suc q) ∷ ps) a e = omega (arith, up (suc q) (omega (arith, fits)), (least_at_least k).under (suc q ∷ ps) ((omega arith, a.1), omega arith))

      go : (ps : List ℕ) × Split (suc k) ps × (least_at (suc k) ≡ sum_of es ps) → entry (closed es) k < entry (closed es) (suc k)
      go x = omega (arith, here, entry_closed (suc k) fits, x.2, less x.0 x.1.0 x.1.1)

  -- no entry replaced is above the sum of two whose positions add up to its own
  pub closed_sums : Subadditive (closed es)
  closed_sums i j a b h = go (least_at_met i i (le_refl i))
    where
      fits : i + j ≤ length es
      fits = omega (arith, closed-length, h)

      go : (ps : List ℕ) × Split i ps × (least_at i ≡ sum_of es ps) → entry (closed es) (i + j) ≤ entry (closed es) i + entry (closed es) j
      go x = omega (
        arith,
        entry_closed (i + j) fits,
        entry_closed i (omega (arith, fits)),
        entry_closed j (omega (arith, fits)),
        x.2,
        least_at_joins x.0 j x.1.0,
        ap (λ (n : ℕ). least_at (n + j)) x.1.1,
      )

  -- n instances cost no more than before
  pub closed-cost : (n : ℕ) → cost (closed es) n ≤ cost es n
  unfolding cost
  closed-cost n =
      rw closed-length
      (omega (arith, mul-le-mul_left (n / length es) (closed_under (length es)), closed_under (n % length es)))

  -- ---- entries none of which is above the sum of two

  module _ (sub : Subadditive es) where
    -- no way to split sums to less than the whole
    whole_under : (ps : List ℕ) → Positions ps → total ps ≤ length es → entry es (total ps) ≤ sum_of es ps
    whole_under [] a h = le_refl 0
    whole_under (p ∷ ps) a h = go (le_or_lt (total ps) 0) (whole_under ps a.1 (omega arith))
      where
        go : (total ps ≤ 0) ⊎ (0 < total ps) → entry es (total ps) ≤ sum_of es ps → entry es (p + total ps) ≤ entry es p + sum_of es ps
        go (inl l) r = omega (arith, ap (entry es) alone)
          where
            alone : p + total ps ≡ p
            alone = omega arith
        go (inr l) r = omega (arith, r, sub p (total ps) a.0 l h)

    -- so E'(k) is E(k)
    entry-same : (k : ℕ) → k ≤ length es → entry (closed es) k ≡ entry es k
    entry-same k h = go (closed-least k h).met
      where
        go : (ps : List ℕ) × Split k ps × (entry (closed es) k ≡ sum_of es ps) → entry (closed es) k ≡ entry es k
        go x = omega (arith, x.2, closed_under k, whole_under x.0 x.1.0 (omega (arith, x.1.1)), ap (entry es) x.1.1)

    -- the entries stay
    pub closed_same : closed es ≡ es
    closed_same = ext_get_or 0 (closed es) es closed-length (λ i l. entry-same (suc i) (omega (arith, closed-length, l)))

-- to replace them once more changes nothing
pub closed_twice : (es : List ℕ) → closed (closed es) ≡ closed es
closed_twice es = closed_same (closed es) (closed_sums es)

-- ---- as the code replaces them, out of places of which the first m are used

-- the first k replaced, the others as they are
abbrev pub replaced : List ℕ → ℕ → ℕ → List ℕ
replaced es m k = closed_to (take m es) k ++ drop k es

-- none at first
pub replaced_none : (es : List ℕ) (m : ℕ) → es ≡ replaced es m 0
unfolding closed_to
replaced_none es m = refl

module _ (es : List ℕ) (m : ℕ) (fits : m ≤ length es) where
  -- one place more, as a loop replaces it
  pub replaced_more : (sums : List ℕ) (k x : ℕ) → k < m → sums ≡ replaced es m k
      → x ≡ smallest (entry es (suc k)) k (λ j. entry es (suc j) + entry sums (k - j)) → set sums k x ≡ replaced es m (k + 1)
  unfolding closed_to
  replaced_more sums k x l e v =
      ap (λ (s : List ℕ). set s k x) (e ∙ ap (λ (s : List ℕ). cs ++ s) (drop-cons es k 0 (omega arith)))
      ∙ set_at cs (get_or es k 0) (drop (suc k) es) x k (length-closed_to (take m es) k)
      ∙ sym (append_snoc cs x (drop (suc k) es))
      ∙ ap (λ (y : ℕ). cs ++ (y ∷ []) ++ drop (suc k) es) (v ∙ same)
      ∙ ap (replaced es m) (sym (add-one k))
    where
      cs : List ℕ
      cs = closed_to (take m es) k

      before : (j : ℕ) → j < k → entry es (suc j) + entry sums (k - j) ≡ entry (take m es) (suc j) + entry cs (k - j)
      before j h =
          ap₂ (λ (a b : ℕ). a + b)
          (sym (entry-take es m (suc j) (omega arith)))
          (ap (λ (s : List ℕ). entry s (k - j)) e ∙ entry_before cs (drop k es) (k - j) (omega (arith, length-closed_to (take m es) k)))

      same : smallest (entry es (suc k)) k (λ j. entry es (suc j) + entry sums (k - j))
          ≡ smallest (entry (take m es) (suc k)) k (λ j. entry (take m es) (suc j) + entry cs (k - j))
      same =
          smallest-same (entry es (suc k)) (λ j. entry es (suc j) + entry sums (k - j)) (λ j. entry (take m es) (suc j) + entry cs (k - j)) k before
          ∙ ap (λ (a : ℕ). smallest a k (λ j. entry (take m es) (suc j) + entry cs (k - j))) (sym (entry-take es m (suc k) l))

  -- and all of them in the end
  pub replaced_all : replaced es m m ≡ closed (take m es) ++ drop m es
  unfolding closed
  replaced_all = ap (λ (k : ℕ). closed_to (take m es) k ++ drop m es) (sym (length-take-le m es fits))
