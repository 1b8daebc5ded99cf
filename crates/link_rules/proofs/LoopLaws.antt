-- Where none is named twice, the callbacks on loops are those that next leads to from no head. Assumes nothing.
-- marks-over, marks_more: the walk from one head. reached_in, reached_out: the heads in turn. known: what names_known says.
-- loops_law: the slots that are not reached are those on loops. looped_law: the lowest of them.
use mathlib.Core.Path.{◌≡◌, refl, sym, ap, ap₂, ◌∙◌, subst}
use mathlib.Core.Logic.{◌⊎◌, inl, inr, ◌≢◌}
use mathlib.Core.Bool.{Bool, true, false, not, ◌&&◌, ◌||◌}
use Prim.Native.Nat.{ℕ, zero, suc, ◌+◌, ◌-◌, ◌^◌, ◌≤◌, ◌<◌, pred}
use native.Mathlib.Numerals.{add-one}
use native.Mathlib.Decide.{ℕ_discrete}
use native.Mathlib.Omega.{arith}
use lib.Dec.{eqb, leb}
use lib.Pow.{pow_pos}
use borrow.Author.Tests.{eqb-true, leb-true}
use Rattle.masks.specs.Mask.{has, with_bit, gather}
use Rattle.masks.specs.Parts.{except, first_index}
use Rattle.masks.proofs.Slots.{has_with, has_with_same, has_with_other, has-except, has_zero, mask_ext, except_lt}
use Rattle.masks.proofs.Gather.{gather_lt, gather_in, below_has}
use Rattle.ranges.specs.Least.{least, lowest}
use Rattle.table.specs.Walk.{walk}
use Rattle.ranges.proofs.LeastLaws.{Searched, least_spec}
use Rattle.ranges.proofs.EveryLaws.{never_both, every_at}
use Rattle.table.proofs.WalkLaws.{Twice, pigeon, walk_zero, walk-add, walk-le}
use Rattle.table.specs.declared.Names.{Names}
use Rattle.table.specs.declared.Table.{Table}
use Rattle.table.specs.Values.{next_of}
use Rattle.table.specs.Links.{named, is_head, on_loop}
use Rattle.table.specs.Parts.{names_of}
use Rattle.chains.specs.Chains.{feeder}
use Rattle.masks.proofs.Index.{first_gather}
use Rattle.link_rules.specs.Parts.{names_known, marks, reached_to}
use Rattle.link_rules.proofs.LinkLaws.{heads_are}
use Rattle.link_rules.proofs.Names.{names_once, off-loop, link_next, fed_by, head_unfed, next_link, unfed_head}

-- ---- the walk from one head

module _ (next : ℕ → ℕ) where
  pub marks-over : (n k m : ℕ) → marks next (n - k) 0 m ≡ m
  unfolding marks
  marks-over n k m = go (n - k)
    where
      go : (f : ℕ) → marks next f 0 m ≡ m
      go zero = refl
      go (suc f) = refl

  pub marks_end : (n k x m : ℕ) → n ≤ k → marks next (n - k) x m ≡ m
  unfolding marks
  marks_end n k x m h = let z : n - k ≡ 0 = omega arith in ap (λ (f : ℕ). marks next f x m) z

  pub marks_more : (n k x m : ℕ) → k < n → x ≢ 0 → marks next (n - k) x m ≡ marks next (n - (k + 1)) (next (x - 1)) (with_bit m (x - 1))
  unfolding marks
  marks_more n k x m l h =
      let f : n - k ≡ suc (n - (k + 1)) = omega arith in
      let s : x ≡ suc (x - 1) = omega arith in
      ap₂ (λ (j y : ℕ). marks next j y m) f s

  -- what was in the mask stays
  marks_keep : (k x m j : ℕ) → has m j ≡ true → has (marks next k x m) j ≡ true
  unfolding marks
  marks_keep zero x m j e = e
  marks_keep (suc k) zero m j e = e
  marks_keep (suc k) (suc i) m j e = marks_keep k (next i) (with_bit m i) j (has_with m i j ∙ ap (λ (b : Bool). b || eqb j i) e)

  -- what the walk meets is in it
  marks-hit : (k x m j s : ℕ) → s < k → walk next s x ≡ suc j → has (marks next k x m) j ≡ true
  unfolding marks walk
  marks-hit zero x m j s l e = absurd (omega arith)
  marks-hit (suc k) zero m j s l e = absurd (omega (arith, walk_zero next s))
  marks-hit (suc k) (suc i) m j zero l e =
      let q : i ≡ j = omega arith in
      marks_keep k (next i) (with_bit m i) j (ap (λ (x : ℕ). has (with_bit m x) j) q ∙ has_with_same m j)
  marks-hit (suc k) (suc i) m j (suc s) l e = marks-hit k (next i) (with_bit m i) j s (omega arith) e

  -- and nothing else
  abbrev Met : ℕ → ℕ → ℕ → Type 0
  Met k x j = (s : ℕ) × (s < k) × (walk next s x ≡ suc j)

  marks_met : (k x m j : ℕ) → has (marks next k x m) j ≡ true → (has m j ≡ true) ⊎ Met k x j
  unfolding marks walk
  marks_met zero x m j e = inl e
  marks_met (suc k) zero m j e = inl e
  marks_met (suc k) (suc i) m j e = go (marks_met k (next i) (with_bit m i) j e) (ℕ_discrete j i)
    where
      go : (has (with_bit m i) j ≡ true) ⊎ Met k (next i) j → Dec (j ≡ i) → (has m j ≡ true) ⊎ Met (suc k) (suc i) j
      go (inr w) d = inr (suc w.0, omega (arith, w.1), w.2)
      go (inl h) (yes q) = inr (0, omega arith, ap suc (sym q))
      go (inl h) (no q) = inl (sym (has_with_other m i j q) ∙ h)

-- ---- the heads in turn

module _ (t : Table) (heads : ℕ) where
  abbrev met : ℕ → ℕ
  met i = marks (next_of t) t.count (suc i) (reached_to t heads i)

  pub reached_start : 0 ≡ reached_to t heads 0
  unfolding reached_to
  reached_start = refl

  pub reached_in : (i : ℕ) → has heads i ≡ true → marks (next_of t) t.count (i + 1) (reached_to t heads i) ≡ reached_to t heads (i + 1)
  unfolding reached_to
  reached_in i e =
      ap (λ (x : ℕ). marks (next_of t) t.count x (reached_to t heads i)) (add-one i)
      ∙ sym (ap (λ (b : Bool). elim b as (λ _. ℕ) [ true ↦ met i | false ↦ reached_to t heads i ]) e)
      ∙ ap (reached_to t heads) (sym (add-one i))

  pub reached_out : (i : ℕ) → has heads i ≡ false → reached_to t heads i ≡ reached_to t heads (i + 1)
  unfolding reached_to
  reached_out i e =
      sym (ap (λ (b : Bool). elim b as (λ _. ℕ) [ true ↦ met i | false ↦ reached_to t heads i ]) e)
      ∙ ap (reached_to t heads) (sym (add-one i))

  -- slot j is met from a head below f
  abbrev From : ℕ → ℕ → Type 0
  From f j = (i : ℕ) × (i < f) × (has heads i ≡ true) × Met (next_of t) t.count (suc i) j

  reached_from : (f j : ℕ) → has (reached_to t heads f) j ≡ true → From f j
  unfolding reached_to
  reached_from zero j e = absurd (never_both (has 0 j) e (has_zero j))
  reached_from (suc f) j e = go (has heads f) refl e (λ h. reached_from f j h)
    where
      later : From f j → From (suc f) j
      later w = (w.0, omega (arith, w.1), w.2, w.3)

      go : (b : Bool) → has heads f ≡ b → has (elim b as (λ _. ℕ) [ true ↦ met f | false ↦ reached_to t heads f ]) j ≡ true
          → (has (reached_to t heads f) j ≡ true → From f j) → From (suc f) j
      go false q h w = later (w h)
      go true q h w = pick (marks_met (next_of t) t.count (suc f) (reached_to t heads f) j h)
        where
          pick : (has (reached_to t heads f) j ≡ true) ⊎ Met (next_of t) t.count (suc f) j → From (suc f) j
          pick (inl z) = later (w z)
          pick (inr z) = (f, omega arith, q, z)

  reached_hit : (f j i s : ℕ) → i < f → has heads i ≡ true → s < t.count → walk (next_of t) s (suc i) ≡ suc j → has (reached_to t heads f) j ≡ true
  unfolding reached_to
  reached_hit zero j i s l q m e = absurd (omega arith)
  reached_hit (suc f) j i s l q m e = go (has heads f) refl (ℕ_discrete i f) (λ h. reached_hit f j i s h q m e)
    where
      go : (b : Bool) → has heads f ≡ b → Dec (i ≡ f) → (i < f → has (reached_to t heads f) j ≡ true)
          → has (elim b as (λ _. ℕ) [ true ↦ met f | false ↦ reached_to t heads f ]) j ≡ true
      go true z (yes p) w = marks-hit (next_of t) t.count (suc f) _ j s m (subst (λ (x : ℕ). walk (next_of t) s (suc x) ≡ suc j) p e)
      go true z (no p) w = marks_keep (next_of t) t.count (suc f) _ j (w (omega arith))
      go false z (yes p) w = absurd (never_both (has heads f) (subst (λ (x : ℕ). has heads x ≡ true) p q) z)
      go false z (no p) w = w (omega arith)

-- ---- on a loop, or reached

pub known : (t : Table) → names_known t ≡ true → (i : ℕ) → i < t.count → next_of t i ≤ t.count
unfolding names_known
known t e i l = leb-true _ _ (every_at (λ i. leb (next_of t i) t.count) t.count e i l)

module _ (t : Table) (names : (i : ℕ) → i < t.count → next_of t i ≤ t.count) (twice : lowest (λ i. leb 2 (named t i)) t.count ≡ 0) where
  abbrev next : ℕ → ℕ
  next = next_of t

  -- the last step of a walk
  abbrev Last : ℕ → ℕ → ℕ → Type 0
  Last k x j = (p : ℕ) × (p < t.count) × (walk next k x ≡ suc p) × (next p ≡ suc j)

  last : (k x j : ℕ) → x ≤ t.count → walk next (suc k) x ≡ suc j → Last k x j
  unfolding walk
  last k x j l e = go (walk next k x) refl
    where
      apart : walk next 1 (walk next k x) ≡ suc j
      apart = sym (walk-add next 1 k x) ∙ ap (λ (y : ℕ). walk next y x) one_more ∙ e
        where
          one_more : 1 + k ≡ suc k
          one_more = omega arith

      go : (y : ℕ) → walk next k x ≡ y → Last k x j
      go zero f = absurd (omega (arith, ap (walk next 1) f, apart))
      go (suc p) f = (p, omega (arith, walk-le next t.count names k x l), f, sym (ap (walk next 1) f) ∙ apart)

  -- a head leads to no loop
  head_off : (s i j k : ℕ) → i < t.count → j < t.count → is_head t i ≡ true → walk next s (suc i) ≡ suc j → walk next (suc k) (suc j) ≡ suc j → ⊥
  unfolding walk
  head_off zero i j k li lj h e f =
      let q : i ≡ j = omega arith in
      let w = last k (suc j) j lj f in
      head_unfed t i h w.0 w.1 (next_link t w.0 i (w.3 ∙ ap suc (sym q)))
  head_off (suc s) i j k li lj h e f = again (last s (suc i) j li e) (last k (suc j) j lj f) (λ p l a b. head_off s i p k li l h a b)
    where
      again : Last s (suc i) j → Last k (suc j) j → ((p : ℕ) → p < t.count → walk next s (suc i) ≡ suc p → walk next (suc k) (suc p) ≡ suc p → ⊥) → ⊥
      again v w more =
          let same : w.0 ≡ v.0 = names_once t twice names w.0 v.0 j w.1 v.1 w.3 v.3 in
          more v.0 v.1 v.2 (subst (λ (x : ℕ). walk next k (next x) ≡ suc x) same (ap (walk next k) w.3 ∙ w.2))

  looped : (j : ℕ) → on_loop t j ≡ true → (k : ℕ) × (walk next (suc k) (suc j) ≡ suc j)
  unfolding on_loop
  looped j e = go (least_spec back t.count 1)
    where
      back : ℕ → Bool
      back k = eqb (walk next k (suc j)) (suc j)

      go : Searched back t.count 1 (least back t.count 1) → (k : ℕ) × (walk next (suc k) (suc j) ≡ suc j)
      go (inl s) = absurd (never_both _ e (ap (λ (x : ℕ). not (eqb x 0)) s.0))
      go (inr s) =
          let f : suc (least back t.count 1 - 1) ≡ least back t.count 1 = omega (arith, s.from) in
          (least back t.count 1 - 1, ap (λ (x : ℕ). walk next x (suc j)) f ∙ eqb-true _ _ s.passes)

  module _ (heads : ℕ) (are : (i : ℕ) → i < t.count → has heads i ≡ is_head t i) where
    off : (j : ℕ) → j < t.count → has (reached_to t heads t.count) j ≡ true → on_loop t j ≡ false
    off j l e = go (on_loop t j) refl (reached_from t heads t.count j e)
      where
        go : (b : Bool) → on_loop t j ≡ b → From t heads t.count j → b ≡ false
        go false q w = refl
        go true q w = let k = looped j q in absurd (head_off w.3.0 w.0 j k.0 w.1 l (sym (are w.0 w.1) ∙ w.2) w.3.2 k.1)

    -- f steps back from j
    backward : ℕ → ℕ → ℕ
    backward zero j = j
    backward (suc f) j = pred (feeder t (backward f j))

    module _ (j : ℕ) (l : j < t.count) (missed : has (reached_to t heads t.count) j ≡ false) where
      abbrev Behind : ℕ → Type 0
      Behind f = (backward f j < t.count) × (walk next f (suc (backward f j)) ≡ suc j)

      behind : (f : ℕ) → f ≤ t.count → Behind f
      unfolding backward walk
      behind zero h = (l, refl)
      behind (suc f) h = go (feeder t (backward f j)) refl (behind f (omega arith))
        where
          go : (x : ℕ) → feeder t (backward f j) ≡ x → Behind f → (pred x < t.count) × (walk next f (next (pred x)) ≡ suc j)
          go zero e w = absurd (never_both _ (reached_hit t heads t.count j (backward f j) f w.0 (are _ w.0 ∙ unfed_head t (backward f j) e) h w.1) missed)
          go (suc p) e w = let b = fed_by t p (backward f j) e in (b.0, ap (walk next f) (link_next t p (backward f j) b.1) ∙ w.1)

      on : on_loop t j ≡ true
      on = go (on_loop t j) refl (pigeon t.count (λ f. backward f j) (λ f h. (behind f h).0))
        where
          go : (b : Bool) → on_loop t j ≡ b → Twice t.count (λ f. backward f j) → b ≡ true
          go true q w = refl
          go false q w =
              let a : ℕ = w.0 in
              let b : ℕ = w.1 in
              let one = (behind a (omega (arith, w.2, w.3))).1 in
              let two = (behind b w.3).1 in
              let total : b ≡ b - a + a = omega (arith, w.2) in
              absurd (off-loop t j q (b - a) (omega (arith, w.2)) (omega (arith, w.3))
              (ap (walk next (b - a)) (sym one)
              ∙ sym (walk-add next (b - a) a (suc (backward a j)))
              ∙ ap₂ (λ (x y : ℕ). walk next x (suc y)) (sym total) w.4
              ∙ two))

    pub loops_law : except (2 ^ t.count - 1) (reached_to t heads t.count) ≡ gather (on_loop t) t.count
    loops_law =
        mask_ext t.count _ _ (except_lt t.count (2 ^ t.count - 1) _ (omega (arith, pow_pos t.count))) (gather_lt _ t.count)
        (λ i h.
        has-except (2 ^ t.count - 1) _ i
        ∙ ap (λ (b : Bool). b && not (has (reached_to t heads t.count) i)) (below_has t.count i h)
        ∙ go i h (has (reached_to t heads t.count) i) refl
        ∙ sym (gather_in (on_loop t) t.count i h))
      where
        go : (i : ℕ) → i < t.count → (b : Bool) → has (reached_to t heads t.count) i ≡ b → not b ≡ on_loop t i
        go i h true e = sym (off i h e)
        go i h false e = sym (on i h e)

-- the lowest callback of 13, from the masks
pub looped_law : (t : Table) → t.count ≤ 16 → names_known t ≡ true → (s : Names) → s ≡ names_of t → lowest (λ i. leb 2 (named t i)) t.count ≡ 0
    → (h : ℕ) → h ≡ except (2 ^ t.count - 1) s.once → (r : ℕ) → r ≡ reached_to t h t.count → (m : ℕ) → m ≡ except (2 ^ t.count - 1) r
    → (x : ℕ) → x ≡ first_index m → x ≡ lowest (on_loop t) t.count
looped_law t few names s are twice h heads r reached m rest x e =
    e
    ∙ ap first_index
    (rest
    ∙ ap (except (2 ^ t.count - 1)) reached
    ∙ loops_law t (known t names) twice h (λ i l. ap (λ (m : ℕ). has m i) (heads_are t few s are h heads) ∙ gather_in (is_head t) t.count i l))
    ∙ first_gather (on_loop t) t.count few
