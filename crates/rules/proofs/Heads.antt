-- Chains of a sound table: each callback has exactly one head, from which next leads to it. Assumes nothing.
-- link_next, next_link, fed_by, unfed: who feeds whom. head_unfed, unfed_head: a head is fed by nobody.
-- head_lt, head_leads: the head is one of the callbacks, and next leads from it. Of a sound table:
-- rank_up: along next a rank rises. fed_once, feeder_is: each is fed once at most.
-- top, down, head_self, head_is_head, head_only: a head's head is itself, a follower's is its feeder's, it is a head, and there is no other.
use mathlib.Core.Path.{◌≡◌, refl, sym, ap, ◌∙◌, subst}
use mathlib.Core.Bool.{true}
use Prim.Native.Nat.{ℕ, zero, suc, ◌+◌, ◌-◌, ◌≤◌, ◌<◌}
use native.Mathlib.Omega.{arith}
use lib.Dec.{T}
use Rattle.table.specs.Walk.{walk}
use Rattle.table.proofs.WalkLaws.{walk_zero, walk-add, rank, rank_le, ranked}
use Rattle.table.specs.declared.Table.{Table}
use Rattle.table.specs.Values.{next_of}
use Rattle.table.specs.Links.{linked, is_head}
use Rattle.rules.specs.Parts.{Sound}
use Rattle.chains.specs.Chains.{feeder, head_from, head_of}
use Rattle.link_rules.proofs.Names.{head_unfed, unfed_head, next_link, link_next, unfed, fed_by}

module _ (t : Table) where
  -- ---- the way back

  -- by the feeder of i: none, or p
  by_feeder : (P : ℕ → Type 0) (f i : ℕ) → (feeder t i ≡ 0 → P i) → ((p : ℕ) → feeder t i ≡ suc p → P (head_from t f p)) → P (head_from t (suc f) i)
  unfolding head_from
  by_feeder P f i none some = go (feeder t i) refl
    where
      go : (x : ℕ) → feeder t i ≡ x → P (elim x as (λ _. ℕ) [ zero ↦ i | suc p ↦ head_from t f p ])
      go zero e = none e
      go (suc p) e = some p e

  from_lt : (f i : ℕ) → i < t.count → head_from t f i < t.count
  unfolding head_from
  from_lt zero i l = l
  from_lt (suc f) i l = by_feeder (λ x. x < t.count) f i (λ e. l) (λ p e. from_lt f p (fed_by t p i e).0)

  from_leads : (f i : ℕ) → (k : ℕ) × (k ≤ f) × (walk (next_of t) k (suc (head_from t f i)) ≡ suc i)
  unfolding head_from walk
  from_leads zero i = (0, omega arith, refl)
  from_leads (suc f) i =
      by_feeder (λ x. (k : ℕ) × (k ≤ suc f) × (walk (next_of t) k (suc x) ≡ suc i)) f i
      (λ e. (0, omega arith, refl))
      (λ p e. more p e (from_leads f p))
    where
      more : (p : ℕ) → feeder t i ≡ suc p → (k : ℕ) × (k ≤ f) × (walk (next_of t) k (suc (head_from t f p)) ≡ suc p)
          → (k : ℕ) × (k ≤ suc f) × (walk (next_of t) k (suc (head_from t f p)) ≡ suc i)
      more p e s = (1 + s.0, omega (arith, s.1), walk-add (next_of t) 1 s.0 (suc (head_from t f p)) ∙ ap (walk (next_of t) 1) s.2 ∙ link_next t p i (fed_by t p i e).1)

  -- the head is one of the callbacks
  pub head_lt : (i : ℕ) → i < t.count → head_of t i < t.count
  unfolding head_of
  head_lt i l = from_lt t.count i l

  -- next leads from the head to it
  pub head_leads : (i : ℕ) → (k : ℕ) × (k ≤ t.count) × (walk (next_of t) k (suc (head_of t i)) ≡ suc i)
  unfolding head_of
  head_leads i = from_leads t.count i

  -- the head of a head
  from_top : (f i : ℕ) → ((p : ℕ) → p < t.count → ¬ (T (linked t p i))) → head_from t f i ≡ i
  unfolding head_from
  from_top zero i h = refl
  from_top (suc f) i h = by_feeder (λ x. x ≡ i) f i (λ e. refl) (λ p e. absurd (h p (fed_by t p i e).0 (fed_by t p i e).1))

  pub top : (i : ℕ) → ((p : ℕ) → p < t.count → ¬ (T (linked t p i))) → head_of t i ≡ i
  unfolding head_of
  top i h = from_top t.count i h

  pub head_self : (i : ℕ) → is_head t i ≡ true → head_of t i ≡ i
  head_self i e = top i (head_unfed t i e)

  -- ---- of a sound table

  module _ (so : Sound t) where
    -- along next a rank rises
    pub rank_up : (p i : ℕ) → p < t.count → i < t.count → T (linked t p i) → rank (next_of t) t.count p < rank (next_of t) t.count i
    rank_up p i hp hi k = ranked (next_of t) t.count so.names so.loopless p i hp hi (link_next t p i k)

    pub fed_once : (p q i : ℕ) → p < t.count → q < t.count → T (linked t p i) → T (linked t q i) → p ≡ q
    fed_once p q i hp hq k l = so.once p q i hp hq (link_next t p i k) (link_next t q i l)

    pub feeder_is : (p i : ℕ) → p < t.count → T (linked t p i) → feeder t i ≡ suc p
    feeder_is p i hp k = go (feeder t i) refl
      where
        go : (x : ℕ) → feeder t i ≡ x → x ≡ suc p
        go zero e = absurd (unfed t i e p hp k)
        go (suc q) e = ap suc (fed_once q p i (fed_by t q i e).0 hp (fed_by t q i e).1 k)

    -- from rank f on, more steps back change nothing, and end at a head
    stable : (f i : ℕ) → i < t.count → rank (next_of t) t.count i ≤ f → head_from t f i ≡ head_from t (suc f) i
    unfolding head_from
    stable zero i l h = sym (by_feeder (λ x. x ≡ i) zero i (λ e. refl) (λ p e. absurd (omega (arith, rank_up p i (fed_by t p i e).0 l (fed_by t p i e).1))))
    stable (suc f) i l h = go (feeder t i) refl (λ p k m. stable f p k m)
      where
        go : (x : ℕ) → feeder t i ≡ x → ((p : ℕ) → p < t.count → rank (next_of t) t.count p ≤ f → head_from t f p ≡ head_from t (suc f) p)
            → ◌≡◌ {A = ℕ} (elim x [ zero ↦ i | suc p ↦ head_from t f p ]) (elim x [ zero ↦ i | suc p ↦ head_from t (suc f) p ])
        go zero e w = refl
        go (suc p) e w = w p (fed_by t p i e).0 (omega (arith, rank_up p i (fed_by t p i e).0 l (fed_by t p i e).1))

    ends_unfed : (f i : ℕ) → i < t.count → rank (next_of t) t.count i ≤ f → feeder t (head_from t f i) ≡ 0
    unfolding head_from
    ends_unfed zero i l h = go (feeder t i) refl
      where
        go : (x : ℕ) → feeder t i ≡ x → x ≡ 0
        go zero e = refl
        go (suc p) e = absurd (omega (arith, rank_up p i (fed_by t p i e).0 l (fed_by t p i e).1))
    ends_unfed (suc f) i l h =
        by_feeder (λ x. feeder t x ≡ 0) f i (λ e. e) (λ p e. ends_unfed f p (fed_by t p i e).0 (omega (arith, rank_up p i (fed_by t p i e).0 l (fed_by t p i e).1)))

    pub head_is_head : (i : ℕ) → i < t.count → is_head t (head_of t i) ≡ true
    unfolding head_of
    head_is_head i l = unfed_head t (head_from t t.count i) (ends_unfed t.count i l (rank_le (next_of t) t.count i))

    -- a follower's head is that of the callback which names it
    from_down : (f p i : ℕ) → p < t.count → i < t.count → T (linked t p i) → t.count ≤ suc f → head_from t (suc f) i ≡ head_from t (suc f) p
    unfolding head_from
    from_down f p i hp hi k m =
        ap (λ (x : ℕ). elim x as (λ _. ℕ) [ zero ↦ i | suc q ↦ head_from t f q ]) (feeder_is p i hp k)
        ∙ stable f p hp (omega (arith, rank_up p i hp hi k, rank_le (next_of t) t.count i))

    pub down : (p i : ℕ) → p < t.count → i < t.count → T (linked t p i) → head_of t i ≡ head_of t p
    unfolding head_of
    down p i hp hi k =
        let e : suc (t.count - 1) ≡ t.count = omega arith in
        subst (λ (y : ℕ). head_from t y i ≡ head_from t y p) e (from_down (t.count - 1) p i hp hi k (omega arith))

    -- next leads to callbacks of the same head
    leads_same : (k h i : ℕ) → h < t.count → walk (next_of t) k (suc h) ≡ suc i → head_of t i ≡ head_of t h
    unfolding walk
    leads_same zero h i l e = ap (head_of t) (let q : i ≡ h = omega arith in q)
    leads_same (suc k) h i l e = go (next_of t h) refl (λ j m f. leads_same k j i m f)
      where
        go : (x : ℕ) → next_of t h ≡ x → ((j : ℕ) → j < t.count → walk (next_of t) k (suc j) ≡ suc i → head_of t i ≡ head_of t j) → head_of t i ≡ head_of t h
        go zero f w = absurd (omega (arith, walk_zero (next_of t) k, ap (walk (next_of t) k) f))
        go (suc j) f w =
            let m : j < t.count = omega (arith, so.names h l) in
            w j m (ap (walk (next_of t) k) (sym f) ∙ e) ∙ down h j l m (next_link t h j f)

    -- there is no other head from which next leads to i
    pub head_only : (k h i : ℕ) → h < t.count → is_head t h ≡ true → walk (next_of t) k (suc h) ≡ suc i → head_of t i ≡ h
    head_only k h i l e f = leads_same k h i l f ∙ head_self h e
