-- The first in priority is found in the kinds' masks. Assumes nothing.
-- sort_numbered, kinds_more: one record sorted in. foremost_or: of indices that may be missing.
-- foremost_law: the first in priority from the kinds' masks. foremost-hit, foremost-some, foremost_first: it passes, is there where one
-- passes, and precedes whoever else does. precedes_trans: whoever precedes one that precedes another precedes that one.
use mathlib.Core.Path.{◌≡◌, refl, sym, ap, ap₂, ◌∙◌}
use mathlib.Core.Logic.{◌⊎◌, inl, inr, ◌≢◌}
use mathlib.Core.Bool.{Bool, true, false, ◌&&◌, ◌||◌, or-true}
use Prim.Native.Nat.{ℕ, zero, suc, ◌+◌, ◌≤◌, ◌<◌}
use native.Mathlib.Decide.{ℕ_discrete}
use native.Mathlib.Numerals.{add-one}
use native.Mathlib.Omega.{arith}
use lib.Dec.{eqb, ltb}
use borrow.Author.Tests.{eq-eqb, ne_eqb, eqb-true, lt-ltb, ltb-true}
use Rattle.std.specs.Prelude.{Result, Ok, Err}
use Rattle.std.specs.Option.{option_or}
use Rattle.masks.specs.Mask.{has, with_bit, gather}
use Rattle.masks.specs.Parts.{both, first_index, some_index}
use Rattle.table.specs.declared.kinds.Kind.{Kind}
use Rattle.table.specs.declared.kinds.Kind.TheVariants.{Timer, Subscription, Service, Client}
use Rattle.table.specs.declared.kinds.UnknownKind.{UnknownKind}
use Rattle.table.specs.Kinds.{kind_numbered}
use Rattle.priority.specs.declared.Kinds.{Kinds}
use Rattle.masks.proofs.Index.{first_both}
use Rattle.ranges.specs.Least.{lowest}
use Rattle.ranges.proofs.LeastLaws.{lowest-hit, lowest_first, lowest-none}
use Rattle.ranges.proofs.SumLaws.{le_or_lt}
use Rattle.ranges.proofs.EveryLaws.{never_both, and_holds}
use Rattle.table.specs.declared.Table.{Table}
use Rattle.numbers.specs.Numbers.{timer, subscription, service, client}
use Rattle.table.specs.Values.{kind_of}
use Rattle.priority.specs.Priority.{precedes, foremost_from, foremost}
use Rattle.priority.specs.Parts.{kinds_to, kinds_of, sort_one, or_next, foremost_in}

pub kinds_more : (t : Table) (i : ℕ) → sort_one (kinds_to t i) (kind_of t i) i ≡ kinds_to t (i + 1)
unfolding kinds_to sort_one gather
kinds_more t i = ap (kinds_to t) (sym (add-one i))

-- one more slot, by the kind that a number has
abbrev pub sort_by : Kinds → Result Kind UnknownKind → ℕ → Kinds
sort_by k (Ok Timer) i = record { timers = with_bit k.timers i; subscriptions = k.subscriptions; services = k.services; clients = k.clients }
sort_by k (Ok Subscription) i = record { timers = k.timers; subscriptions = with_bit k.subscriptions i; services = k.services; clients = k.clients }
sort_by k (Ok Service) i = record { timers = k.timers; subscriptions = k.subscriptions; services = with_bit k.services i; clients = k.clients }
sort_by k (Ok Client) i = record { timers = k.timers; subscriptions = k.subscriptions; services = k.services; clients = with_bit k.clients i }
sort_by k (Err e) i = k

sort_law : (k : Kinds) (n i : ℕ) → sort_by k (kind_numbered n) i ≡ sort_one k n i
unfolding sort_one
sort_law k zero i = refl
sort_law k (suc zero) i = refl
sort_law k (suc (suc zero)) i = refl
sort_law k (suc (suc (suc zero))) i = refl
sort_law k (suc (suc (suc (suc zero)))) i = refl
sort_law k (suc (suc (suc (suc (suc n))))) i =
    simp (
      ne_eqb (suc (suc (suc (suc (suc n))))) 1 (λ e. omega arith),
      ne_eqb (suc (suc (suc (suc (suc n))))) 2 (λ e. omega arith),
      ne_eqb (suc (suc (suc (suc (suc n))))) 3 (λ e. omega arith),
      ne_eqb (suc (suc (suc (suc (suc n))))) 4 (λ e. omega arith),
    )

pub sort_numbered : (k : Kinds) (n i : ℕ) (r : Result Kind UnknownKind) → r ≡ kind_numbered n → sort_by k r i ≡ sort_one k n i
sort_numbered k n i r e = ap (λ (x : Result Kind UnknownKind). sort_by k x i) e ∙ sort_law k n i

-- indices that may be missing, one after the other
first_index_of : (x y z w : ℕ) → option_or (option_or (option_or (some_index x) (some_index y)) (some_index z)) (some_index w)
    ≡ some_index (or_next x (or_next y (or_next z w)))
first_index_of (suc i) y z w = refl
first_index_of zero (suc i) z w = refl
first_index_of zero zero (suc i) w = refl
first_index_of zero zero zero w = refl

pub foremost_or : (k : Kinds) (m : ℕ) → option_or (option_or (option_or
    (some_index (first_index (both k.timers m)))
    (some_index (first_index (both k.subscriptions m))))
    (some_index (first_index (both k.services m))))
    (some_index (first_index (both k.clients m)))
    ≡ some_index (foremost_in k m)
unfolding foremost_in
foremost_or k m = first_index_of (first_index (both k.timers m)) (first_index (both k.subscriptions m)) (first_index (both k.services m)) (first_index (both k.clients m))

next_last : (x : ℕ) → or_next x 0 ≡ x
next_last zero = refl
next_last (suc x) = refl

-- ---- the first in priority

pub foremost_law : (t : Table) (m : ℕ) → t.count ≤ 16 → foremost_in (kinds_of t) m ≡ foremost t (has m)
unfolding foremost_in foremost_from kinds_to
foremost_law t m le =
    ap₂ or_next (of timer)
    (ap₂ or_next (of subscription)
    (ap₂ or_next (of service)
    (of client ∙ sym (next_last (lowest (λ i. eqb (kind_of t i) client && has m i) t.count)))))
  where
    of : (kind : ℕ) → first_index (both (gather (λ i. eqb (kind_of t i) kind) t.count) m) ≡ lowest (λ i. eqb (kind_of t i) kind && has m i) t.count
    of kind = first_both (λ i. eqb (kind_of t i) kind) t.count le m

-- by what a search of one kind finds: nothing, so that the next kind is searched, or slot k
by_kind : (t : Table) (p : ℕ → Bool) (P : ℕ → Type 0) (f kind : ℕ)
    → (lowest (λ i. eqb (kind_of t i) kind && p i) t.count ≡ 0 → P (foremost_from t p f (suc kind)))
    → ((k : ℕ) → lowest (λ i. eqb (kind_of t i) kind && p i) t.count ≡ suc k → P (suc k))
    → P (foremost_from t p (suc f) kind)
unfolding foremost_from
by_kind t p P f kind none some = go (lowest (λ i. eqb (kind_of t i) kind && p i) t.count) refl
  where
    go : (x : ℕ) → lowest (λ i. eqb (kind_of t i) kind && p i) t.count ≡ x
        → P (elim x as (λ _. ℕ) [ zero ↦ foremost_from t p f (suc kind) | suc i ↦ suc i ])
    go zero e = none e
    go (suc k) e = some k e

module _ (t : Table) (p : ℕ → Bool) where
  abbrev of_kind : ℕ → ℕ → Bool
  of_kind kind i = eqb (kind_of t i) kind && p i

  -- whoever is found passes
  hit_from : (i f kind : ℕ) → foremost_from t p f kind ≡ suc i → (i < t.count) × (p i ≡ true)
  unfolding foremost_from
  hit_from i zero kind = λ e. absurd (omega arith)
  hit_from i (suc f) kind =
      by_kind t p (λ x. x ≡ suc i → (i < t.count) × (p i ≡ true)) f kind
      (λ z e. hit_from i f (suc kind) e)
      (λ k z e. (let a = lowest-hit (of_kind kind) t.count i (z ∙ e) in (a.0, (and_holds (eqb (kind_of t i) kind) (p i) a.1).1)))

  pub foremost-hit : (i : ℕ) → foremost t p ≡ suc i → (i < t.count) × (p i ≡ true)
  foremost-hit i e = hit_from i client timer e

  -- where slot j passes
  module _ (j : ℕ) (l : j < t.count) (pass : p j ≡ true) where
    passes : (kind : ℕ) → kind_of t j ≡ kind → of_kind kind j ≡ true
    passes kind q = ap₂ ◌&&◌ (eq-eqb (kind_of t j) kind q) pass

    -- a search of one kind that finds nobody has j in a later one
    later : (kind : ℕ) → kind ≤ kind_of t j → lowest (of_kind kind) t.count ≡ 0 → suc kind ≤ kind_of t j
    later kind a z = go (ℕ_discrete (kind_of t j) kind)
      where
        go : Dec (kind_of t j ≡ kind) → suc kind ≤ kind_of t j
        go (yes q) = absurd (never_both (of_kind kind j) (passes kind q) (lowest-none (of_kind kind) t.count z j l))
        go (no q) = omega arith

    -- somebody is found
    some_from : (f kind : ℕ) → kind ≤ kind_of t j → kind_of t j < kind + f → foremost_from t p f kind ≢ 0
    some_from zero kind a b = absurd (omega arith)
    some_from (suc f) kind a b = by_kind t p (λ x. x ≢ 0) f kind (λ z. some_from f (suc kind) (later kind a z) (omega arith)) (λ k z e. omega arith)

    pub foremost-some : timer ≤ kind_of t j → kind_of t j ≤ client → foremost t p ≢ 0
    foremost-some a b = some_from client timer a (omega arith)

    -- whoever is found, if it is another, precedes j
    module _ (i : ℕ) (other : j ≢ i) where
      -- found among those of one kind
      found : (kind : ℕ) → kind ≤ kind_of t j → lowest (of_kind kind) t.count ≡ suc i → precedes t i j ≡ true
      unfolding precedes
      found kind a e = go (ℕ_discrete (kind_of t j) kind)
        where
          own : kind_of t i ≡ kind
          own = eqb-true (kind_of t i) kind (and_holds (eqb (kind_of t i) kind) (p i) (lowest-hit (of_kind kind) t.count i e).1).0

          before : kind_of t j ≡ kind → i < j
          before q = pick (le_or_lt j i)
            where
              pick : (j ≤ i) ⊎ (i < j) → i < j
              pick (inl h) = absurd (never_both (of_kind kind j) (passes kind q) (lowest_first (of_kind kind) t.count i j e (omega arith)))
              pick (inr h) = h

          go : Dec (kind_of t j ≡ kind) → precedes t i j ≡ true
          go (yes q) =
              ap₂ (λ (x y : Bool). ltb (kind_of t i) (kind_of t j) || (x && y)) (eq-eqb (kind_of t i) (kind_of t j) (own ∙ sym q)) (lt-ltb i j (before q))
              ∙ or-true (ltb (kind_of t i) (kind_of t j))
          go (no q) = ap (λ (x : Bool). x || (eqb (kind_of t i) (kind_of t j) && ltb i j)) (lt-ltb (kind_of t i) (kind_of t j) (omega (arith, own)))

      first_from_lem : (f kind : ℕ) → kind ≤ kind_of t j → kind_of t j < kind + f → foremost_from t p f kind ≡ suc i → precedes t i j ≡ true
      first_from_lem zero kind a b = λ e. absurd (omega arith)
      first_from_lem (suc f) kind a b =
          by_kind t p (λ x. x ≡ suc i → precedes t i j ≡ true) f kind
          (λ z e. first_from_lem f (suc kind) (later kind a z) (omega arith) e)
          (λ k z e. found kind a (z ∙ e))

      pub foremost_first : timer ≤ kind_of t j → kind_of t j ≤ client → foremost t p ≡ suc i → precedes t i j ≡ true
      foremost_first a b e = first_from_lem client timer a (omega arith) e

-- ---- the higher priority

-- of two kinds the smaller, and of one kind the smaller slot
higher : (t : Table) (i j : ℕ) → precedes t i j ≡ true → (kind_of t i ≤ kind_of t j) × (kind_of t j ≤ kind_of t i → i < j)
unfolding precedes
higher t i j = go (ltb (kind_of t i) (kind_of t j)) refl
  where
    go : (b : Bool) → ltb (kind_of t i) (kind_of t j) ≡ b → (b || (eqb (kind_of t i) (kind_of t j) && ltb i j)) ≡ true
        → (kind_of t i ≤ kind_of t j) × (kind_of t j ≤ kind_of t i → i < j)
    go true l e = (let a = ltb-true (kind_of t i) (kind_of t j) l in (omega arith, λ h. absurd (omega arith)))
    go false l e =
        let a = and_holds (eqb (kind_of t i) (kind_of t j)) (ltb i j) e in
        (omega (arith, eqb-true (kind_of t i) (kind_of t j) a.0), λ h. ltb-true i j a.1)

pub precedes_trans : (t : Table) (i j k : ℕ) → precedes t i j ≡ true → precedes t j k ≡ true → precedes t i k ≡ true
unfolding precedes
precedes_trans t i j k e f = go (le_or_lt (kind_of t k) (kind_of t i))
  where
    a : (kind_of t i ≤ kind_of t j) × (kind_of t j ≤ kind_of t i → i < j)
    a = higher t i j e

    b : (kind_of t j ≤ kind_of t k) × (kind_of t k ≤ kind_of t j → j < k)
    b = higher t j k f

    go : (kind_of t k ≤ kind_of t i) ⊎ (kind_of t i < kind_of t k) → precedes t i k ≡ true
    go (inl h) =
        ap₂ (λ (x y : Bool). ltb (kind_of t i) (kind_of t k) || (x && y))
        (eq-eqb (kind_of t i) (kind_of t k) (omega (arith, a.0, b.0)))
        (lt-ltb i k (omega (arith, a.1 (omega (arith, b.0)), b.1 (omega (arith, a.0)))))
        ∙ or-true (ltb (kind_of t i) (kind_of t k))
    go (inr h) = ap (λ (x : Bool). x || (eqb (kind_of t i) (kind_of t k) && ltb i k)) (lt-ltb (kind_of t i) (kind_of t k) h)
