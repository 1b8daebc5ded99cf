-- Step 3 of a tick.
--   Chosen, chooses                        what a choice gives, whoever is polled: the chosen one waits and is cached then if it is polled, the cache
--                                          holds what it should, somebody is chosen wherever somebody waits, and unpolled ones go before all else
--   all_polled, chosen_cached, cache_first  edition 2: nobody is chosen outside the cache, and while it has somebody, a timer that waits outside it
--                                          goes on waiting
--   choose_hit, at_poll                    what is chosen in masks, by what the first two searches find together
--   Sorted, one-polled, one_unpolled, one-idle, polled_at  the slots that wait, one after the other
--   foremost-same, choose_law              the choice in masks is that of step 3
use mathlib.Core.Path.{◌≡◌, refl, sym, ap, ap₂, ◌∙◌}
use mathlib.Core.Logic.{◌≢◌}
use mathlib.Core.Bool.{Bool, true, false, not, ◌&&◌, ◌||◌, and-false}
use mathlib.Core.List.{List}
use Prim.Native.Nat.{ℕ, zero, suc, ◌+◌, ◌≤◌, ◌<◌}
use native.Mathlib.Omega.{arith}
use lib.Dec.{eqb, ltb}
use lib.ListN.{length, get_or, take}
use borrow.Author.Tests.{ltb-true, lt-ltb, le-ltb, eq-eqb}
use Rattle.std.specs.Prelude.{Option, Some}
use Rattle.std.specs.Option.{option_or, unwrap_or}
use Rattle.masks.specs.Mask.{has, with_bit, count_of}
use Rattle.masks.specs.Parts.{some_index}
use Rattle.masks.proofs.Gather.{gather_in, gather-has, gather_took, gather-left}
use Rattle.ranges.proofs.LeastLaws.{lowest-same}
use Rattle.ranges.proofs.EveryLaws.{flipped, and_holds, never_both}
use Rattle.table.specs.declared.Table.{Table}
use Rattle.priority.specs.declared.Kinds as masked
use Rattle.numbers.specs.Numbers.{places, edition_two, timer, client}
use Rattle.table.specs.declared.Callback.{Callback}
use Rattle.table.specs.Values.{kind_of, vacant}
use Rattle.table.proofs.UsedLaws.{used-at}
use Rattle.turns.specs.declared.Choice.{Choice}
use Rattle.turns.specs.declared.Waits as split
use Rattle.turns.specs.Choosing.{polled, is_polled, choice, gathered_of, polling_point, choose}
use Rattle.turns.specs.Parts.{waits_of, poll_in, choose_in, Cached}
use Rattle.queues.specs.Queues.{waits}
use Rattle.priority.specs.Priority.{precedes, foremost_from, foremost}
use Rattle.priority.specs.Parts.{foremost_in, kinds_of}
use Rattle.priority.proofs.PriorityLaws.{foremost_law, foremost-hit, foremost-some, foremost_first}

-- a choice by what its two searches find, and by what a poll would give
abbrev chosen_of : ℕ → ℕ → ℕ → Choice → Choice
chosen_of c x y z = elim x [ suc i ↦ choice (suc i) c false 0 | zero ↦ elim y [ suc i ↦ choice (suc i) c false 0 | zero ↦ z ] ]

-- ---- what a choice gives

pub record Chosen (t : Table) (ws : List ℕ) (r : Choice) : Type 0 where
  pub kept : Cached t r.cache ws
  pub waiting : (i : ℕ) → r.chosen ≡ suc i → (i < t.count) × (0 < get_or ws i 0) × (is_polled t i ≡ true → has r.cache i ≡ true)
  -- over a table whose kinds are in order
  pub some : ((i : ℕ) → i < t.count → (timer ≤ kind_of t i) × (kind_of t i ≤ client)) → (j : ℕ) → j < t.count → 0 < get_or ws j 0 → r.chosen ≢ 0
  -- where an unpolled callback waits, the chosen one is it or has the higher priority
  pub urgent : ((i : ℕ) → i < t.count → (timer ≤ kind_of t i) × (kind_of t i ≤ client))
      → (i j : ℕ) → i < t.count → 0 < get_or ws i 0 → is_polled t i ≡ false → r.chosen ≡ suc j → i ≢ j → precedes t j i ≡ true

module _ (t : Table) (ws : List ℕ) where
  unpolled : ℕ → Bool
  unpolled i = not (is_polled t i) && waits ws i

  -- whom a polling point gathers
  gathered_cached : Cached t (gathered_of t ws) ws
  unfolding gathered_of
  gathered_cached i h =
      let a = and_holds (ltb i t.count) (is_polled t i && waits ws i) (sym (gather-has (λ j. is_polled t j && waits ws j) t.count i) ∙ h) in
      let b = and_holds (is_polled t i) (waits ws i) a.1 in
      (ltb-true i t.count a.0, ltb-true 0 (get_or ws i 0) b.1, b.0)

  -- an unpolled callback that waits is among those searched first
  passes : (i : ℕ) → 0 < get_or ws i 0 → is_polled t i ≡ false → unpolled i ≡ true
  unfolding unpolled
  passes i w p = ap₂ ◌&&◌ (ap not p) (lt-ltb 0 (get_or ws i 0) w)

  -- where no unpolled callback waits, a poll finds whoever waits
  found : (j : ℕ) → j < t.count → (timer ≤ kind_of t j) × (kind_of t j ≤ client) → 0 < get_or ws j 0 → foremost t unpolled ≡ 0
      → (b : Bool) → is_polled t j ≡ b → foremost t (has (gathered_of t ws)) ≢ 0
  unfolding gathered_of unpolled
  found j l k w z true q =
      foremost-some t (has (gathered_of t ws)) j l (gather_in (λ i. is_polled t i && waits ws i) t.count j l ∙ ap₂ ◌&&◌ q (lt-ltb 0 (get_or ws j 0) w)) k.0 k.1
  found j l k w z false q = absurd (foremost-some t unpolled j l (ap₂ ◌&&◌ (ap not q) (lt-ltb 0 (get_or ws j 0) w)) k.0 k.1 z)

  pub chooses : (c : ℕ) → Cached t c ws → Chosen t ws (choose t c ws)
  unfolding choose unpolled
  chooses c good = go (foremost t unpolled) refl (foremost t (has c)) refl
    where
      go : (x : ℕ) → foremost t unpolled ≡ x → (y : ℕ) → foremost t (has c) ≡ y → Chosen t ws (chosen_of c x y (polling_point t (gathered_of t ws)))
      go (suc i) e y f = record {
        kept = good;
        waiting = λ j q. (
            let a = foremost-hit t unpolled j (e ∙ q) in
            let b = and_holds (not (is_polled t j)) (waits ws j) a.1 in
            (a.0, ltb-true 0 (get_or ws j 0) b.1, λ p. absurd (never_both (is_polled t j) p (flipped (is_polled t j) true b.0)))
            );
        some = λ k j l h. omega arith;
        urgent = λ k u j l h p q d. foremost_first t unpolled u l (passes u h p) j d (k u l).0 (k u l).1 (e ∙ q);
      }
      go zero e (suc i) f = record {
        kept = good;
        waiting = λ j q. (let a = foremost-hit t (has c) j (f ∙ q) in (a.0, (good j a.1).1, λ p. a.1));
        some = λ k j l h. omega arith;
        urgent = λ k u j l h p q d. absurd (foremost-some t unpolled u l (passes u h p) (k u l).0 (k u l).1 e);
      }
      go zero e zero f = record {
        kept = gathered_cached;
        waiting = λ j q. (let a = foremost-hit t (has (gathered_of t ws)) j q in (a.0, (gathered_cached j a.1).1, λ p. a.1));
        some = λ k j l h. found j l (k j l) h e (is_polled t j) refl;
        urgent = λ k u j l h p q d. absurd (foremost-some t unpolled u l (passes u h p) (k u l).0 (k u l).1 e);
      }

-- ---- edition 2

module _ (t : Table) (two : t.edition ≡ edition_two) where
  pub all_polled : (i : ℕ) → is_polled t i ≡ true
  unfolding polled
  all_polled i = ap (λ (b : Bool). b || not (eqb (kind_of t i) timer)) (eq-eqb t.edition edition_two two)

  -- the chosen one is in the cache then
  pub chosen_cached : (c : ℕ) (ws : List ℕ) → Cached t c ws → (i : ℕ) → (choose t c ws).chosen ≡ suc i → has (choose t c ws).cache i ≡ true
  chosen_cached c ws good i e = ((chooses t ws c good).waiting i e).2 (all_polled i)

  -- while somebody is cached there is no polling point: the first in the cache is chosen, and the cache stays
  pub cache_first : (c : ℕ) (ws : List ℕ) → foremost t (has c) ≢ 0 → choose t c ws ≡ choice (foremost t (has c)) c false 0
  unfolding choose unpolled
  cache_first c ws some = go (foremost t (unpolled t ws)) refl (foremost t (has c)) some
    where
      go : (x : ℕ) → foremost t (unpolled t ws) ≡ x → (y : ℕ) → y ≢ 0 → chosen_of c x y (polling_point t (gathered_of t ws)) ≡ choice y c false 0
      go (suc i) e y n =
          let a = and_holds (not (is_polled t i)) (waits ws i) (foremost-hit t (unpolled t ws) i e).1 in
          absurd (never_both (is_polled t i) (all_polled i) (flipped (is_polled t i) true a.0))
      go zero e (suc i) n = refl
      go zero e zero n = absurd (n refl)

-- ---- the choice in masks

-- by what the two searches find together: somebody, or nobody
hit_of : (c x y v : ℕ) (z : Choice) → option_or (some_index x) (some_index y) ≡ Some v → choice v c false 0 ≡ chosen_of c x y z
hit_of c (suc i) y v z e = (let q : v ≡ suc i = cc in ap (λ (u : ℕ). choice u c false 0) q)
hit_of c zero (suc i) v z e = (let q : v ≡ suc i = cc in ap (λ (u : ℕ). choice u c false 0) q)
hit_of c zero zero v z e = absurd (cc)

miss_of : (c x y : ℕ) (z : Choice) → ((v : ℕ) → option_or (some_index x) (some_index y) ≡ Some v → ⊥) → z ≡ chosen_of c x y z
miss_of c (suc i) y z h = absurd (h (suc i) refl)
miss_of c zero (suc i) z h = absurd (h (suc i) refl)
miss_of c zero zero z h = refl

-- an index that may be missing, with 0 for none
index_of : (x : ℕ) → unwrap_or (some_index x) 0 ≡ x
index_of zero = refl
index_of (suc i) = refl

module _ (k : masked.Kinds) (c : ℕ) (w : split.Waits) where
  pub choose_hit : (v : ℕ) (r : Option ℕ) → r ≡ option_or (some_index (foremost_in k w.unpolled)) (some_index (foremost_in k c)) → r ≡ Some v
      → choice v c false 0 ≡ choose_in k c w
  unfolding choose_in
  choose_hit v r e h = hit_of c (foremost_in k w.unpolled) (foremost_in k c) v (poll_in k w.polled) (sym e ∙ h)

  pub at_poll : (x n : ℕ) (r p : Option ℕ) → r ≡ option_or (some_index (foremost_in k w.unpolled)) (some_index (foremost_in k c)) → ((v : ℕ) → r ≡ Some v → ⊥)
      → p ≡ some_index (foremost_in k w.polled) → x ≡ unwrap_or p 0 → n ≡ count_of places w.polled → choice x w.polled true n ≡ choose_in k c w
  unfolding choose_in
  at_poll x n r p e none f g h =
      ap₂ (λ (i j : ℕ). choice i w.polled true j) (g ∙ ap (λ (o : Option ℕ). unwrap_or o 0) f ∙ index_of (foremost_in k w.polled)) h
      ∙ miss_of c (foremost_in k w.unpolled) (foremost_in k c) (poll_in k w.polled) (λ v q. none v (e ∙ q))

-- one slot more of those that wait: it is polled, it is not, it does not wait
abbrev pub Sorted : Table → List ℕ → ℕ → ℕ → ℕ → Type 0
Sorted t ws i g o = (g ≡ (waits_of t ws i).polled) × (o ≡ (waits_of t ws i).unpolled)

module _ (t : Table) (ws : List ℕ) (i g o : ℕ) (inv : Sorted t ws i g o) where
  pub one-polled : 0 < get_or ws i 0 → is_polled t i ≡ true → Sorted t ws (i + 1) (with_bit g i) o
  one-polled w p = (
    gather_took (λ j. is_polled t j && waits ws j) i g inv.0 (ap₂ ◌&&◌ p (lt-ltb 0 (get_or ws i 0) w)),
    gather-left (λ j. not (is_polled t j) && waits ws j) i o inv.1 (ap (λ (b : Bool). not b && waits ws i) p),
  )

  pub one_unpolled : 0 < get_or ws i 0 → is_polled t i ≡ false → Sorted t ws (i + 1) g (with_bit o i)
  one_unpolled w p = (
    gather-left (λ j. is_polled t j && waits ws j) i g inv.0 (ap (λ (b : Bool). b && waits ws i) p),
    gather_took (λ j. not (is_polled t j) && waits ws j) i o inv.1 (ap₂ (λ (a b : Bool). not a && b) p (lt-ltb 0 (get_or ws i 0) w)),
  )

  pub one-idle : get_or ws i 0 ≤ 0 → Sorted t ws (i + 1) g o
  one-idle w = (
    gather-left (λ j. is_polled t j && waits ws j) i g inv.0 (ap (λ (b : Bool). is_polled t i && b) (le-ltb 0 (get_or ws i 0) w) ∙ and-false (is_polled t i)),
    gather-left (λ j. not (is_polled t j) && waits ws j) i o inv.1 (ap (λ (b : Bool). not (is_polled t i) && b) (le-ltb 0 (get_or ws i 0) w) ∙ and-false (not (is_polled t i))),
  )

-- whether the callback of a place among those that are used is polled
pub polled_at : (t : Table) (i : ℕ) (b : Bool) → i < length (take t.count t.callbacks) → b ≡ polled t.edition (get_or (take t.count t.callbacks) i vacant).kind
    → b ≡ is_polled t i
polled_at t i b l e = e ∙ ap (λ (x : Callback). polled t.edition x.kind) (used-at t i l)

-- tests that agree on the callbacks of the table
pub foremost-same : (t : Table) (p q : ℕ → Bool) → ((i : ℕ) → i < t.count → p i ≡ q i) → foremost t p ≡ foremost t q
unfolding foremost_from
foremost-same t p q same = go client timer
  where
    go : (f kind : ℕ) → foremost_from t p f kind ≡ foremost_from t q f kind
    go zero kind = refl
    go (suc f) kind =
        ap₂ (λ (x y : ℕ). elim x [ zero ↦ y | suc i ↦ suc i ])
        (lowest-same _ _ t.count (λ i l. ap (λ (b : Bool). eqb (kind_of t i) kind && b) (same i l)))
        (go f (suc kind))

pub choose_law : (t : Table) (ws : List ℕ) → t.count ≤ places → (c : ℕ) → choose_in (kinds_of t) c (waits_of t ws t.count) ≡ choose t c ws
unfolding choose_in choose gathered_of unpolled
choose_law t ws le c =
    ap₂ (λ (x y : ℕ). chosen_of c x y (poll_in (kinds_of t) (gathered_of t ws))) first (foremost_law t c le)
    ∙ ap (λ (x : ℕ). chosen_of c (foremost t (unpolled t ws)) (foremost t (has c)) (choice x (gathered_of t ws) true (count_of places (gathered_of t ws))))
    (foremost_law t (gathered_of t ws) le)
  where
    first : foremost_in (kinds_of t) (waits_of t ws t.count).unpolled ≡ foremost t (unpolled t ws)
    first = foremost_law t _ le ∙ foremost-same t _ _ (gather_in (unpolled t ws) t.count)
