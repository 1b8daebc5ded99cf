-- Two tables of which the rules see the same have the same fault. Assumes nothing.
-- Alike: the same numbers in the header, and records that are judged alike and are the same where they pass. What stands beyond n is looked at by no rule.
-- links_alike, body_alike, fault_alike: 11 to 14; 5 to 14, 22 and 24; all of them, where 2 and 3 are judged alike.
use mathlib.Core.Path.{◌≡◌, refl, ap, ap₂, ◌∙◌}
use mathlib.Core.Bool.{Bool, true, false, cond, ◌&&◌}
use mathlib.Core.List.{List, [], ◌∷◌}
use Prim.Native.Nat.{ℕ, zero, suc, ◌+◌, ◌≤◌, ◌<◌}
use native.Mathlib.Omega.{arith}
use lib.Dec.{eqb, ltb, leb}
use lib.ListN.{get_or}
use Rattle.ranges.specs.Sum.{sum, given}
use Rattle.ranges.specs.Least.{lowest}
use Rattle.ranges.proofs.SumLaws.{sum_same}
use Rattle.ranges.proofs.LeastLaws.{least-same, lowest-same}
use Rattle.masks.specs.Mask.{has}
use Rattle.numbers.specs.Numbers
use Rattle.table.specs.declared.Callback.{Callback}
use Rattle.table.specs.declared.Refusal.{Refusal}
use Rattle.table.specs.declared.Table.{Table}
use Rattle.table.specs.Values.{refuse, accepted, or_else, lowest_refused, callback_of, callback_ticks, table_ticks, callback_at, next_of}
use Rattle.table.specs.Walk.{walk}
use Rattle.table.specs.Links.{linked, named, is_head, on_loop}
use Rattle.table.proofs.RefusalLaws.{first_alike}
use Rattle.link_rules.specs.LinkRules.{arrivals_fault, links_fault}
use Rattle.rules.specs.Rules.{head_fault, supply_fault, record_fault, records_by, body_fault, body_by, fault_of}
use Rattle.rules.proofs.Passed.{HeadPassed, head_passed, RecordPassed, records_passed}

-- ---- the links of tables with records that are the same but for m and the cost entries, none of which names a callback beyond n

-- what the links' rules see of a record
abbrev pub priceless : Callback → Callback
priceless c = callback_of (c.kind ∷ c.next ∷ []) (callback_ticks c) []

module _ (t u : Table) (count : t.count ≡ u.count) (same : (i : ℕ) → i < t.count → priceless (callback_at t i) ≡ priceless (callback_at u i))
    (known : (i : ℕ) → i < t.count → next_of t i ≤ t.count) where
  next_alike : (i : ℕ) → i < t.count → next_of t i ≡ next_of u i
  next_alike i l = ap (λ (c : Callback). c.next) (same i l)

  -- the lowest callback that something is true of
  lowest_alike : (p q : ℕ → Bool) → ((i : ℕ) → i < t.count → p i ≡ q i) → lowest p t.count ≡ lowest q u.count
  lowest_alike p q h = lowest-same p q t.count h ∙ ap (lowest q) count

  named_alike : (i : ℕ) → named t i ≡ named u i
  unfolding named linked
  named_alike i =
      sum_same (λ p. given (linked t p i) 1) (λ p. given (linked u p i) 1) t.count (λ p l. ap (λ (x : ℕ). given (eqb x (suc i)) 1) (next_alike p l))
      ∙ ap (λ (n : ℕ). sum n (λ p. given (linked u p i) 1)) count

  head_alike : (i : ℕ) → is_head t i ≡ is_head u i
  unfolding is_head
  head_alike i = ap (λ (x : ℕ). eqb x 0) (named_alike i)

  walk_alike : (k x : ℕ) → x ≤ t.count → walk (next_of t) k x ≡ walk (next_of u) k x
  unfolding walk
  walk_alike zero x h = refl
  walk_alike (suc k) zero h = refl
  walk_alike (suc k) (suc i) h = walk_alike k (next_of t i) (known i h) ∙ ap (walk (next_of u) k) (next_alike i h)

  loop_alike : (i : ℕ) → i < t.count → on_loop t i ≡ on_loop u i
  unfolding on_loop
  loop_alike i l = rw (
    least-same (λ k. eqb (walk (next_of t) k (suc i)) (suc i)) (λ k. eqb (walk (next_of u) k (suc i)) (suc i)) t.count 1 (λ k _ _. ap (λ (x : ℕ). eqb x (suc i)) (walk_alike k (suc i) l)),
    count,
  )

  pub links_alike : links_fault t ≡ links_fault u
  unfolding links_fault arrivals_fault
  links_alike =
      ap₂ (lowest_refused Numbers.named_twice) (lowest_alike _ _ (λ i l. ap (leb 2) (named_alike i)))
      (ap₂ (lowest_refused Numbers.timer_named) (lowest_alike _ _ (λ i l. ap₂ (λ (x k : ℕ). leb 1 x && eqb k Numbers.timer) (named_alike i) (ap (λ (c : Callback). c.kind) (same i l))))
      (ap₂ (lowest_refused Numbers.loop) (lowest_alike _ _ loop_alike)
      (ap (λ (x : ℕ). lowest_refused Numbers.wrong_arrivals x accepted) (lowest_alike _ _ (λ i l. ap₂ arrivals_fault (head_alike i) (same i l))))))

-- ---- the table

pub record Alike (t u : Table) : Type 0 where
  pub edition : t.edition ≡ u.edition
  pub count : t.count ≡ u.count
  pub ticks : table_ticks t ≡ table_ticks u
  pub judged : (i : ℕ) (spare : Bool) → i < t.count → record_fault t.count (callback_at t i) spare ≡ record_fault t.count (callback_at u i) spare
  pub same : (i : ℕ) (spare : Bool) → i < t.count → RecordPassed t.count (callback_at t i) spare → callback_at t i ≡ callback_at u i

module _ (t u : Table) (a : Alike t u) where
  records_alike : (k i : ℕ) → i + k ≤ t.count → records_by true 0 t k i ≡ records_by true 0 u k i
  unfolding records_by
  records_alike zero i h = refl
  records_alike (suc k) i h =
      ap₂ (λ (x : ℕ) (r : Refusal). elim x as (λ _. Refusal) [ zero ↦ r | suc y ↦ refuse (suc y) (suc i) ])
      (a.judged i (has 0 i) (omega arith) ∙ ap (λ (n : ℕ). record_fault n (callback_at u i) (has 0 i)) a.count)
      (records_alike k (suc i) (omega arith))

  -- records and links
  rest_alike : or_else (records_by true 0 t t.count 0) (links_fault t) ≡ or_else (records_by true 0 u u.count 0) (links_fault u)
  rest_alike =
      first_alike _ _ _ _ (records_alike t.count 0 (omega arith) ∙ ap (λ (n : ℕ). records_by true 0 u n 0) a.count)
      (λ e. let p = records_passed true 0 t e in links_alike t u a.count (λ i l. ap priceless (a.same i (has 0 i) l (p i l))) (λ i l. (p i l).next))

  pub body_alike : body_fault false 0 t ≡ body_fault false 0 u
  unfolding body_by
  body_alike =
      ap₂ (λ (v : List ℕ) (r : Refusal). cond (supply_fault (get_or v 0 0) (get_or v 1 0)) (refuse Numbers.wrong_supply 0)
      (cond (ltb Numbers.longest (get_or v 3 0)) (refuse Numbers.wrong_delay 0)
      (cond (ltb Numbers.longest (get_or v 2 0)) (refuse Numbers.wrong_horizon 0) r)))
      a.ticks rest_alike

-- edition and count are judged before anything else is looked at
pub fault_alike : (t u : Table) → head_fault t.edition t.count ≡ head_fault u.edition u.count → (HeadPassed t.edition t.count → Alike t u)
    → fault_of t ≡ fault_of u
unfolding fault_of
fault_alike t u head alike = first_alike _ _ _ _ head (λ e. body_alike t u (alike (head_passed t.edition t.count e)))
