-- Whom a completion activates, and bits of a mask that belong to no head. Assumes nothing.
--   next_none, next_some   whom a completion activates
--   foreign_law            the lowest bit that belongs to no head
--   masked                 where there is none, the mask has heads alone
use mathlib.Core.Path.{◌≡◌, refl, sym, subst, ap, ◌∙◌}
use mathlib.Core.Logic.{◌≢◌}
use mathlib.Core.Bool.{Bool, true, false, not, ◌&&◌}
use Prim.Native.Nat.{ℕ, zero, suc, ◌-◌, ◌<◌}
use native.Mathlib.Omega.{arith}
use lib.Dec.{ltb}
use borrow.Author.Tests.{ltb-true, ltb-false, not-false}
use Rattle.masks.specs.Mask.{has, gather}
use Rattle.masks.specs.Parts.{except, first_index}
use Rattle.masks.proofs.Slots.{has-except, except_lt, has_above}
use Rattle.masks.proofs.Gather.{gather-has}
use Rattle.masks.proofs.Index.{first_lowest}
use Rattle.ranges.proofs.EveryLaws.{and_holds}
use Rattle.ranges.proofs.LeastLaws.{lowest-none}
use Rattle.numbers.specs.Numbers.{places}
use Rattle.table.specs.declared.Table.{Table}
use Rattle.table.specs.Values.{next_of}
use Rattle.table.specs.Links.{is_head, next_after, foreign}

-- ---- who is activated

module _ (t : Table) (x : ℕ) where
  pub next_none : x ≡ 0 → 0 ≡ next_after t x
  unfolding next_after
  next_none e = sym (ap (next_after t) e)

  pub next_some : x ≢ 0 → next_of t (x - 1) ≡ next_after t x
  unfolding next_after
  next_some h = go x h
    where
      go : (y : ℕ) → y ≢ 0 → next_of t (y - 1) ≡ elim y [ zero ↦ 0 | suc i ↦ next_of t i ]
      go zero n = absurd (n refl)
      go (suc i) n = ap (next_of t) (omega arith)

-- ---- a bit that belongs to no head

pub foreign_law : (t : Table) (mask heads rest x : ℕ) → mask < 65536 → heads ≡ gather (is_head t) t.count
    → rest ≡ except mask heads → x ≡ first_index rest → x ≡ foreign t mask
unfolding foreign
foreign_law t mask heads rest x l e f g = g ∙ first_lowest _ 16 (omega arith) rest small same
  where
    small : rest < 65536
    small = subst (λ (y : ℕ). y < 65536) (sym f) (except_lt 16 mask heads l)

    test : ℕ → Bool
    test i = has mask i && not (ltb i t.count && is_head t i)

    same : (i : ℕ) → has rest i ≡ (ltb i 16 && test i)
    same i = go (ltb i 16) refl
      where
        go : (b : Bool) → ltb i 16 ≡ b → has rest i ≡ (b && test i)
        go true q =
            ap (λ (y : ℕ). has y i) f ∙ has-except mask heads i ∙ ap (λ (b : Bool). has mask i && not b) (ap (λ (y : ℕ). has y i) e ∙ gather-has (is_head t) t.count i)
        go false q = has_above 16 rest i small (ltb-false i 16 q)

-- whoever is in a mask that row 20 lets pass is a head of the table
pub masked : (t : Table) (mask : ℕ) → foreign t mask ≡ 0 → (i : ℕ) → i < places → has mask i ≡ true → (i < t.count) × (is_head t i ≡ true)
unfolding foreign
masked t mask e i l h =
    let a = and_holds (ltb i t.count) (is_head t i) (not-false _ (sym (ap (λ (b : Bool). b && not (ltb i t.count && is_head t i)) h) ∙ lowest-none _ places e i l)) in
    (ltb-true i t.count a.0, a.1)
