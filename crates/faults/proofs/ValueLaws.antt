-- The faults of number 29 over values, test by test. Assumes nothing.
--   cached_only, running_only    what is left of the tests of the cache
--   slot_is                      what the code finds in a slot
--   SlotRight, RunRight          what a slot and what runs have where nothing is wrong: slot_right, slot_faultless, run_right, run_faultless
--   table_judged                 the table
use mathlib.Core.Path.{◌≡◌, refl, sym, ap, ap₂, ◌∙◌}
use mathlib.Core.Logic.{◌≢◌}
use mathlib.Core.Bool.{Bool, true, false, cond, not, ◌&&◌, ◌||◌}
use mathlib.Core.List.{List}
use Prim.Native.Nat.{ℕ, ◌+◌, ◌≤◌, ◌<◌}
use native.Mathlib.Numerals.{add-one}
use native.Mathlib.Omega.{arith}
use lib.Dec.{eqb, ltb, leb}
use lib.ListN.{get_or}
use Rattle.masks.specs.Mask.{has}
use Rattle.turns.specs.Choosing.{is_polled}
use borrow.Author.Tests.{le-ltb, ltb-false, ne_eqb, eq-eqb, eqb-false, eqb-true}
use Rattle.ranges.specs.Every.{within}
use Rattle.ranges.proofs.EveryLaws.{or_fails, within_passed, within_holds, never_both}
use native.Mathlib.Decide.{ℕ_discrete}
use Rattle.std.specs.Result.{is_err}
use Rattle.table.specs.Values.{unless}
use Rattle.table.proofs.RefusalLaws.{refused, passed}
use Rattle.table.specs.declared.Table.{Table}
use Rattle.numbers.specs.Numbers.{most_waiting, longest}
use Rattle.rules.specs.Rules.{fault_of}
use Rattle.faults.specs.Faults.{table_fault, beyond_wrong, count_wrong, cache_wrong, slot_wrong, slot_fault, run_wrong}

-- where a slot that waits is cached, only an unpolled callback is at fault
pub cached_only : (runs polled : Bool) → not polled ≡ (not polled || (runs && (polled && false)))
cached_only true true = refl
cached_only true false = refl
cached_only false true = refl
cached_only false false = refl

-- where it runs and is not cached, only a polled one is
pub running_only : (polled : Bool) → polled ≡ (polled && true)
running_only true = refl
running_only false = refl

-- what the code finds in a slot
pub slot_is : (t : Table) (c r i : ℕ) (ws fs : List ℕ) (clock : ℕ) (cached polls b : Bool) → cached ≡ has c i → polls ≡ is_polled t i
    → b ≡ slot_wrong (leb t.count i) cached (eqb r (i + 1)) polls (get_or ws i 0) (get_or fs i 0) clock → slot_fault t c r ws fs clock i ≡ b
slot_is t c r i ws fs clock cached polls b e g f = rw (← e, ← g, ← add-one) (sym f)

-- ---- where nothing is wrong

pub record SlotRight (beyond cached runs polled : Bool) (w f clock : ℕ) : Type 0 where
  pub outside : beyond ≡ true → (cached ≡ false) × (w ≡ 0) × (f ≡ 0)
  pub room : w ≤ most_waiting
  pub early : f ≤ clock
  pub kept : cached ≡ true → (0 < w) × (polled ≡ true)
  pub running : runs ≡ true → (0 < w) × (polled ≡ true → cached ≡ true)

-- the tests of the cache, by what they find
cache_right : (c r p z : Bool) → (((c || r) && z) || ((c && not p) || (r && (p && not c)))) ≡ false
    → (c ≡ true → (z ≡ false) × (p ≡ true)) × (r ≡ true → (z ≡ false) × (p ≡ true → c ≡ true))
cache_right true r p true e = absurd (never_both true refl e)
cache_right true r false false e = absurd (never_both true refl e)
cache_right true r true false e = (λ _. (refl, refl), λ _. (refl, λ _. refl))
cache_right false true p true e = absurd (never_both true refl e)
cache_right false true true false e = absurd (never_both true refl e)
cache_right false true false false e = (λ q. absurd (never_both false q refl), λ _. (refl, λ q. q))
cache_right false false p z e = (λ q. absurd (never_both false q refl), λ q. absurd (never_both false q refl))

cache_faultless : (c r p z : Bool) → (c ≡ true → (z ≡ false) × (p ≡ true)) → (r ≡ true → (z ≡ false) × (p ≡ true → c ≡ true))
    → (((c || r) && z) || ((c && not p) || (r && (p && not c)))) ≡ false
cache_faultless true r p z a b = rw ((a refl).0, (a refl).1) (go r)
  where
    go : (r : Bool) → (r && false) ≡ false
    go true = refl
    go false = refl
cache_faultless false true true z a b = absurd (never_both false ((b refl).1 refl) refl)
cache_faultless false true false z a b = rw (b refl).0
cache_faultless false false p z a b = refl

positive : (w : ℕ) → eqb w 0 ≡ false → 0 < w
positive w e = (let d : w ≢ 0 = eqb-false w 0 e in omega arith)

module _ (beyond cached runs polled : Bool) (w f clock : ℕ) where
  pub slot_right : slot_wrong beyond cached runs polled w f clock ≡ false → SlotRight beyond cached runs polled w f clock
  unfolding slot_wrong beyond_wrong count_wrong cache_wrong
  slot_right e =
      let x = or_fails (beyond_wrong beyond cached w f) _ e in
      let y = or_fails (count_wrong w f clock) (cache_wrong cached runs polled w) x.1 in
      let z = or_fails (ltb most_waiting w) (ltb clock f) y.0 in
      let k = cache_right cached runs polled (eqb w 0) y.1 in
      record {
        outside = λ b. out b x.0;
        room = ltb-false most_waiting w z.0;
        early = ltb-false clock f z.1;
        kept = λ b. (positive w (k.0 b).0, (k.0 b).1);
        running = λ b. (positive w (k.1 b).0, (k.1 b).1);
      }
    where
      out : beyond ≡ true → (beyond && (cached || (ltb 0 w || ltb 0 f))) ≡ false → (cached ≡ false) × (w ≡ 0) × (f ≡ 0)
      out b h =
          let u = or_fails cached (ltb 0 w || ltb 0 f) (ap (λ (x : Bool). x && (cached || (ltb 0 w || ltb 0 f))) (sym b) ∙ h) in
          let v = or_fails (ltb 0 w) (ltb 0 f) u.1 in
          (u.0, omega (arith, ltb-false 0 w v.0), omega (arith, ltb-false 0 f v.1))

  pub slot_faultless : SlotRight beyond cached runs polled w f clock → slot_wrong beyond cached runs polled w f clock ≡ false
  unfolding slot_wrong beyond_wrong count_wrong cache_wrong
  slot_faultless s =
      ap₂ ◌||◌ (out beyond s.outside)
      (ap₂ ◌||◌ (ap₂ ◌||◌ (le-ltb most_waiting w s.room) (le-ltb clock f s.early))
      (cache_faultless cached runs polled (eqb w 0) (λ b. (some (s.kept b).0, (s.kept b).1)) (λ b. (some (s.running b).0, (s.running b).1))))
    where
      some : 0 < w → eqb w 0 ≡ false
      some h = ne_eqb w 0 (λ e. omega arith)

      out : (b : Bool) → (b ≡ true → (cached ≡ false) × (w ≡ 0) × (f ≡ 0)) → (b && (cached || (ltb 0 w || ltb 0 f))) ≡ false
      out false h = refl
      out true h = rw ((h refl).0, (h refl).1, (h refl).2)

pub record RunRight (n running units : ℕ) : Type 0 where
  pub inside : running ≤ n
  pub rest : running ≡ 0 → units ≡ 0
  pub measured : running ≢ 0 → (1 ≤ units) × (units ≤ longest)

module _ (n running units : ℕ) where
  pub run_right : run_wrong n running units ≡ false → RunRight n running units
  unfolding run_wrong
  run_right e = (let x = or_fails (ltb n running) _ e in record {
    inside = ltb-false n running x.0;
    rest = λ z. eqb-true units 0 (false_not (eqb units 0) (ap (λ (b : Bool). cond b (not (eqb units 0)) (not (within 1 longest units))) (sym (eq-eqb running 0 z)) ∙ x.1));
    measured = λ d. within_passed 1 longest units (false_not (within 1 longest units) (ap (λ (b : Bool). cond b (not (eqb units 0)) (not (within 1 longest units))) (sym (ne_eqb running 0 d)) ∙ x.1));
  })
    where
      false_not : (b : Bool) → not b ≡ false → b ≡ true
      false_not true q = refl
      false_not false q = sym q

  pub run_faultless : RunRight n running units → run_wrong n running units ≡ false
  unfolding run_wrong
  run_faultless s = ap₂ ◌||◌ (le-ltb n running s.inside) (go (eqb running 0) refl)
    where
      go : (b : Bool) → eqb running 0 ≡ b → cond b (not (eqb units 0)) (not (within 1 longest units)) ≡ false
      go true e = rw (s.rest (eqb-true running 0 e))
      go false e = ap not (within_holds 1 longest units (s.measured (eqb-false running 0 e)).0 (s.measured (eqb-false running 0 e)).1)

-- ---- the table

pub table_judged : (t : Table) → is_err (unless {A = Unit {0}} (fault_of t) tt) ≡ table_fault t
unfolding table_fault
table_judged t = go (ℕ_discrete (fault_of t).number 0)
  where
    go : Dec ((fault_of t).number ≡ 0) → is_err (unless {A = Unit {0}} (fault_of t) tt) ≡ not (eqb (fault_of t).number 0)
    go (yes e) = ap is_err (passed (fault_of t) tt e) ∙ sym (ap not (eq-eqb _ 0 e))
    go (no h) = ap is_err (refused (fault_of t) tt h) ∙ sym (ap not (ne_eqb _ 0 h))
