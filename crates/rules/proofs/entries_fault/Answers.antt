use mathlib.Core.Path.{◌≡◌, refl, sym, ap, ◌∙◌}
use mathlib.Core.Logic.{inl, inr}
use Prim.Native.Nat.{ℕ, suc, ◌<◌, ◌≤◌}
use native.Mathlib.Numerals.{add-one}
use native.Mathlib.Omega.{arith}
use mathlib.Core.List.{List}
use borrow.Author.Rules.{rules}
use Rattle.std.proofs.lemmas.List.{get_or-take, length-take-le}
use lib.ListN.{get_or, take, length}
use Rattle.curves.specs.Cost.{entry}
use Rattle.ranges.specs.Every.{every}
use Rattle.ranges.proofs.EveryLaws.{every_more}
use Rattle.rules.proofs.RulesLaws.{rises, cost-none, cost_many, cost_miss, cost_all, falls, rises_far, rises_well}
use Rattle.rules.proofs.entries_fault.Goals as goal

-- the entry that the loop takes, of the first m of eight
taken : (es : List ℕ) (m k : ℕ) → length es ≡ 8 → m ≤ 8 → k < length (take m es) → (k < m) × (get_or (take m es) k 0 ≡ entry es (suc k))
taken es m k whole few l =
    let below : k < m = omega (arith, l, length-take-le m es (omega (arith, whole, few))) in
    (below, get_or-take m es k 0 below)

pub returns-then-m-eq0 : goal.returns-then-m-eq0
returns-then-m-eq0 c = elim c.then-m-eq0.either [ inl z ↦ cost-none _ z | inr h ↦ cost_many _ h.1 ]

pub loop-entry-init : goal.loop-entry-init
unfolding every
loop-entry-init c = (refl, refl)

pub returns-then-entry-last : goal.returns-then-entry-last
returns-then-entry-last c =
    let r = c.args.c in
    let k : ℕ = c.loop-entry.entry-index in
    let (below, here) = taken r.entries r.used k (search rules) c.if-m-gt-ENTRY_PLACES.false c.loop-entry-test.true in
    cost_miss r c.if-m-eq0.false c.if-m-gt-ENTRY_PLACES.false k below elim c.then-entry-last.either [
      | inl h ↦ falls r k (omega (arith, c.loop-entry.invariant.0, h, here))
      | inr h ↦ rises_far r k (omega (arith, h.1, here))
    ]

pub loop-entry-preserved : goal.loop-entry-preserved
loop-entry-preserved c =
    let r = c.args.c in
    let k : ℕ = c.loop-entry.entry-index in
    let (below, here) = taken r.entries r.used k (search rules) c.if-m-gt-ENTRY_PLACES.false c.loop-entry-test.true in
    let low : entry r.entries k < entry r.entries (suc k) = omega (arith, c.loop-entry.invariant.0, c.if-entry-last.false, here) in
    (here ∙ ap (entry r.entries) (sym (add-one k)), every_more (rises r) k c.loop-entry.invariant.1 (rises_well r k low (omega (arith, here, c.if-entry-gt-LONGEST.false))))

pub returns : goal.returns
returns c =
    let r = c.args.c in
    let k : ℕ = c.loop-entry.entry-index in
    let end : k ≡ r.used = omega (arith, c.loop-entry.auto.entry-index-end, c.loop-entry-test.false, length-take-le r.used r.entries (search rules)) in
    cost_all r c.if-m-eq0.false c.if-m-gt-ENTRY_PLACES.false (ap (λ (n : ℕ). every n (rises r)) (sym end) ∙ c.loop-entry.invariant.1)
