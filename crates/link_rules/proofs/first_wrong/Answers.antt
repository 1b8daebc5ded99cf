use mathlib.Core.Path.{◌≡◌, sym, ap, ◌∙◌}
use mathlib.Core.Bool.{Bool}
use native.Mathlib.Numerals.{add-one}
use Rattle.std.specs.Prelude.{Some}
use Prim.Native.Nat.{ℕ}
use Rattle.masks.specs.Mask.{has}
use Rattle.table.specs.declared.Table.{Table}
use Rattle.masks.specs.Parts.{some_index}
use Rattle.ranges.proofs.LeastLaws.{slots_end, slots_hit, slots_miss}
use Rattle.table.specs.Values.{callback_at}
use Rattle.link_rules.specs.LinkRules.{arrivals_fault}
use Rattle.link_rules.proofs.first_wrong.Invariants.{wrong}
use Rattle.link_rules.proofs.first_wrong.Goals as goal

-- what the code finds of a slot
found : (heads : ℕ) (t : Table) (i : ℕ) (head b : Bool) → head ≡ has heads i → b ≡ arrivals_fault head (callback_at t i) → wrong heads t i ≡ b
found heads t i head b test fault = ap (λ (h : Bool). arrivals_fault h (callback_at t i)) (sym test) ∙ sym fault

pub returns-then-arrivals_fault : goal.returns-then-arrivals_fault
returns-then-arrivals_fault c =
    let is = found c.args.heads c.args.t c.loop-i.i _ _ c.test_slot-head.ensures c.arrivals_fault.ensures in
    ap Some (add-one c.loop-i.i) ∙ ap some_index (sym (add-one c.loop-i.i) ∙ sym (slots_hit _ _ c.loop-i.i c.loop-i-test.true (is ∙ c.if-arrivals_fault.true)) ∙ c.loop-i.invariant)

pub loop-i-preserved : goal.loop-i-preserved
loop-i-preserved c =
    let is = found c.args.heads c.args.t c.loop-i.i _ _ c.test_slot-head.ensures c.arrivals_fault.ensures in
    sym (slots_miss _ _ c.loop-i.i c.loop-i-test.true (is ∙ c.if-arrivals_fault.false)) ∙ c.loop-i.invariant

pub returns : goal.returns
returns c = ap some_index (sym (slots_end _ _ c.loop-i.i c.loop-i-test.false) ∙ c.loop-i.invariant)
