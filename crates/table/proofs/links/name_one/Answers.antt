-- `table::links::name_one` meets its contract: next 0 and next beyond n name nothing, any other names its slot. Assumes nothing.
use mathlib.Core.Path.{◌≡◌, sym, ap, ◌∙◌}
use Prim.Native.Nat.{suc, ◌-◌}
use native.Mathlib.Omega.{arith}
use Rattle.table.specs.Parts.{name_one}
use Rattle.table.proofs.NamedLaws.{name_out, name-again, name-first}
use Rattle.table.proofs.links.name_one.Goals as goal

pub returns-then-next-eq0 : goal.returns-then-next-eq0
returns-then-next-eq0 c = sym (name_out c.args.n c.args.names c.args.next c.then-next-eq0.either)

pub returns-then-test_slot : goal.returns-then-test_slot
returns-then-test_slot c =
    let a = c.args in
    let e : a.next ≡ suc (a.next - 1) = omega arith in
    simp (c.set_slot-once.ensures, c.set_slot-twice.ensures)
    (sym (ap (name_one a.n a.names) e ∙ name-again _ _ _ (omega arith) (sym c.test_slot.ensures ∙ c.if-test_slot.true)))

pub returns : goal.returns
returns c =
    let a = c.args in
    let e : a.next ≡ suc (a.next - 1) = omega arith in
    simp c.set_slot-once.ensures
    (sym (ap (name_one a.n a.names) e ∙ name-first _ _ _ (omega arith) (sym c.test_slot.ensures ∙ c.if-test_slot.false)))
