-- `write` meets its contract: the rules over values first, then the room, then the bytes.
use mathlib.Core.Path.{◌≡◌, refl, sym, ap, ◌∙◌}
use Prim.Native.Nat.{◌≤◌}
use native.Mathlib.Omega.{arith}
use Rattle.numbers.specs.Numbers.{places}
use Rattle.table.proofs.RefusalLaws.{err_refused, ok_passed}
use Rattle.rules.specs.Rules.{fault_of}
use Rattle.rules.proofs.Passed.{fault_passed}
use Rattle.writer.specs.Writer.{refused_writing}
use Rattle.writer.proofs.WriterLaws.{write_refused, write_short, write_fits, writing_refused, writing_done}
use Rattle.writer.proofs.write.Goals as goal
use Rattle.writer.proofs.write.Goals.{In_default}

pub returns-in-Err : goal.returns-in-Err
returns-in-Err c =
    let a = c.args in
    let said = err_refused _ _ _ (sym c.check.ensures ∙ c.in-Err.is) in
    let x = writing_refused a.t a.buffer.now _ (write_refused a.t _ _ refl said.1) said.1 in
    (c.into.ensures ∙ ap refused_writing said.0 ∙ sym x.0, sym x.1)

-- no rule is broken
faultless : (c : In_default) → (fault_of c.args.t).number ≡ 0
faultless c = (ok_passed _ _ _ (sym c.check.ensures ∙ c.in_default.is)).1

-- so there are 16 callbacks at most
few : (c : In_default) → c.args.t.count ≤ places
few c = (fault_passed c.args.t (faultless c)).0.few

pub returns-then-buffer-end : goal.returns-then-buffer-end
returns-then-buffer-end c =
    let a = c.args in
    let x = writing_refused a.t a.buffer.now _ (write_short a.t _ _ refl (faultless (goal.at.returns-then-buffer-end c).In_default) c.if-buffer-end.true) (λ e. omega arith) in
    (c.into-then-buffer-end.ensures ∙ ap refused_writing c.at.ensures ∙ sym x.0, sym x.1)

pub put_table-requires : goal.put_table-requires
put_table-requires c = (few (goal.at.put_table-requires c).In_default, c.if-buffer-end.false)

pub returns : goal.returns
returns c =
    let a = c.args in
    let x = writing_done a.t a.buffer.now _ (write_fits a.t _ _ refl (faultless (goal.at.returns c).In_default) c.if-buffer-end.false) refl in
    (sym x.0, c.put_table.ensures ∙ sym x.1)
