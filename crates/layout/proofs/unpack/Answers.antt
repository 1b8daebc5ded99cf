-- Each part of laid_out is tested; the table is read from its own part.
use mathlib.Core.Path.{sym, ap, ◌∙◌}
use native.Mathlib.Omega.{arith}
use mathlib.Core.Bool.{not}
use Rattle.std.specs.Prelude.{Some}
use Rattle.table.specs.declared.Table.{Table}
use Rattle.executor.specs.declared.Machine.{Machine}
use Rattle.layout.specs.Layout.{tail_at, machine_of, unpacked}
use Rattle.layout.proofs.LayoutLaws.{Laid, end_before}
use Rattle.layout.proofs.UnpackingLaws.{none_in, is_in, not_zero, part_refused, part_read}
use Rattle.layout.proofs.unpack.Goals as goal
use Rattle.layout.proofs.unpack.Goals.{then-state-ne-STATE_LENGTH-via-then-state-ne-STATE_LENGTH, then-state-ne-STATE_LENGTH-via-else-state-ne-STATE_LENGTH+then-state-gt-PLACES}
use Rattle.layout.proofs.unpack.Goals.{then-not-all_zero-via-then-not-all_zero, then-not-all_zero-via-else-not-all_zero+then-not-all_zero-2}

pub returns-then-state-ne-STATE_LENGTH : goal.returns-then-state-ne-STATE_LENGTH
returns-then-state-ne-STATE_LENGTH c =
    none_in _ (λ l.
    elim c.then-state-ne-STATE_LENGTH.branch [
      | then-state-ne-STATE_LENGTH-via-then-state-ne-STATE_LENGTH w ↦ w.if-state-ne-STATE_LENGTH.true l.size
      | then-state-ne-STATE_LENGTH-via-else-state-ne-STATE_LENGTH+then-state-gt-PLACES w ↦ omega (arith, w.if-state-gt-PLACES.true, end_before _ l)
    ])

pub returns-then-not-all_zero : goal.returns-then-not-all_zero
returns-then-not-all_zero c =
    none_in _ (λ l.
    elim c.then-not-all_zero.branch [
      | then-not-all_zero-via-then-not-all_zero w ↦ not_zero _ _ c.all_zero.ensures (ap not w.if-not-all_zero.true) l.gap
      | then-not-all_zero-via-else-not-all_zero+then-not-all_zero-2 w ↦ not_zero _ _ w.all_zero-else-not-all_zero.ensures (ap not w.if-not-all_zero-2.true) l.spare
    ])

pub returns-in_default : goal.returns-in_default
returns-in_default c = none_in _ (λ l. part_refused c.args.state.now (sym c.read_by.ensures.0 ∙ c.in_default.is) l.read)

pub returns : goal.returns
unfolding unpacked
returns c =
    let b = c.args.state.now in
    let read = part_read b (sym c.read_by.ensures.0 ∙ c.in-Ok.is) in
    let l : Laid b = record {
      size = c.if-state-ne-STATE_LENGTH.false;
      read = read.1;
      gap = sym c.all_zero.ensures ∙ c.if-not-all_zero.false;
      spare = sym c.all_zero-else-not-all_zero.ensures ∙ c.if-not-all_zero-2.false;
    } in
    ap (λ (m : Machine). Some m)
    (c.unpack_with.ensures ∙ ap (λ (t : Table). machine_of t (tail_at b)) read.0)
    ∙ is_in b l
