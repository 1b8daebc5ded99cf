-- Bytes that are laid out as a state are unpacked, ticked and, where nothing is refused, packed behind their table.
use mathlib.Core.Path.{sym, ap, ◌∙◌}
use Rattle.executor.specs.declared.Machine.{Machine}
use Rattle.faults.specs.Faults.{table_fault}
use Rattle.layout.proofs.LayoutLaws.{table_faultless}
use Rattle.layout.proofs.UnpackingLaws.{laid_none, laid_some}
use Rattle.cuorfelt.proofs.EdgeLaws.{tick_none, tick_refused, tick_done}
use borrow.Author.Rules.{rules}
use Rattle.cuorfelt.proofs.cuorfelt_tick.Goals as goal
use Rattle.cuorfelt.proofs.cuorfelt_tick.Goals.{then-is_ok, else-is_ok}

pub returns-in_default : goal.returns-in_default
returns-in_default c =
    let x = tick_none _ _ _ _ (laid_none _ c.in_default.ensures) in
    (c.no_state.ensures ∙ x.0, x.1)

pub tick_checked-x-requires : goal.tick_checked-x-requires
tick_checked-x-requires c =
    let held = laid_some _ _ c.in-Some.ensures in
    ap (λ (m : Machine). table_fault m.table) held.1 ∙ table_faultless _ held.0

pub pack_tail-requires : goal.pack_tail-requires
pack_tail-requires c = (laid_some _ _ c.in-Some.ensures).0.size

pub returns : goal.returns
returns c =
    let held = laid_some _ _ c.in-Some.ensures in
    elim c.if-is_ok.branch [
      | then-is_ok w ↦
          let p = w.pack_tail.ensures in
          tick_done _ _ _ _ held.0 held.1 c.tick_checked-x.ensures c.new.ensures (λ i. search rules) (sym c.is_ok.ensures.value ∙ w.if-is_ok.true) (w.state-is ∙ p.0) p.1 p.2
      | else-is_ok w ↦
          let x = tick_refused _ _ _ _ held.0 held.1 c.tick_checked-x.ensures c.new.ensures (sym c.is_ok.ensures.value ∙ w.if-is_ok.false) in
          (x.0, w.state-is ∙ x.1)
    ]
