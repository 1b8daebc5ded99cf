use native.Mathlib.Omega.{arith}
use Rattle.table.specs.Values.{placed}
use Rattle.table.proofs.PlacedLaws.{headless_more}
use Rattle.reader.specs.Format.{record_at, record_start}
use Rattle.reader.proofs.FormatLaws.{table-whole}
use Rattle.reader.proofs.table_at.Goals as goal

pub loop-i-init : goal.loop-i-init
unfolding placed
loop-i-init c = c.blank-t.ensures

pub loop-i-preserved : goal.loop-i-preserved
loop-i-preserved c = let l = c.loop-i in headless_more (λ j. record_at c.args.b.now (record_start j)) l.i l.t l.invariant _ c.record_at.ensures

pub returns : goal.returns
returns c =
    let l = c.loop-i in
    table-whole c.args.b.now l.i l.t l.invariant _ _ _ _ (omega arith) c.get.ensures c.get-2.ensures c.get-3.ensures c.get-4.ensures
