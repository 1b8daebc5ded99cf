-- Of an empty mask nothing is folded.
use Rattle.folding.proofs.FoldingLaws.{folded_none}
use Rattle.executor.proofs.Machine.folded.Goals as goal

pub returns-then-mask-eq0 : goal.returns-then-mask-eq0
returns-then-mask-eq0 c = (let m = c.args.self in folded_none m.table m.waiting m.running _ c.if-mask-eq0.true)
