-- `lowest_index` meets its contract: a mask that has a slot has a lowest one. Assumes nothing.
use mathlib.Core.Path.{sym, ap, ◌∙◌}
use Prim.Native.Nat.{suc}
use native.Mathlib.Numerals.{add-one}
use Rattle.std.specs.Prelude.{Some}
use Rattle.masks.specs.Parts.{some_index}
use Rattle.masks.proofs.Index.{index_none, index_some}
use Rattle.masks.proofs.lowest_index.Goals as goal

pub returns-then-mask-eq0 : goal.returns-then-mask-eq0
returns-then-mask-eq0 c = ap some_index (sym (index_none _ c.if-mask-eq0.true))

pub returns : goal.returns
returns c = ap Some (add-one _) ∙ ap some_index (ap suc c.lowest.ensures.0 ∙ sym (index_some _ c.if-mask-eq0.false))
