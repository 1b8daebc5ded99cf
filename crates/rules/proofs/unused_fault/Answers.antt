use mathlib.Core.Path.{◌∙◌}
use mathlib.Core.Bool.{Bool, not}
use Prim.Native.Nat.{ℕ}
use lib.Dec.{eqb}
use borrow.Author.Rules.{rules}
use borrow.Author.Tests.{tests}
use Rattle.std.proofs.lemmas.Iterator.{YieldsList-from_slice}
use Rattle.std.proofs.lemmas.Iterator.Adapters.{YieldsList-from_skip}
use Rattle.std.proofs.lemmas.Iterator.Search.{any_from_yields_List}
use Rattle.rules.proofs.RulesLaws.{unused_any}
use Rattle.rules.proofs.unused_fault.Goals as goal

pub returns : goal.returns
returns c =
    let r = c.args.c in
    let some : ℕ → Bool = λ x. not (eqb x 0) in
    any_from_yields_List some _ _ c.any.result c.any.ensures.ran (YieldsList-from_skip r.used (YieldsList-from_slice r.entries cc) c.skip.ensures.count) (λ x b q k. search (rules, tests))
    ∙ unused_any r (search rules)
