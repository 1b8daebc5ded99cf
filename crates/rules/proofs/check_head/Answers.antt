-- `check_head` meets its contract: the tests in their order. Assumes nothing.
use mathlib.Core.Path.{◌≡◌, sym, ap, ◌∙◌}
use mathlib.Core.Bool.{not}
use Prim.Native.Nat.{ℕ}
use Rattle.std.specs.Prelude.{Err}
use Rattle.std.specs.Result.{is_err}
use Rattle.ranges.specs.Every.{within}
use Rattle.ranges.proofs.EveryLaws.{contains_within}
use Rattle.numbers.specs.Numbers.{edition_one, edition_two}
use Rattle.table.specs.Editions.{edition_numbered}
use Rattle.table.proofs.EditionLaws.{unknown_edition}
use Rattle.table.specs.declared.Refusal.{Refusal}
use Rattle.table.specs.Values.{refuse, accepted, unless}
use Rattle.rules.specs.Rules.{head_fault}
use Rattle.rules.proofs.check_head.Goals as goal
use Rattle.rules.proofs.check_head.Goals.{After-is_err}

-- what the first test says of the number that it is made of
unknown : (c : After-is_err) (n : ℕ) → c.try_from.result ≡ edition_numbered n → c.is_err.result ≡ not (within edition_one edition_two n)
unknown c n e = c.is_err.ensures.value ∙ ap is_err e ∙ unknown_edition n

pub returns-then-is_err : goal.returns-then-is_err
unfolding head_fault
returns-then-is_err c =
    let edition = sym (unknown (goal.at.returns-then-is_err c).After-is_err c.args.edition c.try_from.ensures) in
    let why : head_fault c.args.edition c.args.count ≡ refuse 2 0 = simp (edition, c.if-is_err.true) in
    ap Err c.at.ensures ∙ ap (λ (r : Refusal). unless r tt) (sym why)

pub returns-then-not-contains : goal.returns-then-not-contains
unfolding head_fault
returns-then-not-contains c =
    let edition = sym (unknown (goal.at.returns-then-not-contains c).After-is_err c.args.edition c.try_from.ensures) in
    let count = sym (c.contains.ensures.value ∙ contains_within 1 16 c.args.count _ _ _ c.new.ensures.start c.new.ensures.end c.new.ensures.exhausted) in
    let why : head_fault c.args.edition c.args.count ≡ refuse 3 0 = simp (edition, c.if-is_err.false, count, c.if-not-contains.true) in
    ap Err c.at-then-not-contains.ensures ∙ ap (λ (r : Refusal). unless r tt) (sym why)

pub returns : goal.returns
unfolding head_fault
returns c =
    let edition = sym (unknown (goal.at.returns c).After-is_err c.args.edition c.try_from.ensures) in
    let count = sym (c.contains.ensures.value ∙ contains_within 1 16 c.args.count _ _ _ c.new.ensures.start c.new.ensures.end c.new.ensures.exhausted) in
    let why : head_fault c.args.edition c.args.count ≡ accepted = simp (edition, c.if-is_err.false, count, c.if-not-contains.false) in
    ap (λ (r : Refusal). unless r tt) (sym why)
