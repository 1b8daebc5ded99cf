-- The three searches of step 3 in turn.
use mathlib.Core.Path.{ap₂, ◌∙◌}
use native.Mathlib.Omega.{arith}
use Rattle.std.specs.Option.{option_or}
use Rattle.masks.proofs.Counting.{count_le}
use Rattle.turns.proofs.ChooseLaws.{choose_hit, at_poll}
use Rattle.turns.proofs.choosing.choose.Goals as goal

pub returns-in-Some : goal.returns-in-Some
returns-in-Some c = choose_hit _ _ _ _ c.or.result (c.or.ensures ∙ ap₂ option_or c.foremost-first.ensures c.foremost.ensures) c.in-Some.is

-- a mask of sixteen bits has sixteen slots at most
pub overflow_cast-result : goal.overflow_cast-result
overflow_cast-result c = omega (arith, c.count.ensures, count_le 16 c.args.waits.polled)

pub returns : goal.returns
returns c =
    at_poll _ _ _ _ _ c.or.result c.foremost-2.result
    (c.or.ensures ∙ ap₂ option_or c.foremost-first.ensures c.foremost.ensures)
    c.in_default.not-Some
    c.foremost-2.ensures
    c.unwrap_or.ensures
    c.count.ensures
