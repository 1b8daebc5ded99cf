-- A mask without the lowest of its slots is the smaller number. Assumes nothing.
use Prim.Native.Nat.{◌<◌}
use native.Mathlib.Omega.{arith}
use borrow.Author.Rules.{rules}
use Rattle.masks.proofs.Search.{lowest_set, without_less}
use Rattle.masks.proofs.SlotsLeftIterator.next.Goals as goal

pub returns-clause-goes : goal.returns-clause-goes
returns-clause-goes c =
    let less : c.clear_slot-self.result < c.args.self.now.mask =
    omega (arith, c.clear_slot-self.ensures, without_less _ _ c.if-self-eq0.false (lowest_set _ _ c.lowest-slot.ensures)) in
    search rules
