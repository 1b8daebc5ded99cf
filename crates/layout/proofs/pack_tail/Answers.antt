-- Seven writes, one behind the other, are the fields' bytes.
use mathlib.Core.Path.{◌≡◌}
use lib.ListN.{length}
use Rattle.numbers.specs.Numbers.{places}
use Rattle.layout.proofs.LayoutLaws.{pack_parts}
use borrow.Author.Rules.{rules}
use Rattle.layout.proofs.pack_tail.Goals as goal

pub returns : goal.returns
returns c =
    let m = c.args.m in
    let w : length m.waiting ≡ places = search rules in
    let f : length m.finished ≡ places = search rules in (
      pack_parts c.args.state.now m c.requires w f
          c.put_all.ensures
          c.put_all-2.ensures
          c.put.ensures
          c.put-2.ensures
          c.put-3.ensures
          c.put-4.ensures
          c.zero.ensures,
      w,
      f,
    )
