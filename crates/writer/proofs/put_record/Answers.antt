-- What stands before the cost entries, the entries, and zeros behind them are the record's bytes.
use mathlib.Core.Path.{◌≡◌}
use lib.ListN.{length}
use borrow.Author.Rules.{rules}
use Rattle.numbers.specs.Numbers.{entry_places}
use Rattle.writer.proofs.WriterLaws.{record_parts}
use Rattle.writer.proofs.put_record.Goals as goal

pub returns : goal.returns
returns c =
    let eight : length c.args.c.entries ≡ entry_places = search rules in
    (record_parts c.args.c eight c.args.b.now c.args.at c.requires c.put_front.ensures c.put_all.ensures c.zero.ensures, eight)
