-- Eight writes, one behind the other, are the record's fields up to its cost entries.
use Rattle.writer.proofs.WriterLaws.{front_parts_lem}
use Rattle.writer.proofs.put_front.Goals as goal

pub returns : goal.returns
returns c =
    front_parts_lem c.args.b.now c.args.at c.args.c c.requires
    c.put.ensures
    c.put-2.ensures
    c.put-3.ensures
    c.put-4.ensures
    c.put-5.ensures
    c.put-6.ensures
    c.put-7.ensures
    c.put-8.ensures
