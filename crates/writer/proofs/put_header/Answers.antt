-- Seven writes, one behind the other, are the header's fields.
use Rattle.writer.proofs.WriterLaws.{header_parts_lem}
use Rattle.writer.proofs.put_header.Goals as goal

pub returns : goal.returns
returns c =
    header_parts_lem c.args.b.now c.args.t c.requires
    c.put.ensures
    c.put-2.ensures
    c.put-3.ensures
    c.put-4.ensures
    c.put-5.ensures
    c.put-6.ensures
    c.zero.ensures
