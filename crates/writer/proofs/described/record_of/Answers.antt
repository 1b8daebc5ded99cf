-- Six numbers, three of them for a byte, and the entries are the record.
use Rattle.writer.proofs.DescribedLaws.{record_made}
use Rattle.writer.proofs.described.record_of.Goals as goal

pub returns : goal.returns
returns c =
    let a = c.args in
    record_made a.numbers.now a.at
    c.narrow.ensures c.number_at.ensures
    c.narrow-2.ensures c.number_at-2.ensures
    c.narrow-3.ensures c.number_at-3.ensures
    c.number_at-4.ensures
    c.number_at-5.ensures
    c.number_at-6.ensures
    c.entries_of.ensures
