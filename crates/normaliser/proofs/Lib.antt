-- What the functions rest on. NormaliserLaws: the bytes, record by record.
-- What other crates cite. RecordLaws: a record whose entries are replaced. ByteLaws: the bytes, as the reader sees them. Readable: the table then.
pub mod NormaliserLaws
pub mod RecordLaws
pub mod ByteLaws
pub mod Readable
