-- What the functions rest on. FormatLaws: the bytes, and the reader.
-- What other crates cite. Accepted: what an accepted reading says of the bytes and of the table.
-- WrittenLaws: the bytes of a table's values and the reader are inverse to each other.
pub mod FormatLaws
pub mod Accepted
pub mod WrittenLaws
