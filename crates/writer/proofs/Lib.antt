-- What the functions rest on. WriterLaws: what the writes of a table add up to, and the writer test by test. AlikeLaws: tables that are written alike.
-- DescribedLaws: a described table. What other crates and buyers cite. RoundTrip: what is written is read back, and what is read is written back.
pub mod WriterLaws
pub mod AlikeLaws
pub mod DescribedLaws
pub mod RoundTrip
