-- Format: a table's bytes, and the reader. Written: the bytes of values.
pub mod Format
pub mod Written
