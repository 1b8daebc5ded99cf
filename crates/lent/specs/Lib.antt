-- Numbers in lent bytes, little-endian. Bytes: numbers and fields, read and written. Over: a part of a list replaced, the rest kept.
-- Parts: which numbers fit their fields. Values: a list of numbers, each taken as itself.
pub mod Bytes
pub mod Over
pub mod Parts
pub mod Values
