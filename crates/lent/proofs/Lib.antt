-- Replace: laws of over. Numbers: numbers in bytes, read and written. Fields: lists of fields, read and written. Spare: laws of zeros.
pub mod Replace
pub mod Numbers
pub mod Fields
pub mod Spare
