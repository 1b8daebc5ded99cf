-- Example: a table and a history within its curves, as data.
pub mod Example
