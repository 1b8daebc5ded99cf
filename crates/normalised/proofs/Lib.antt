-- Normalises: the claim. Lowered: a table that was normalised has the numbers of before, and lower costs.
pub mod Lowered
pub mod Normalises
