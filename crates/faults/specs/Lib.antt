-- Faults: what number 29 refuses, over values.
pub mod Faults
