-- The proof of the claim over the table of cases.
pub mod Worked
