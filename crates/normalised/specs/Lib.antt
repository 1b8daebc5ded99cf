-- Claim: what holds of every table that is normalised (document 02, U7).
pub mod Claim
