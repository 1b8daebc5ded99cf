-- Guarantee: the claim of specs/Claim.antt, from the one by value and the round trips of the edge.
pub mod Guarantee
