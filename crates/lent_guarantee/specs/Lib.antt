-- Demand 3 where the state is handed on in the lent bytes. Claim: the results in the replies that a host gets, and what is promised of them.
pub mod Claim
