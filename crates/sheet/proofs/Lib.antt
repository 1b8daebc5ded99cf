-- What the functions rest on. CrowdedLaws: the test of 16. RefusalLaws: the refusals in their order. RowLaws: the lent row.
-- What other crates cite. Accepted: what an accepted analysis says.
pub mod CrowdedLaws
pub mod RefusalLaws
pub mod RowLaws
pub mod Accepted
