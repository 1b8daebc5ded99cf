-- Laws of the definitions in specs, one file for each of its modules, and JumpLaws: how a search may skip lengths.
pub mod ArrivalsLaws
pub mod CostLaws
pub mod SupplyLaws
pub mod DemandLaws
pub mod JumpLaws
