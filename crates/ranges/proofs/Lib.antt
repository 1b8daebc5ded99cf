-- Laws of the definitions in specs, one file for each of its modules; SumLaws and EveryLaws begin with those of the order and of tests.
pub mod SumLaws
pub mod EveryLaws
pub mod AnyLaws
pub mod LeastLaws
