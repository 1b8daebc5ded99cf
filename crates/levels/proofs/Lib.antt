-- LevelLaws: what the functions and the guarantee rest on.
pub mod LevelLaws
