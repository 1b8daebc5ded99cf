-- ChainLaws: the way back to a chain's head.
pub mod ChainLaws
