-- What the functions rest on. LinkLaws: 11, 12 and 14 from the masks. LoopLaws: the callbacks on loops are those that no head reaches.
-- What other crates cite. Names: who names whom.
pub mod Names
pub mod LinkLaws
pub mod LoopLaws
