-- WindowLaws: window, finish and bound over any curves. LowerLaws: the same of two, one with lower costs.
-- TableLaws: what a table without faults ensures of its curves.
-- FoundLaws: a length that was searched for, as an Option.
-- PartLaws, SearchLaws: what the functions rest on, the demand as loops add it and the two searches as loops go.
pub mod WindowLaws
pub mod LowerLaws
pub mod TableLaws
pub mod PartLaws
pub mod SearchLaws
pub mod FoundLaws
