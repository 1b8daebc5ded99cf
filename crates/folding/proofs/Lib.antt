-- FoldingLaws: the beats looked at one after the other, and what the machine asks of those that are kept.
pub mod FoldingLaws
