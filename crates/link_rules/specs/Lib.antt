-- LinkRules: refusals 11 to 14. Parts: what inner functions ask and give.
pub mod LinkRules
pub mod Parts
