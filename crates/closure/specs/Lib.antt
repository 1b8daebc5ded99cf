-- Cost entries replaced by the least sums over the ways to split their positions (document 02, U7). Closure: how they compute. Split: what they are.
pub mod Closure
pub mod Split
