-- The busy-window argument, over counts of time: no machine, no priorities, no polling.
-- Counts: what is counted before a time, and when nothing waits. Run: what the argument asks of an executor.
-- Within: a history within the curves. Bound: what a sheet's bound covers, and what it promises.
-- Level: a set of the callbacks, the rest being others.
-- Flow: what single ticks do, and the counts read from them. Chain: each callback fed by one other at most.
pub mod Counts
pub mod Run
pub mod Within
pub mod Bound
pub mod Flow
pub mod Level
pub mod Chain
