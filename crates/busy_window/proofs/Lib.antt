-- Busy: the busy-window argument, up to the bound (late) and the queues (depth). Flow: ticks that meet Local make a Run.
-- Level: the argument over a set of the callbacks, and what makes a set go first.
-- Chain: along chains, activations are the head's. Later: what follows from a bound that holds, for bounds to come.
pub mod Busy
pub mod Flow
pub mod Chain
pub mod Later
pub mod Level
