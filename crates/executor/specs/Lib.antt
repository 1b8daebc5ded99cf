-- The machine of document 01, 'One tick of the machine'.
-- State: the fresh state, and the faults of row 29. Effect: one tick without refusals, steps 1 to 4.
-- Tick: the refusals in their order, and the tick. Start: a machine from a table's bytes.
-- Parts: what the functions inside a tick ask and give.
pub mod State
pub mod Effect
pub mod Tick
pub mod Start
pub mod Parts
