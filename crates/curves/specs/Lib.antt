-- The curves of document 01, 'Curves': Arrivals, Cost, Supply.
-- Demand: the work that a count of instances of each callback may bring. Parts: what inner functions ask.
pub mod Arrivals
pub mod Cost
pub mod Supply
pub mod Demand
pub mod Parts
