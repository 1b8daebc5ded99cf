-- Queues: waiting counts. Parts: what inner functions give.
pub mod Queues
pub mod Parts
