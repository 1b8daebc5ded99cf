-- Rules: refusals 2 to 14, 22 and 24 over a table's values, in their order. Parts: what inner functions ask and give, and what holds of a table without faults.
pub mod Rules
pub mod Parts
