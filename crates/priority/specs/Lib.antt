-- Priority: who goes first (document 01, 'The callback table'). Parts: what inner functions give.
pub mod Priority
pub mod Parts
