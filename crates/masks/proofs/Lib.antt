-- Slots: one slot set or cleared, two masks, masks that agree. Operators: what the code's shifts and masks compute.
-- Counting, Search, Gather, Index: laws of count_of, of first_from and first_of, of gather, and of first_index.
pub mod Slots
pub mod Operators
pub mod Counting
pub mod Search
pub mod Gather
pub mod Index
