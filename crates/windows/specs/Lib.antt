-- Window: window, finish and bound over any curves. Bounds: the same of a table. Parts: what the search's inner functions compute and assume.
pub mod Window
pub mod Bounds
pub mod Parts
