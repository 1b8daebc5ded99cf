-- A table's bytes from its values. Writer: what writing gives, and what the buffer holds then. Described: a table by plain numbers.
-- Parts: what inner functions give.
pub mod Writer
pub mod Described
pub mod Parts
