-- The edge for hosts written in C. Edge: what each exported function gives, and what the lent bytes hold then.
-- Lent: a history whose state is handed on in the lent bytes.
pub mod Edge
pub mod Lent
