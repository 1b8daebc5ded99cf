-- Normaliser: what becomes of a table's lent bytes that are normalised (document 02, U7).
pub mod Normaliser
