-- LowerCosts: a table, and one with the same numbers but costs that are nowhere above.
pub mod LowerCosts
