-- Decide: a test that decides whether a history is within the curves. Example: the guarantee of the table and the history of specs/Example.
pub mod Decide
pub mod Example
