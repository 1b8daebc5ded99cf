-- Sum: a sum over the numbers below n. Least: the least number that passes a test; the largest of several.
-- Every: tests of all numbers below n.
pub mod Sum
pub mod Least
pub mod Every
