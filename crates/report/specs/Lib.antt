-- Status: how a program that prints a sheet ends. Rewrite: how one that normalises a table ends.
pub mod Status
pub mod Rewrite
