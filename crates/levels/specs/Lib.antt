-- Levels: a timer's level, and the bound of each callback that the sheet gives (document 02, U5). Parts: what inner functions compute.
pub mod Levels
pub mod Parts
