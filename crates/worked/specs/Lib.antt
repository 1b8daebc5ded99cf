-- The cases that document 01 marks P, as one table (Worked), the sheets of tables given as numbers (Sheets), and what a machine says tick by tick (Ticks).
pub mod Sheets
pub mod Ticks
pub mod Worked
