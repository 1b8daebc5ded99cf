-- Folding: the timer beats of a tick that are folded, and the arrivals that are kept (document 02, U6).
pub mod Folding
