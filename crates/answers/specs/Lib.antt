-- Outcome: number and values of each answer and refusal, and the reply made of them.
pub mod Outcome
