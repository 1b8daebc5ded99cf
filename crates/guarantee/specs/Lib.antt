-- Demand 3: document 01, 'A history'. History: its words, read from the ticks and their results alone. Within: a history within the curves.
-- Claim: what is promised of it.
pub mod History
pub mod Within
pub mod Claim
