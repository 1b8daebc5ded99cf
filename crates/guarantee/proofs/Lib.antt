-- The proof of the claim, from single ticks up to the whole; Guarantee holds its term. What one tick does is the executor's (Steps).
-- Fed: whom a completion feeds. Ticks: a history tick by tick, without refusals.
-- Analysed: what is asked of a table and its sheet, which the analyser's acceptance gives. Unrefused: within the curves no tick is refused.
-- Conclusions: the three conclusions. Timers: the same of a timer's second bound. Guarantee: the claim. Prompt: no timer piles up beats, in any history.
pub mod Fed
pub mod Ticks
pub mod Analysed
pub mod Unrefused
pub mod Conclusions
pub mod Timers
pub mod Guarantee
pub mod Prompt
