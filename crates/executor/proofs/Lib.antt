-- ValidLaws: a state without faults. Cases: one tick case by case. Steps: what a tick does to counts, turns and units.
-- FaultLaws, EffectLaws, TickLaws: what the functions of a tick find, step by step and refusal by refusal. TickCases: a tick
-- has its effect, or is refused and keeps its state. FoldedLaws: row 21 and timers. StartLaws: a start.
pub mod ValidLaws
pub mod Cases
pub mod Steps
pub mod FaultLaws
pub mod EffectLaws
pub mod StartLaws
pub mod TickLaws
pub mod TickCases
pub mod FoldedLaws
