-- LowerCostsLaws: at lower costs no window is longer, no bound larger, and no table refused that was accepted.
pub mod LowerCostsLaws
