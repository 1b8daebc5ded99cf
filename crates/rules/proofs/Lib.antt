-- What the functions rest on. RulesLaws: one record's rules, and the records in turn.
-- What other crates cite. Passed: what a table without faults has passed. Sound: what holds of it. Heads: its chains. Alike: tables of which the rules see the same.
pub mod RulesLaws
pub mod Passed
pub mod Alike
pub mod Sound
pub mod Heads
