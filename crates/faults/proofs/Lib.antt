-- ValueLaws: the faults over values, test by test.
pub mod ValueLaws
