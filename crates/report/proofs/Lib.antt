-- StatusLaws: there are three statuses.
pub mod StatusLaws
