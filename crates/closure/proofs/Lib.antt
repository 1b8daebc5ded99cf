-- ClosureLaws: the entries replaced are least sums, and what follows of them. RunLaws: instances that keep to a curve keep to the one replaced.
pub mod ClosureLaws
pub mod RunLaws
