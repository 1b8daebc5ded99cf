-- PriorityLaws: the kinds' masks, and the first in priority.
pub mod PriorityLaws
