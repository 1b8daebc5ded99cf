-- ArrivedLaws: step 1. QueueLaws: full queues, and completions.
pub mod ArrivedLaws
pub mod QueueLaws
