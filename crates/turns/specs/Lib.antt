-- Choosing: step 3 of a tick where nothing runs. Turns: step 3 with what runs, and step 4, the counts aside. Parts: what inner functions give.
pub mod Choosing
pub mod Turns
pub mod Parts
