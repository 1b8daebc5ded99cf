-- Mask: what a mask of callbacks is (document 01, 'One tick of the machine', the arrivals).
-- Parts: what inner functions give.
pub mod Mask
pub mod Parts
