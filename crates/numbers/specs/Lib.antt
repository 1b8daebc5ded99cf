-- Numbers: the limits, lengths, kinds and refusals of document 01.
pub mod Numbers
