-- Sheet: the analyser's refusals and the lent row (document 01, 'The sheet'). Parts: what its inner functions compute.
pub mod Sheet
pub mod Parts
