-- The callback table of document 01.
-- Values: a record's and a table's values, refusals. Rows: the numbers of the rows of refusals. Kinds: those of the kinds. Editions: those of the editions. Said: the refusal in a result. Walk: steps along next. Links: names, heads, loops. Parts: what inner functions give.
pub mod Values
pub mod Rows
pub mod Kinds
pub mod Editions
pub mod Said
pub mod Walk
pub mod Links
pub mod Parts
