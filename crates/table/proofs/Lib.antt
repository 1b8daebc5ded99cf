-- What the functions rest on. NamedLaws: one pass over the records gives the slots named once and twice, and the heads.
-- What other crates cite. KindLaws, EditionLaws, RowLaws: which numbers are those of kinds, of editions and of rows. RefusalLaws: refusals one after the other. SaidLaws: what C gets of a result. PlacedLaws: sixteen places of which some are filled. WalkLaws: without loops every walk ends, and a rank rises along it.
-- Both. UsedLaws: a loop over the callbacks that are used. MaskLaws: whom a completion activates, and bits of a mask that belong to no head.
pub mod NamedLaws
pub mod MaskLaws
pub mod KindLaws
pub mod EditionLaws
pub mod RowLaws
pub mod RefusalLaws
pub mod SaidLaws
pub mod PlacedLaws
pub mod WalkLaws
pub mod UsedLaws
