-- LayoutLaws: packing and unpacking a state are inverse to each other. UnpackingLaws: what unpacking gives, test by test.
pub mod LayoutLaws
pub mod UnpackingLaws
