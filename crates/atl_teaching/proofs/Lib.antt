pub mod MentionLaws
pub mod TeachLaws
pub mod OnceLaws
pub mod ShapeLaws
