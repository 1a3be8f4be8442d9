pub mod GapVecLaws
pub mod IndexLaws
pub mod SlotLaws
pub mod OrderedLaws
pub mod SortedLaws
