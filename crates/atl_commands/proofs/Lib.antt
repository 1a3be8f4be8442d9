pub mod CauseLaws
pub mod AnswerLaws
pub mod ListLaws
pub mod RunLaws
pub mod JoinStepLaws
pub mod CloseLaws
pub mod PostingLaws
pub mod SortLaws
