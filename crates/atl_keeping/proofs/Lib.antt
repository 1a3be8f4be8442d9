pub mod ChangeLaws
pub mod StayLaws
pub mod JoinLaws
pub mod WorldTextLaws
