pub mod IoLaws
pub mod PieceLaws
mod WordLaws
