pub mod PotLaws
pub mod WantGroupLaws
pub mod ItemPotLaws
