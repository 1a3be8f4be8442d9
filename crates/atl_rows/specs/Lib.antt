pub mod RowValues
pub mod RowColumns
pub mod UnitColumns
