pub mod EnumWords
pub mod Rows
