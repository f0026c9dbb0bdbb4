pub mod Results
pub mod Rows
pub mod Tables
pub mod Titles
