pub mod Course
pub mod Exit
pub mod Lawful
pub mod Leaves
pub mod Written
