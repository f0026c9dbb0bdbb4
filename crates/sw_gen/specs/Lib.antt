pub mod Program
pub mod Schedule
