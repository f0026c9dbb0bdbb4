pub mod Actions
pub mod Offers
pub mod Sites
pub mod Trials
pub mod Words
