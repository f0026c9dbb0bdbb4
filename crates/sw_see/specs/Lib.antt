pub mod Call
pub mod Claims
pub mod Reply
pub mod View
