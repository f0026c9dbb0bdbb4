pub mod CodedKeys
pub mod FirstTooLarge
pub mod Forms
pub mod InOrder
pub mod Numbers
pub mod Orders
