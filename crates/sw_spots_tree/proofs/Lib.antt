pub mod Bodies
pub mod Every
pub mod Keys
pub mod Lists
