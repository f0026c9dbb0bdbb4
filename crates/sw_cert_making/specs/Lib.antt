pub mod Made
pub mod Printed
