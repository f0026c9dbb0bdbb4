-- Types by their forms, the types that they name, and where values of them go.
pub mod Forms
pub mod Within
