pub mod Knowledge
