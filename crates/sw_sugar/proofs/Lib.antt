pub mod Forms
pub mod NameTexts
pub mod TaskForms
