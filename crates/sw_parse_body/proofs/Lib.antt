pub mod PhraseFronts
pub mod FrontSteps
pub mod WantedWords
