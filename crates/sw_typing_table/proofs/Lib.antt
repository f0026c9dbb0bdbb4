pub mod AnswerLemmas
pub mod Looking
