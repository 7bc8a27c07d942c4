pub mod Named
pub mod BitAnswers
