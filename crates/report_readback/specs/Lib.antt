pub mod Names
pub mod ReadBack
pub mod ModelsReadBack
pub mod Answered
pub mod OwnEvidence
