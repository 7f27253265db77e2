pub mod QuestionWord
pub mod Evaluation
pub mod GivenTables
pub mod WayLaws
pub mod WritingLaws
