pub mod KeptMessages
pub mod Neighbours
pub mod Fresh
pub mod AnswerOfLists
