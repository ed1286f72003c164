-- Laws of the words and of what writers leave, one file a topic.
pub mod Digits
pub mod Rows
pub mod Walks
