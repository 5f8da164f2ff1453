pub mod RecordOfLine
pub mod CallThenText
