pub mod RequestOfLine
