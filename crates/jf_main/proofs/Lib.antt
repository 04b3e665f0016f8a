mod HexText
pub mod CheckEnds
