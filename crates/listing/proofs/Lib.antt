pub mod NumberedLines
pub mod Pieces
pub mod Sixteens
