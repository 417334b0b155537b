-- What differs in letter case alone, and that it is read alike.
pub mod Alike
pub mod LetterCase
