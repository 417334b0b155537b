-- Why what differs in letter case alone is read alike.
pub mod AlikeRuns
pub mod Lowered
pub mod LetterCase
