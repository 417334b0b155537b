-- What the functions' proofs share.
pub mod KeyTable
pub mod Cutting
pub mod Placing
pub mod Spelling
pub mod Items
