-- What the answers say, and the worked examples.
pub mod Formulas
pub mod Tightness
pub mod Theorems
pub mod Examples
