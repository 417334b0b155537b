-- Complementary literals, atoms without one value, and the worked examples of the definitions.
pub mod Complements
pub mod Values
pub mod BasicExamples
