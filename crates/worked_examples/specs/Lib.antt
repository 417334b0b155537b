-- Worked examples of all layers. Read in this order.
pub mod Tables
pub mod Program11
pub mod Texts
pub mod Outputs
pub mod Examples
pub mod Format
pub mod Recipe
pub mod Short
pub mod Log
pub mod Capitals
pub mod Transitions
pub mod Formulas
pub mod Faults
pub mod Cuts
pub mod Worked
