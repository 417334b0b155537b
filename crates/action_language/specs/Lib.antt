-- Law records, atoms, and what is accepted. Read in this order.
pub mod Laws
pub mod Atoms
pub mod Acceptance
pub mod Examples
pub mod RecordExamples
