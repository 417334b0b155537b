-- Where a name is declared, and that it is shown there.
pub mod Declaring
pub mod Showing
