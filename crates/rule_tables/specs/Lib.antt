-- What the promises on rule tables mean.
pub mod Bodies
pub mod Acceptance
pub mod Internal
