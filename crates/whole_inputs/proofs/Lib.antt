-- Which places a refusal can have, and what is known of an input by what its description came to.
pub mod Places
pub mod Known
