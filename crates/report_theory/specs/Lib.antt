-- What the program prints: from input bytes to output bytes, and what every output says by the meaning of C.
pub mod Output
pub mod Program
