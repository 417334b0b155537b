-- What the program prints for inputs that differ in letter case alone where they use names.
pub mod RespelledInputs
