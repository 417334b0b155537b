-- The worked examples hold.
pub mod Tables
pub mod Program11
pub mod Transitions
pub mod WorkedRecords
pub mod WorkedCodes
pub mod Spelled
pub mod WorkedTexts
pub mod WorkedShort
pub mod WorkedLog
pub mod WorkedCapitals
pub mod WorkedFormat
pub mod WorkedLong
pub mod WorkedOutputs
pub mod WorkedFormulas
pub mod WorkedFaults
pub mod WorkedCuts
pub mod Worked
