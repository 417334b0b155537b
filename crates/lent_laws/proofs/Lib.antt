pub mod SixtyFour
