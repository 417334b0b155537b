-- What the values of lines stand for.
pub mod HorizonText
pub mod ShortLaws
pub mod Internal
