-- The names shown to an editor.
pub mod Shown
