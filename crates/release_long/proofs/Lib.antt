-- What the program keeps from window to window.
pub mod Keeping
