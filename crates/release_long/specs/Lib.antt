-- What the program keeps while it goes over a recording, window by window: a run of steps.
pub mod Keeps
