-- A recording of any length, read window by window. Window is the rule, Claims the demands on it, Worked its numbers to check by; Told says what a private function finds.
pub mod Window
pub mod Claims
pub mod Worked
pub mod Told
