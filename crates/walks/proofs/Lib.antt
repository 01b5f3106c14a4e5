-- Theorems that rest on definitions which an edit of must-fail/ turns, each beside the file of its name in ../specs.
pub mod Aside
pub mod Cells
pub mod Cost
pub mod Onward
pub mod Route
pub mod Rule
pub mod Run
pub mod Spread
pub mod Tables
pub mod Ways
pub mod Written
