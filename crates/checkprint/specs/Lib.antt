-- What the contracts say: of a piece and its line
pub mod Checked
-- and of the pieces one after another
pub mod Standing
-- and what follows
pub mod Laws
