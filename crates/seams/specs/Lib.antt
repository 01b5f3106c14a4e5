-- The rectangles between keep-outs in the words of the struct
pub mod Seaming
-- and what follows
pub mod Laws
