-- What the parts of `feed` say
pub mod Feeding
-- the demands, said of a router; and wrong routers
pub mod Demands
-- and what follows
pub mod Laws
