-- The best direction of each of eight blocks.
pub mod Best
-- Its laws: a lane's step, and that directions and variances are the standard's.
pub mod BestLaws
