pub mod InterTiles
mod LevelRows
pub mod StillMacroblocks
