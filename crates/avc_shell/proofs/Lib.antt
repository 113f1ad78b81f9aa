pub mod FromPieces
