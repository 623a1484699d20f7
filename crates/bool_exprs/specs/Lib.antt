pub mod Expr
pub mod Piece
pub mod Token
pub mod Place
pub mod View
pub mod Productions
