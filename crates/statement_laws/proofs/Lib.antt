mod Payments
mod Passes
mod PlainPieces
mod PlainTexts
mod Productions
mod ReadTexts
mod TestedPieces
mod TokenKinds
mod TokenLengths
pub mod WrittenLength
pub mod WrittenText
