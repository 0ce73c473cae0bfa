mod Prelude
pub mod Cuts
pub mod Closing
pub mod Numbers
pub mod Fronts
pub mod Joins
pub mod Puts
pub mod Results
pub mod LineTrees
mod Heads
pub mod Meets
pub mod SaidLines
pub mod Bounds
pub mod NumberedLines
pub mod Stars
pub mod NameBytes
pub mod TokensBack
pub mod LinesBack
pub mod NumbersBack
pub mod LettersBack
pub mod LetterNames
mod WrittenLetters
pub mod TextsBack
pub mod ContentBack
pub mod NumberLines
pub mod PolysBack
pub mod LetterRange
pub mod PolynomialOrder
pub mod PolynomialTokens
pub mod PolynomialBounds
pub mod PolynomialTerms
pub mod PolynomialWords
pub mod PolynomialLaws
pub mod PolynomialFlaws
pub mod PolynomialsBack
pub mod Owed
pub mod TextLines
pub mod Standing
mod FirstBounds
mod ReadLines
pub mod EachText
pub mod PartsBack
pub mod TextLaws
