pub mod WrittenTerms
pub mod WrittenChains
pub mod WrittenExpressions
pub mod WrittenQuestions
pub mod WrittenTexts
