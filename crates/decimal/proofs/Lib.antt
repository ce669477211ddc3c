-- The laws of fields and paths. The theorems stand in Fields, Paths and Blanks; what a caller learns from an answer in Answers;
-- ReadLaws, WriteLaws and PathLaws are what the functions' own proofs cite.
pub mod Justified
pub mod Digits
pub mod Fields
pub mod PathNumbers
pub mod Paths
pub mod Blanks
pub mod Answers
pub mod ReadLaws
pub mod WriteLaws
pub mod PathLaws
mod Examples
