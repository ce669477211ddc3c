-- What lines say: words (LinesWords), how they are scanned (ScanLaws) and loaded (LoadLaws).
pub mod LinesWords
pub mod ScanLaws
pub mod LoadLaws
-- Ground 20: rows written as a sheet (WrittenSheet), the theorem (AcceptedRows) and the test in code (AcceptedLaws).
pub mod WrittenSheet
pub mod AcceptedRows
pub mod AcceptedLaws
-- Blank cells in a sheet (CR 2).
pub mod Blanks
-- Texts and their grounds, computed.
mod Cases
