pub mod NodeLaws
pub mod TypeLaws
pub mod TaskLaws
pub mod Cells
pub mod Steps
pub mod Agree
pub mod TypeRows
pub mod Rules
