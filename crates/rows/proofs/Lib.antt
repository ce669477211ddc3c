-- tests of Bool, and tests of each row
pub mod Basics
-- the engine's own rows
pub mod LentLaws
-- the table of kinds, read both ways
pub mod KindNumbers
pub mod KindsRead
pub mod GroundNumbers
pub mod Unused
-- rows read as trees: what is read, what is computed, and that they are one
pub mod TreesAgree
pub mod Groups
pub mod SortsBelow
pub mod Exists
pub mod CodeRead
pub mod CellsAt
-- rows as a tree: places of operands, what stands under a row, the naming rule
pub mod Places
pub mod Steps
pub mod Named
pub mod Foot
pub mod Disjoint
pub mod TaskFoot
-- what the grounds give: lower operands, few binders and marks
pub mod LowWords
pub mod Most
pub mod Binders
-- sums over rows: how often a task can move
pub mod TreeSum
pub mod Totals
pub mod Moves
-- the ground of rows, and accepted rows
pub mod GroundsTold
pub mod GroundZero
pub mod Accepted
pub mod Cases
