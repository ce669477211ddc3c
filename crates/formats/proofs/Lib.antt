-- Laws of fields in columns: one (Items), each of several (Each), several read and written (Records), and what loops read and write (Loops).
pub mod Items
pub mod Each
pub mod Records
pub mod Loops
-- The role of an event (CR 6).
pub mod Roles
-- The lines of a sheet.
pub mod LinesRead
-- Events and entries: their texts are read back (TouchesRead), lists of them (ListsRead), and entries against events (CoversRead).
pub mod TouchesRead
pub mod ListsRead
pub mod CoversRead
pub mod ListsCover
pub mod EntriesFit
-- Events with blanks (CR 2).
pub mod BlankEvents
