-- what is exchanged: lists and the last row, events, the text of a sheet
pub mod Exchanged
pub mod MirroredEvents
pub mod MirroredText
-- rows with their last row's A and B exchanged, and their states
pub mod Below
pub mod MirroredRows
pub mod MirroredStates
pub mod Writeless
pub mod MirroredFlow
-- the calls on both sheets
pub mod MirroredOpening
pub mod MirroredCalls
pub mod MirroredValues
pub mod MirroredLooks
pub mod Mirror
-- three choices regrouped
pub mod RegroupedStates
pub mod RegroupedStarts
pub mod RegroupedRests
pub mod RegroupedTouches
pub mod RegroupedLooks
pub mod Counterparts
pub mod Regroup
pub mod Cases
