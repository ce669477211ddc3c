-- Each call by the rules alone: load, accepted flows and their states, grounds 20 to 23, start, look and handle.
pub mod LoadAnswered
pub mod Flows
pub mod Bits
pub mod Opening
pub mod Grounds
pub mod Begun
pub mod StartAnswered
pub mod Looking
pub mod LookAnswered
pub mod Outcomes
pub mod HandleAnswered
-- What stands at a rest, and after every list of calls.
pub mod Standing
pub mod Ungated
pub mod EveryTouch
-- Events with blanks (CR 2).
pub mod BlankTouches
-- The calls computed on literal words.
pub mod LentCases
