-- What the calls answer, by the rules alone (Answers), and as functions that compute (Calls); what stands after any list of them (Touches).
pub mod Memory
pub mod States
pub mod Answers
pub mod Calls
pub mod Touches
