pub mod CountLaws
pub mod HeadLaws
pub mod HeadText
pub mod ScreenLaws
pub mod Bounds
mod Sessions
mod Cases
mod ShownCases
mod BlankCases
mod WideCases
mod RoleCases
mod StoreCases
mod RuleCases
mod TouchCases
