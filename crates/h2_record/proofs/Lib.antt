pub mod BoolLemmas
pub mod OptionLemmas
pub mod LiveLemmas
pub mod LiveLaws
pub mod FaultLemmas
pub mod FaultSplit
pub mod StepLemmas
pub mod ApartLemmas
pub mod GivenText
pub mod KeptLaws
pub mod ControlLaws
pub mod SettingsLaws
pub mod Ledger
pub mod WrittenLaws
pub mod DueFronts
pub mod QuietLaws
mod Rows
