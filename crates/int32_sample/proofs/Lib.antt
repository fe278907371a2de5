-- What other crates cite.
pub mod ShiftLaws
pub mod MachineLaws
pub mod SettingLaws
pub mod KeepLaws
pub mod Cases
pub mod SettingCases
