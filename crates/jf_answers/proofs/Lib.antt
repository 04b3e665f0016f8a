pub mod AnswerLaws
pub mod RunLaws
pub mod Pins
mod LegalEntries
mod PutValues
mod LegalRuns
pub mod OneSession
pub mod Samples
mod CommandSamples
pub mod SparedPins
