pub mod StepWords
pub mod StepGrammar
pub mod StepReading
pub mod StepForm
