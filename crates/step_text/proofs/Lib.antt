pub mod StepFormLines
pub mod StepForm
