pub mod OpForm
pub mod TraceForm
