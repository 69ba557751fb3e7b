pub mod TraceWords
pub mod TraceGrammar
pub mod TraceReading
pub mod Formed
