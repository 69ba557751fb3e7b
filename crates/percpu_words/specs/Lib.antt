pub mod CpuWords
