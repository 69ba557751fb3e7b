pub mod Names
pub mod TagParts
pub mod Prefix
