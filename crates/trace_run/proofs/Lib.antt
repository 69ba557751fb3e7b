mod Played
mod Ran
mod Through
