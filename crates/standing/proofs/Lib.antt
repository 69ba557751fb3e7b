pub mod CpusMoved
pub mod HomedRound
pub mod DoneLanes
pub mod RunFound
pub mod ReadyLanes
pub mod EndTotals
pub mod EndMet
