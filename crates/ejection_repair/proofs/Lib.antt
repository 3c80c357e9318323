pub mod AmongLaws
pub mod AskLaws
pub mod BoundLaws
pub mod CountLaws
pub mod EditLaws
mod EndLaws
pub mod KeptLaws
mod LiftLaws
pub mod LookLaws
pub mod MarkLaws
pub mod RoundLaws
pub mod RunLaws
pub mod SearchLaws
pub mod SettledLaws
pub mod StuckLaws
pub mod SweepLaws
mod WalkLaws
