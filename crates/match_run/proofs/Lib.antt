pub mod CommentLaws
pub mod FoundLaws
pub mod LineLaws
pub mod TextLaws
