pub mod Replies
pub mod Pages
pub mod Pieces
pub mod Routes
