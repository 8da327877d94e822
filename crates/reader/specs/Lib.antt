pub mod Reading
pub mod Places
pub mod Rows
pub mod Beginning
pub mod Seen
pub mod Hearing
pub mod Entries
pub mod Laws
