pub mod Report
pub mod Records
pub mod Steps
pub mod Buffers
pub mod Feeds
