pub mod Listing
pub mod FirstLine
pub mod Lengths
pub mod Following
pub mod Steps
pub mod Reading
pub mod FollowingTags
pub mod InOrder
