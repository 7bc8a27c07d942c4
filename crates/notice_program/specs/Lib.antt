pub mod Taken
pub mod Noted
pub mod Told
pub mod Ends
pub mod Page
pub mod Run
pub mod Standing
pub mod Law
