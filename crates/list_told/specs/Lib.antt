pub mod Replacements
pub mod Flags
pub mod Texts
pub mod Told
pub mod Unlisted
pub mod Shown
pub mod Changes
pub mod Diffs
