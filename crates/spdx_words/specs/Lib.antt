-- Which request the words of a command line are.
pub mod Options
pub mod Commands
pub mod Said
pub mod Unfit
pub mod Lines
