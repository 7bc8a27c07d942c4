pub mod Tokens
mod Names
pub mod JsonLines
mod JsonLaws
pub mod SarifLogLaw
mod SarifLaw
mod OneLine
pub mod Excerpts
