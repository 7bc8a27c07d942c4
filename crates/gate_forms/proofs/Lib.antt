mod Tokens
mod RefusalLaws
mod JsonLaws
mod PageLaws
mod SarifLaw
mod Heads
