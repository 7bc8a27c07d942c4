pub mod Value
pub mod CodeLaws
pub mod ExpressionModel
pub mod Iterators
pub mod Equality
pub mod EqualityLaws
pub mod Meaning
pub mod JudgeModel
-- What contracts of this crate's calls cite of the crates below, so that callers name this crate
-- alone. Where two modules have one name, the crate's word stands before it.
pub use Rattle.spdx_requirement.specs.Endings
pub use Rattle.spdx_requirement.specs.Equality as RequirementEquality
pub use Rattle.spdx_requirement.specs.Failures
pub use Rattle.spdx_requirement.specs.Flags
pub use Rattle.spdx_requirement.specs.Ids
pub use Rattle.spdx_requirement.specs.Items
pub use Rattle.spdx_requirement.specs.Keys
pub use Rattle.spdx_requirement.specs.Orders
pub use Rattle.spdx_requirement.specs.References
pub use Rattle.spdx_requirement.specs.Rows
pub use Rattle.spdx_requirement.specs.Texts
pub use Rattle.spdx_requirement.specs.Versions
pub use Rattle.spdx_tables.specs.Fields
pub use Rattle.spdx_tables.specs.Shape
pub use Rattle.spdx_tables.specs.TableReading
pub use Rattle.spdx_catalogue.specs.Faults as CatalogueFaults
pub use Rattle.spdx_catalogue.specs.LookUps
pub use Rattle.spdx_catalogue.specs.NameOrders
pub use Rattle.spdx_catalogue.specs.Names
pub use Rattle.spdx_catalogue.specs.Reading as CatalogueReading
pub use Rattle.spdx_catalogue.specs.RowRules
pub use Rattle.selections.specs.Selection
pub use Rattle.spdx_lexer.specs.Code as LexerCode
pub use Rattle.spdx_lexer.specs.Faults as LexerFaults
pub use Rattle.spdx_lexer.specs.Layout
pub use Rattle.spdx_lexer.specs.Remainder as LexerRemainder
pub use Rattle.spdx_lexer.specs.Lexeme
pub use Rattle.spdx_lexer.specs.Modes
pub use Rattle.spdx_lexer.specs.Reading
pub use Rattle.spdx_lexer.specs.Text
pub use Rattle.spdx_lexer.specs.Words
pub use Rattle.spdx_licensee.specs.Answers
pub use Rattle.spdx_licensee.specs.LicenseeText
pub use Rattle.spdx_licensee.specs.Satisfies
pub use Rattle.spdx_licensee.specs.Version
pub use Rattle.spdx_parser.specs.Faults as ParserFaults
pub use Rattle.spdx_parser.specs.Grammar
pub use Rattle.spdx_parser.specs.Nodes
pub use Rattle.spdx_parser.specs.Meaning as ParserMeaning
pub use Rattle.spdx_parser.specs.Spans
pub use Rattle.spdx_parser.specs.Tree
pub use Rattle.spdx_minimize.specs.Errors
pub use Rattle.spdx_minimize.specs.MinimizeTexts
pub use Rattle.spdx_evaluation.specs.ByRequirement
pub use Rattle.spdx_evaluation.specs.Calls
pub use Rattle.spdx_evaluation.specs.Postfix
pub use Rattle.spdx_evaluation.specs.Requirements
pub use Rattle.spdx_evaluation.specs.Truth
pub use Rattle.spdx_minimize.specs.AcceptedModel
pub use Rattle.spdx_minimize.specs.Choice
pub use Rattle.spdx_minimize.specs.Doubles
pub use Rattle.spdx_minimize.specs.GrowthLaws
pub use Rattle.spdx_minimize.specs.Laws
pub use Rattle.spdx_minimize.specs.MinimizeFaults
pub use Rattle.spdx_canonical.specs.Canonical
pub use Rattle.spdx_canonical.specs.Code as CanonicalCode
pub use Rattle.spdx_canonical.specs.Law as CanonicalLaw
pub use Rattle.spdx_canonical.specs.Fix
pub use Rattle.spdx_canonical.specs.NormalLaw as NormalLaw
pub use Rattle.spdx_canonical.specs.Normal
