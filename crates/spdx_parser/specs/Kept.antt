-- What is kept of the places of words: that of a parenthesis is not.
use Rattle.spdx_lexer.specs.Words.{Word, OpenParen, Span, span}
use Rattle.spdx_parser.specs.declared.frames.Frame.{Frame}

-- all open parentheses show this place
abbrev pub nowhere : Span
nowhere = span 0 0

-- a frame that an open parenthesis stands in
abbrev pub at_no_place : Frame → Span × Frame
at_no_place around = (nowhere, around)

-- what is kept of the place of a word
abbrev pub kept_place : Word → Span → Span
kept_place OpenParen at = nowhere
kept_place w at = at
