-- The two modes that have names.
use Rattle.std.specs.Prelude.{true, false}
use Rattle.spdx_lexer.specs.declared.token.ParseMode.{ParseMode}

-- nothing beyond the strict form
abbrev pub strict : ParseMode
strict =
    record {
      allow_slash_as_or_operator = false;
      allow_imprecise_license_names = false;
      allow_postfix_plus_on_gpl =
          false;
      allow_deprecated = false;
      allow_unknown = false;
      allow_caseless_ids = false;
    }

-- everything but names that are not listed
abbrev pub lax : ParseMode
lax =
    record {
      allow_slash_as_or_operator = true;
      allow_imprecise_license_names = true;
      allow_postfix_plus_on_gpl =
          true;
      allow_deprecated = true;
      allow_unknown = false;
      allow_caseless_ids = true;
    }
