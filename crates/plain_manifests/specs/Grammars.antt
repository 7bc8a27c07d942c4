-- How each form writes the field or element that declares a license.
use Rattle.std.specs.Prelude.{◌≡◌, ℕ, Bool, true, false, ◌&&◌, ◌||◌, bytes_eq, List, [], codes, Option, Some, None}
use Rattle.text_places.specs.declared.field_lines.Grammar.{Grammar}
use Rattle.text_places.specs.declared.field_lines.Notation.{Notation}
use Rattle.text_places.specs.declared.field_lines.Notation.TheVariants.{Line, Yaml, Shell, Quoted}
use Rattle.plain_manifests.specs.declared.form.PlainForm.{PlainForm}
use Rattle.plain_manifests.specs.declared.form.PlainForm.TheVariants.{Metadata, SetupCfg, SetupPy, Cabal, Opam, Gem, Mix, Rock, Meson, Rpm, Alpine, Arch, Snap, Conda, Galaxy, Helm, Citation, Docker, Dep5, Appstream, Msbuild}

-- the name of the field or element
unfoldable pub name_of : PlainForm → List ℕ
name_of Metadata = codes "License-Expression"
name_of Gem = codes ".license"
name_of Mix = codes "licenses"
name_of Helm = codes "artifacthub.io/license"
name_of Docker = codes "org.opencontainers.image.licenses"
name_of Appstream = codes "project_license"
name_of Msbuild = codes "PackageLicenseExpression"
name_of form = codes "license"

-- another name that declares a license
unfoldable pub other_name_of : PlainForm → Option (List ℕ)
other_name_of Gem = Some (codes ".licenses")
other_name_of Appstream = Some (codes "metadata_license")
other_name_of form = None

-- the letters of the name may be capital or small
abbrev pub is_any_case : PlainForm → Bool
is_any_case Metadata = true
is_any_case SetupCfg = true
is_any_case Cabal = true
is_any_case Rpm = true
is_any_case Dep5 = true
is_any_case form = false

-- what may stand before the name in its line: blanks, an object's name, an instruction's
unfoldable pub before_of : PlainForm → List ℕ
before_of SetupPy = codes " \t"
before_of Cabal = codes " \t"
before_of Mix = codes " \t"
before_of Rock = codes " \t"
before_of Meson = codes " \t"
before_of Rpm = codes " \t"
before_of Alpine = codes " \t"
before_of Arch = codes " \t"
before_of Conda = codes " \t"
before_of Helm = codes " \t"
before_of Gem = codes " \tabcdefghijklmnopqrstuvwxyz_"
before_of Docker = codes " \tLABELlabel"
before_of form = []

-- what stands between name and value
unfoldable pub separators_of : PlainForm → List ℕ
separators_of SetupCfg = codes "=:"
separators_of SetupPy = codes "="
separators_of Gem = codes "="
separators_of Rock = codes "="
separators_of Alpine = codes "="
separators_of Arch = codes "="
separators_of Docker = codes "="
separators_of form = codes ":"

-- how a value is written
abbrev pub notation_of : PlainForm → Notation
notation_of SetupPy = Quoted
notation_of Opam = Quoted
notation_of Gem = Quoted
notation_of Mix = Quoted
notation_of Rock = Quoted
notation_of Meson = Quoted
notation_of Alpine = Shell
notation_of Arch = Shell
notation_of Docker = Shell
notation_of Snap = Yaml
notation_of Conda = Yaml
notation_of Galaxy = Yaml
notation_of Helm = Yaml
notation_of Citation = Yaml
notation_of form = Line

-- what a comment begins with, where the form has comments
unfoldable pub comment_of : PlainForm → List ℕ
comment_of Metadata = []
comment_of Dep5 = []
comment_of Cabal = codes "--"
comment_of Rock = codes "--"
comment_of form = codes "#"

-- the section that the field stands in, where the form has sections
unfoldable pub section_of : PlainForm → List ℕ
section_of SetupCfg = codes "[metadata]"
section_of form = []

-- the fields end at the first empty line
abbrev pub is_header : PlainForm → Bool
is_header Metadata = true
is_header form = false

-- so the form writes the field of this name
pub record IsGrammarOf (form : PlainForm) (name : List ℕ) (g : Grammar) : Type 0 where
  pub called : g.name.now ≡ name
  pub letters : g.is_any_case ≡ is_any_case form
  pub before : g.before.now ≡ before_of form
  pub separators : g.separators.now ≡ separators_of form
  pub notation : g.notation ≡ notation_of form
  pub comment : g.comment.now ≡ comment_of form
  pub section : g.section.now ≡ section_of form
  pub header : g.is_header ≡ is_header form

-- what no declared text has in it, since the form's own language puts something in its place:
-- `%{..}` of RPM, `$..` of shells and MSBuild, `#{..}` of Ruby and Elixir, `{{ .. }}` of Conda; in
-- AppStream's texts `=` before the address of other terms
unfoldable pub marks_of : PlainForm → List ℕ
marks_of Rpm = codes "%"
marks_of Alpine = codes "$"
marks_of Arch = codes "$"
marks_of Docker = codes "$"
marks_of Msbuild = codes "$"
marks_of Gem = codes "#"
marks_of Mix = codes "#"
marks_of Conda = codes "{"
marks_of Appstream = codes "="
marks_of form = []

-- YAML's words for nothing
abbrev pub is_null : List ℕ → Bool
is_null text =
    bytes_eq text (codes "~") || bytes_eq text (codes "null")
    || bytes_eq text (codes "Null") || bytes_eq text (codes "NULL")

abbrev pub is_yaml : Notation → Bool
is_yaml Yaml = true
is_yaml notation = false

-- the form's own words for a license that no expression tells: Cabal's for none, that of RubyGems
-- for one that SPDX doesn't list, that of snaps for one that isn't open, and YAML's for nothing
unfoldable pub is_word_of : PlainForm → List ℕ → Bool
is_word_of Cabal text = bytes_eq text (codes "NONE")
is_word_of Gem text = bytes_eq text (codes "Nonstandard")
is_word_of Snap text = bytes_eq text (codes "Proprietary") || is_null text
is_word_of form text = is_yaml (notation_of form) && is_null text
