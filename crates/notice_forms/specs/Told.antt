-- What a page tells.
use Rattle.std.specs.Prelude.{ℕ, ◌==◌, List, [], ◌++◌, map, codes, decimal, if◌then◌else◌}
use Rattle.foreign_text.specs.declared.sinks.Sink.TheVariants.{Line}
use Rattle.foreign_text.specs.Written.{text_for}
use Rattle.license_notice.specs.Rows.{Line as PackageLine, Band}
use Rattle.license_notice.specs.Notices.{line_of, bands_of}
use Rattle.notice_forms.specs.declared.pages.LicenseText.{LicenseText}
use Rattle.notice_forms.specs.declared.pages.Page.{Page}

-- a licence's text, an exception's, or one that packages have of their own
pub record Named : Type 0 where
  pub name : List ℕ
  pub lines : List PackageLine
  pub bytes : List ℕ

pub record Told : Type 0 where
  pub title : List ℕ
  pub bands : List Band
  pub packages : List PackageLine
  pub texts : List Named

abbrev pub named : LicenseText → Named
named t =
    record { name = t.name.now; lines = map line_of t.packages.now; bytes = t.bytes.now }

-- the same with these bytes
abbrev pub with_bytes : LicenseText → List ℕ → Named
with_bytes t bytes = record (named t) { bytes = bytes }

abbrev pub told : Page → Told
told p = record {
  title = p.title.now;
  bands = bands_of p.groups.now;
  packages = map line_of p.packages.now;
  texts = map named p.texts.now;
}

-- a name in a line, which it can't end
abbrev pub line_text : List ℕ → List ℕ
line_text text = text_for Line text

-- so many packages
unfoldable pub package_count : ℕ → List ℕ
package_count count = decimal count ++ (codes " package" ++ (if count == 1 then [] else codes "s"))
