-- What is written of a manifest.
use Rattle.std.specs.Prelude.{◌≡◌, ℕ, ◌+◌, ◌-◌, ◌==◌, Bool, ◌||◌, List, [], Option, None, Some, Vec, option_map, map, codes, drop, bit_and}
use Rattle.std.specs.List.{prefix_len}
use Rattle.std.specs.List.Sorted.{IsNonDecreasingBy, IsPermutation}
use Rattle.std.specs.declared.alloc.Global.{Global}
use Rattle.line_engine.specs.declared.lines.Summary.{Summary}
use Rattle.line_engine.specs.Output.{capped}
use Rattle.spdx_lexer.specs.declared.token.ParseMode.{ParseMode}
use Rattle.manifests.specs.declared.form.Form.{Form}
use Rattle.manifests.specs.declared.site.Fault.{Fault}
use Rattle.manifests.specs.declared.site.Reason.{Reason}
use Rattle.manifests.specs.declared.site.Reason.TheVariants.{NotUtf8, NotJson, NotToml, NoPlace}
use Rattle.manifests.specs.declared.site.Site.{Site}
use Rattle.manifests.specs.Sites.{AreSites, IsFault, reads_slash}
use Rattle.finding_forms.specs.Finding.{Seen, Told, nothing}
use Rattle.finding_forms.specs.Forms.{finding_text}
use Rattle.check_sources.specs.Lines.{line_of, within}
use Rattle.text_places.specs.Places.{column_of}
use Rattle.spdx_check.specs.declared.check.Check.{Check}
use Rattle.spdx_check.specs.Checking.{Spot}
use Rattle.check_sources.specs.Findings.{ChecksWritten, Source}
use Rattle.check_sources.specs.Written.{Part, Written, part_seen}

-- how expressions are read in manifests of a form: where it has `/` for OR, so
abbrev pub mode_in : Form → ParseMode → ParseMode
mode_in form mode =
    record mode { allow_slash_as_or_operator = mode.allow_slash_as_or_operator || reads_slash form }

abbrev pub check_in : Form → Check → Check
check_in form check = record check { mode = mode_in form check.mode }

-- the expression of a site, which is written between its quotes; numbers end with those of 64 bits
abbrev pub declared_at : Site → Written
declared_at site = record {
  start = capped (site.span.start + site.quotes);
  end = site.span.end - site.quotes;
  text = site.text.items;
}

-- the same sites, in the order of their places
pub record AreOrdered (sites ordered : List Site) : Type 0 where
  pub same : IsPermutation sites ordered
  pub ascends : IsNonDecreasingBy (λ (s : Site). s.span.start) ordered

-- the sites are the expressions that a manifest of the form declares, in the order of their places
pub record AreInOrder (form : Form) (bytes : List ℕ) (ordered : List Site) : Type 0 where
  pub sites : List Site
  pub are : AreSites form bytes sites
  pub order : AreOrdered sites ordered

-- why a file is no manifest, in words
abbrev pub reason_text : Reason → List ℕ
reason_text NotUtf8 = codes "not UTF-8"
reason_text NotJson = codes "not JSON"
reason_text NotToml = codes "not TOML"
reason_text NoPlace = codes "it can't be told where the license stands"

-- a byte continues a character
abbrev pub continues : ℕ → Bool
continues b = bit_and b 0xc0 == 0x80

-- the character at which the file is none
abbrev pub fault_part : List ℕ → ℕ → Part
fault_part bytes at = record { from = at; len = 1 + prefix_len continues (drop (at + 1) bytes) }

-- what is told of a file as a whole
abbrev pub told_whole : Spot → List ℕ → Seen → Told
told_whole spot reason seen = record {
  file = spot.file;
  line = spot.line;
  column = spot.column;
  expression = [];
  start = 0;
  end = 0;
  reason = reason;
  aid = nothing;
  seen = seen;
}

-- a place in a file
abbrev pub spot_at : Source → ℕ → Spot
spot_at source at = record {
  file = source.path;
  line = line_of source.bytes (within source.bytes at);
  column = column_of source.bytes (within source.bytes at);
}

-- what is told of a file that is no manifest of its form
abbrev pub told_of_file : Source → Fault → Told
told_of_file source fault =
    told_whole (spot_at source fault.offset) (reason_text fault.reason)
    (part_seen source.bytes (fault_part source.bytes fault.offset))

-- the manifest declares the expressions at these sites, and each is checked at its place, in their
-- order
pub record ChecksSites (check : Check) (is_first : Bool) (form : Form) (source : Source)
    (sites : List Site) (text : List ℕ) (summary : Summary) : Type 0 where
  pub are : AreInOrder form source.bytes sites
  pub finds : ChecksWritten (check_in form check) is_first source (map declared_at sites) text
      summary

-- the file is no manifest of the form: it is told itself, at the place of its fault, and counts
-- as one expression, which is refused
pub record IsRefusedWhole (check : Check) (is_first : Bool) (form : Form) (source : Source)
    (text : List ℕ) (summary : Summary) : Type 0 where
  pub fault : Fault
  pub why : IsFault form source.bytes fault.reason fault.offset
  pub text_is : text ≡ finding_text check.format is_first (told_of_file source fault)
  pub summary_is : summary ≡ record { lines = 1; refused = 1 }

-- the sites that are found, if the file isn't refused as a whole
abbrev pub sites_in : Option (Vec Site Global) → Option (List Site)
sites_in found = option_map (λ (sites : Vec Site Global). sites.items) found

-- what is written of a manifest is of the sites that are found in it, or of the whole file
abbrev pub ChecksManifest :
    Check → Bool → Form → Source → Option (List Site) → List ℕ → Summary → Type 0
ChecksManifest check is_first form source (Some sites) text summary =
    ChecksSites check is_first form source sites text summary
ChecksManifest check is_first form source None text summary =
    IsRefusedWhole check is_first form source text summary
