-- References with the numbers of their documents, as the program holds them. Only private clauses
-- cite them.
use Rattle.std.specs.Prelude.{ℕ, suc, ◌≡◌, ◌≢◌, ◌⊎◌, Option, Some, List, [], ◌∷◌, ◌++◌, map, Contains}
use Rattle.std.specs.Borrow.{Bor}
use Rattle.std.specs.BTreeMap.{BTreeMap, get_by}
use Rattle.std.specs.Ordering.{nat_cmp}
use Rattle.std.specs.Cmp.Lexicographic.{slice_cmp}
use Rattle.package_items.specs.Rows.{PackageRow}
use Rattle.package_files.specs.declared.mentions.Mention.{Mention}
use Rattle.package_files.specs.Documents.{references_of}

pub record MentionRow : Type 0 where
  pub reference : List ℕ
  pub document : ℕ

abbrev pub mention : ℕ → List ℕ → MentionRow
mention document reference = record { reference = reference; document = document }

abbrev pub mention_row : Mention → MentionRow
mention_row m = mention m.document m.reference.now

abbrev pub mentions_in : ℕ → List PackageRow → List MentionRow
mentions_in document packages = map (mention document) (references_of packages)

-- those of all documents, the first of which has that number
abbrev pub mentions_from : ℕ → List (List PackageRow) → List MentionRow
mentions_from document [] = []
mentions_from document (d ∷ ds) = mentions_in document d ++ mentions_from (suc document) ds

-- whether two documents mention it
abbrev pub Twice : List MentionRow → List ℕ → Type 0
Twice ms reference =
    (d : ℕ) × ((e : ℕ) ×
    ((d ≢ e) × Contains ms (mention d reference) × Contains ms (mention e reference)))

-- the document that the map has for a reference
abbrev pub first_of : BTreeMap (Bor (List ℕ)) ℕ → List ℕ → Option ℕ
first_of documents reference = get_by (λ k. slice_cmp nat_cmp reference k.now) documents

-- what is noted of these mentions: for each reference a document that has it, and those references
-- that two documents have
pub record AreNoted (ms : List MentionRow) (first : List ℕ → Option ℕ)
    (told : List (List ℕ)) : Type 0 where
  pub seen : (r : List ℕ) (d : ℕ) → Contains ms (mention d r) → (first r ≡ Some d) ⊎ Contains told r
  pub known : (r : List ℕ) (d : ℕ) → first r ≡ Some d → Contains ms (mention d r)
  pub only : (r : List ℕ) → Contains told r → Twice ms r
