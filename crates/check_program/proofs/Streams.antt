-- The lines of what is read piece by piece.
use Rattle.std.proofs.Common.{◌≡◌, ◌∙◌, ap, inl, inr, refl, subst, ℕ, Bool, true, false, List, [], ◌∷◌, ◌++◌, Option, None, Some, Ok, Err, codes, count_by, if◌then◌else◌}
use Rattle.std.proofs.lemmas.List.{append-nil}
use Rattle.std.specs.Io.KnownBytes.{Consumes, IsAtEnd}
use Rattle.std.specs.declared.io.Error.{Error}
use Rattle.line_engine.specs.Device.{Told, devices}
use Rattle.line_engine.specs.Lines.{cut, lines_of}
use Rattle.line_engine.specs.Output.{capped, output_of, summary_of, text_of}
use Rattle.line_engine.specs.declared.lines.Summary.{Summary}
use Rattle.shelves.specs.Opened.{Gives, MayHave}
use Rattle.shelves.specs.Shelf.{Shelved}
use Rattle.shelves.specs.AtPath.{IsContent, IsContentBy, is_input}
use Rattle.spdx_check.specs.declared.check.Check.{Check}
use Rattle.spdx_check.specs.declared.lines.Checked.{Checked}
use Rattle.spdx_check.specs.declared.lines.LinesFault.TheVariants as fault
use Rattle.spdx_check.specs.Checking.{ChecksLines, is_white}
use Rattle.check_files.specs.declared.trouble.CheckTrouble.{CheckTrouble}
use Rattle.check_files.specs.declared.trouble.CheckTrouble.TheVariants as trouble
use Rattle.check_files.specs.Passing.{IsPassed}
use Rattle.check_files.specs.Tally.{Tally, is_clean, passed_over, with_lines}
use Rattle.check_files.specs.Told.{Account, Does}
use Rattle.check_files.proofs.Doing.{heard_alone, hears_nil, known}
use Rattle.check_program.specs.Lines as lines
use Rattle.check_program.specs.Lines.{AreRead, Content, IsLinesStep, IsLinesStepOf, content_by, opened, rule_of}
use Rattle.check_program.specs.Unread.{PassesBroken, PassesUnread}

-- what was read to its end is all that there is
pub all_had : (a a' : Option (List ℕ)) (bytes : List ℕ) → Consumes a a' bytes → IsAtEnd a' → MayHave a bytes
all_had None a' bytes c e = tt
all_had (Some xs) None bytes c e = absurd c
all_had (Some xs) (Some ys) bytes c e = subst (λ (zs : List ℕ). xs ≡ zs) (append-nil bytes) (subst (λ (zs : List ℕ). xs ≡ bytes ++ zs) e c)

-- what was read begins what there is
pub some_had : (a a' : Option (List ℕ)) (bytes : List ℕ) → Consumes a a' bytes → (rest : List ℕ) × MayHave a (bytes ++ rest)
some_had None a' bytes c = ([], tt)
some_had (Some xs) None bytes c = absurd c
some_had (Some xs) (Some ys) bytes c = (ys, c)

-- all lines were read
pub whole : (check : Check) (is_first : Bool) (name : List ℕ) (t t' out out' : Told) (MayFail : Type 0) (heard : Account CheckTrouble) (old new : Tally) (c : Checked)
    → is_first ≡ is_clean old → ChecksLines check is_first name (devices t t' out out') (Ok c) → new ≡ with_lines c.summary c.blanks old
    → Does out out' heard heard (λ text told. AreRead (opened t MayFail) check name old text told new)
whole check is_first name t t' out out' MayFail heard old new c e h is =
    let g = subst (λ (b : Bool). ChecksLines check b name (devices t t' out out') (Ok c)) e h in
    let k = g.counts in
    let rule = rule_of check g.finding old name in
    record {
      text = output_of rule k.run.bytes;
      told = [];
      writes = k.run.written;
      tells = hears_nil heard;
      is =
          inl (
            k.run.bytes,
            all_had t.bytes t'.bytes k.run.bytes k.run.read k.run.ended,
            record {
              finding = g.finding;
              findings = g.findings;
              text_is = refl;
              new_is = subst (λ (s : Summary). new ≡ with_lines s (capped (count_by is_white (lines_of k.run.bytes))) old) k.run.counts (subst (λ (b : ℕ). new ≡ with_lines c.summary b old) k.known is);
            },
            refl,
          );
    }

-- what is read broke off, and its whole lines were counted before that was told
pub broken : (check : Check) (is_first : Bool) (name : List ℕ) (t t' out out' : Told) (MayFail : Type 0) (heard heard' : Account CheckTrouble) (old counted new : Tally) (c : Checked)
    → is_first ≡ is_clean old → ChecksLines check is_first name (devices t t' out out') (Err (fault.Read c)) → MayFail → counted ≡ with_lines c.summary c.blanks old
    → PassesBroken name heard heard' counted new → Does out out' heard heard' (λ text told. AreRead (opened t MayFail) check name old text told new)
broken check is_first name t t' out out' MayFail heard heard' old counted new c e h may count p =
    let g = subst (λ (b : Bool). ChecksLines check b name (devices t t' out out') (Err (fault.Read c))) e h in
    let k = g.broken in
    let rule = rule_of check g.finding old name in
    let lines = (cut k.lines.bytes).whole in
    let rest = some_had t.bytes t'.bytes k.lines.bytes k.lines.read in
    record {
      text = text_of rule lines;
      told = trouble.Broken p.0 ∷ [];
      writes = k.lines.written;
      tells = p.2.tells;
      is =
          inr (
            k.lines.bytes,
            rest.0,
            rest.1,
            may,
            record {
              finding = g.finding;
              path = p.0;
              findings = g.findings;
              path_is = p.1;
              text_is = refl;
              told_is = refl;
              new_is =
                  p.2.counts
                  ∙ ap passed_over (
                  count
                  ∙ ap (λ (s : Summary). with_lines s c.blanks old) k.known.summary
                  ∙ ap (λ (b : ℕ). with_lines (summary_of rule lines) b old) k.known.blanks
                  );
            },
          );
    }

-- what it has is what the shelf gives, and it breaks off where what the shelf gives may
module _ (content : Content) (check : Check) (name : List ℕ) (t : Told) (MayFail : Type 0) (old new : Tally) (gives : Gives t content.Holds) (breaks : MayFail → content.Breaks) where
  held : (text : List ℕ) (told : List CheckTrouble) → AreRead (opened t MayFail) check name old text told new → AreRead content check name old text told new
  held text told (inl r) = inl (r.0, gives r.0 r.1, r.2, r.3)
  held text told (inr r) = inr (r.0, r.1, gives (r.0 ++ r.1) r.2, breaks r.3, r.4)

  pub given : (out out' : Told) (heard heard' : Account CheckTrouble) → Does out out' heard heard' (λ text told. AreRead (opened t MayFail) check name old text told new)
      → Does out out' heard heard' (λ text told. IsLinesStepOf content check name old text told new)
  given out out' heard heard' d =
      known out out' heard heard' (λ text told. AreRead (opened t MayFail) check name old text told new) (λ text told. IsLinesStepOf content check name old text told new) d
      (λ text told r. inl (held text told r))

-- it can't be opened or read
pub passed : (IsFault : Error → Type 0) (name : List ℕ) (e : Error) (heard heard' : Account CheckTrouble) (old new : Tally) → IsFault e → (p : PassesUnread name e heard heard' old new)
    → IsPassed name IsFault old [] (trouble.Unreadable p.0 e ∷ []) new
passed IsFault name e heard heard' old new f p =
    record { path = p.0; error = e; path_is = p.1; fails = f; has_memory = p.2.has_memory; text_is = refl; told_is = refl; new_is = p.2.counts }

pub unopened : (content : Content) (check : Check) (name : List ℕ) (e : Error) (out : Told) (heard heard' : Account CheckTrouble) (old new : Tally)
    → content.Fails e → PassesUnread name e heard heard' old new → Does out out heard heard' (λ text told. IsLinesStepOf content check name old text told new)
unopened content check name e out heard heard' old new f p =
    heard_alone out heard heard' (trouble.Unreadable p.0 e ∷ []) (λ text told. IsLinesStepOf content check name old text told new) p.2.tells (inr (passed content.Fails name e heard heard' old new f p))

-- what is read at once is what a stream of the same path would give
content_gives_by : (b : Bool) (s : Shelved) (path bytes : List ℕ) → IsContentBy b s path bytes → (content_by b s path).Holds bytes
content_gives_by true s path bytes content = content
content_gives_by false s path bytes content = content

pub content_gives : (s : Shelved) (path bytes : List ℕ) → IsContent s path bytes → lines.Gives s path bytes
content_gives s path = content_gives_by (is_input path) s path

-- the path is standard input, or it isn't
pub at_path : (b : Bool) (s : Shelved) (check : Check) (path : List ℕ) (out out' : Told) (heard heard' : Account CheckTrouble) (old new : Tally) → b ≡ is_input path
    → Does out out' heard heard' (λ text told. IsLinesStepOf (content_by b s path) check (if b then codes "<stdin>" else path) old text told new)
    → Does out out' heard heard' (λ text told. IsLinesStep s check path old text told new)
at_path b s check path out out' heard heard' old new e d =
    subst (λ (c : Bool). Does out out' heard heard' (λ text told. IsLinesStepOf (content_by c s path) check (if c then codes "<stdin>" else path) old text told new)) e d
