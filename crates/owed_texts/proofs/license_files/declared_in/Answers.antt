use Rattle.std.proofs.Common.{◌++◌, ◌∷◌, [], List, subst, ℕ}
use Rattle.std.specs.Prelude.{option_map, string_bytes}
use Rattle.owed_texts.specs.LicenseFiles.{IsDeclaredAs}
use Rattle.owed_texts.proofs.Zips.{kept_more, one_more}
use Rattle.owed_texts.proofs.license_files.declared_in.Goals as goal

pub loop-path-preserved : goal.loop-path-preserved
loop-path-preserved g c =
    let before = c.loop-path.invariant in
    let o = option_map string_bytes c.in_ok-found.found in
    record {
      each = before.each ++ o ∷ [];
      are = one_more (IsDeclaredAs (g.S.Shelf.told c.args.shelf.now) c.args.how c.args.folder.now) string_bytes c.args.paths.now c.loop-path.path-index _ c.path-item.result before.each o
          before.are c.loop-path-test.true c.path-item.is
          (subst (λ (z : List ℕ). IsDeclaredAs (g.S.Shelf.told c.args.shelf.now) c.args.how c.args.folder.now z o) c.as_str.ensures.value c.in_ok-found.ensures);
      kept = kept_more before.each o _ _ before.kept c.in_ok-put.ensures;
    }
