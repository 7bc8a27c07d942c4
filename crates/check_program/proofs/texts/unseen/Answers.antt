use Rattle.std.proofs.Common.{◌∙◌, ap, ◌++◌, ◌∷◌, [], List, map, string_bytes}
use Rattle.check_files.specs.declared.trouble.CheckTrouble.{CheckTrouble}
use Rattle.check_files.specs.declared.trouble.CheckTrouble.TheVariants as trouble
use Rattle.check_program.proofs.texts.unseen.Goals as goal

pub returns : goal.returns
returns c = record {
  path = c.in_ok-path.path;
  path_is = c.in_ok-path.ensures.ok;
  files_are = ap (map string_bytes) c.new.ensures.items;
  troubles_are = c.in_ok-push.ensures.items ∙ ap (λ (ts : List CheckTrouble). ts ++ trouble.Unreadable c.in_ok-path.path c.args.error ∷ []) c.new-troubles.ensures.items;
}
