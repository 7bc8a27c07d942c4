-- No package is left out.
use Rattle.std.proofs.Common.{◌≡◌, ◌∙◌, refl, sym, ap, ℕ, min, Bool, true, false, List, [], ◌∷◌, length, map, arith}
use Rattle.std.proofs.lemmas.List.{length-map}
use Rattle.std.proofs.lemmas.Slice.Zip.{length-zip}
use Rattle.std.specs.List.{AllZip, zip}
use Rattle.shelves.specs.Shelf.{Shelved}
use Rattle.spdx_lexer.specs.declared.token.ParseMode.{ParseMode}
use Rattle.owed_texts.specs.declared.trouble.TextTrouble.{TextTrouble}
use Rattle.spdx_requirement.specs.Rows.{Rows}
use Rattle.spdx_requirement.specs.Items.{Requirement}
use Rattle.spdx_parser.specs.Tree.{Tree, leaves}
use Rattle.package_items.specs.declared.package.Package as listed_as
use Rattle.package_files.specs.declared.listed.Listed.{Listed}
use Rattle.package_choices.specs.Accepted.{own_choice, those_in}
use Rattle.spdx_minimize.specs.Choice.{Choice, chosen}
use Rattle.choice_program.specs.Among.{AreChosen, HasOwn, IsMeant, Meant, trees_in}
use Rattle.choice_program.specs.Choose.{IsChosenAmong}
use Rattle.choice_program.specs.Named.{Named, named, shown_all}
use Rattle.choice_program.specs.declared.choosing.Chosen.{Chosen}
use Rattle.choice_program.specs.Allowed.{IsChosenByPolicy}
use Rattle.choice_program.specs.Judged.{HasOwn as HasPick}
use Rattle.spdx_gate.specs.declared.judged.Judged.{Judged}
use Rattle.spdx_policy.specs.Rules.{Rules}
use Rattle.choice_program.specs.Chosen.{IsChosen}
use Rattle.choice_program.specs.Picked.{AreParts, Pick, judged_in, requirements_of, tree_of}
use Rattle.choice_program.specs.declared.acceptance.Accepted.{Accepted}
use Rattle.choice_program.specs.declared.acceptance.Accepted.TheVariants as accepted
use Rattle.owed_texts.specs.All.{AreAllOwn, next, none}
use Rattle.owed_texts.specs.Own.{Owner, Read}
use Rattle.owed_texts.specs.declared.own.Reading.{Reading}
use Rattle.notice_told.specs.declared.packages.Package.{Package}
use Rattle.notice_program.specs.Noted.{Noted, noted, noted_by, noted_in}
use Rattle.notice_program.specs.Taken.{Entry, Taken, Used, entries_in, owner, package_of, packages_in, taken, taken_in, used, used_in}

all_zip_long : {A B : Type 0} (R : A → B → Type 0) (xs : List A) (ys : List B) → AllZip R xs ys → length ys ≡ length xs
all_zip_long R [] [] h = refl
all_zip_long R [] (y ∷ ys) h = absurd h
all_zip_long R (x ∷ xs) [] h = absurd h
all_zip_long R (x ∷ xs) (y ∷ ys) h = let rest = all_zip_long R xs ys h.1 in omega (arith, rest)

-- ---- choices

-- of the meant packages, by whether there is one choice for all
choices_long : (one : Bool) (licensees : List Requirement) (meant : List Meant) (choices : List (List Requirement)) → AreChosen one licensees meant choices → length choices ≡ length meant
choices_long false licensees meant choices h = all_zip_long (HasOwn licensees) meant choices h
choices_long true licensees meant choices h =
    sym (length-map choices chosen) ∙ ap (λ (cs : List Choice). length cs) (sym h.own) ∙ length-map (trees_in meant) (own_choice (those_in h.joint licensees))
    ∙ length-map meant (λ (x : Meant). x.tree)

parts_long : (one : Bool) (own parts : List Pick) → AreParts one own parts → length parts ≡ length own
parts_long false own parts h = ap (λ (xs : List Pick). length xs) h
parts_long true own parts h =
    sym (length-map parts (λ (x : Pick). x.judged)) ∙ ap (λ (js : List Judged). length js) h.of_the_same ∙ length-map own (λ (x : Pick). x.judged)

-- a choice for each package, and what each is chosen of
record AreLong (packages : List listed_as.Package) (choices : Chosen) : Type 0 where
  choices_are : length (shown_all choices.choices.items) ≡ length packages
  offered_are : length (shown_all choices.offered.items) ≡ length packages

among_long : (c : Rows) (list : List ℕ) (m : ParseMode) (one : Bool) (packages : List listed_as.Package) (choices : Chosen) → IsChosenAmong c list m one packages choices → AreLong packages choices
among_long c list m one packages choices h =
    let meant = all_zip_long (IsMeant c m) packages h.meant h.mean in
    let are = h.are_chosen in
    record {
      choices_are = ap (λ (xs : List (List Named)). length xs) are.choices_are ∙ length-map are.choices (map named) ∙ choices_long one h.licensees h.meant are.choices are.are_chosen ∙ meant;
      offered_are = ap (λ (xs : List (List Named)). length xs) are.offered_are ∙ length-map (trees_in h.meant) (λ (t : Tree). map named (leaves t)) ∙ length-map h.meant (λ (x : Meant). x.tree) ∙ meant;
    }

policy_long : (c : Rows) (p : Rules) (one : Bool) (packages : List listed_as.Package) (choices : Chosen) → IsChosenByPolicy c p one packages choices → AreLong packages choices
policy_long c p one packages choices h =
    let own = all_zip_long (HasPick c p) packages h.own h.each in
    let names = h.picked.named_are in
    record {
      choices_are =
          ap (λ (xs : List (List Named)). length xs) names.choices_are ∙ length-map (map requirements_of h.picked.parts) (map named) ∙ length-map h.picked.parts requirements_of
          ∙ parts_long one h.own h.picked.parts h.picked.are_parts ∙ own;
      offered_are = ap (λ (xs : List (List Named)). length xs) names.offered_are ∙ length-map h.own (λ (x : Pick). map named (leaves (tree_of x))) ∙ own;
    }

chosen_long : (s : Shelved) (replacements : List ℕ) (c : Rows) (a : Accepted) (one : Bool) (packages : List listed_as.Package) (choices : Chosen) → IsChosen s replacements c a one packages choices → AreLong packages choices
chosen_long s replacements c (accepted.List list m) one packages choices h = among_long c list.now m one packages choices h
chosen_long s replacements c (accepted.Policy path) one packages choices h = policy_long c h.0 one packages choices h.2

-- ---- packages with their choices

both_long : (a b c n : ℕ) → a ≡ min b c → b ≡ n → c ≡ n → a ≡ n
both_long a b c n e f g = omega (arith, e, f, g)

used_long : (packages : List listed_as.Package) (choices : Chosen) → AreLong packages choices → length (used_in choices) ≡ length packages
used_long packages choices h =
    let xs = shown_all choices.choices.items in
    let ys = shown_all choices.offered.items in
    length-map (zip xs ys) used ∙ both_long (length (zip xs ys)) (length xs) (length ys) (length packages) (length-zip xs ys) h.choices_are h.offered_are

pub each_taken : (s : Shelved) (replacements : List ℕ) (c : Rows) (a : Accepted) (one : Bool) (files : List Listed) (choices : Chosen) → IsChosen s replacements c a one (packages_in files) choices
    → length (taken_in files choices) ≡ length (packages_in files)
each_taken s replacements c a one files choices h =
    let entries = entries_in files in
    let uses = used_in choices in
    length-map (zip entries uses) taken
    ∙ both_long (length (zip entries uses)) (length entries) (length uses) (length (packages_in files)) (length-zip entries uses) (sym (length-map entries package_of))
    (used_long (packages_in files) choices (chosen_long s replacements c a one (packages_in files) choices h))

-- ---- packages on the page

reads_long : (s : Shelved) (a : Reading) (xs : List Owner) (reads : List (List Read)) (ts : List TextTrouble) → AreAllOwn s a xs reads ts → length reads ≡ length xs
reads_long s a _ _ _ none = refl
reads_long s a _ _ _ (next {xs = xs} {files = files} {lacking = ts} x own is rest) = let more = reads_long s a xs files ts rest in omega (arith, more)

pub none_left_out : (s : Shelved) (a : Reading) (each : List Taken) (reads : List (List Read)) (packages : List Package) → AreAllOwn s a (map owner each) reads [] → map noted_by packages ≡ noted_in each reads
    → length packages ≡ length each
none_left_out s a each reads packages own are =
    sym (length-map packages noted_by) ∙ ap (λ (xs : List Noted). length xs) are ∙ length-map (zip each reads) noted
    ∙ both_long (length (zip each reads)) (length each) (length reads) (length each) (length-zip each reads) refl (reads_long s a (map owner each) reads [] own ∙ length-map each owner)
