use Rattle.std.proofs.Common.{◌≡◌, ◌∙◌, ap, List, map, subst}
use Rattle.std.specs.List.{AllZip}
use Rattle.notice_texts.specs.declared.texts.OwnText.{OwnText}
use Rattle.notice_texts.specs.Shared.{EachStands, NothingElse, Own, Shared, gathered, own, shared_of}
use Rattle.notice_told.specs.declared.lacks.GeneralText.{GeneralText}
use Rattle.notice_told.specs.Lacks.{seen_lack}
use Rattle.notice_told.specs.Packages.{owns_in}
use Rattle.notice_told.specs.Texts.{IsGeneralText, IsOwnText, page_named}
use Rattle.notice_told.proofs.Zips.{zip_seen, zip_seen_second}
use Rattle.notice_told.proofs.page.page_texts.Goals as goal

pub returns : goal.returns
returns c =
    let owns : map own c.deref.result.now ≡ owns_in c.args.packages.now = ap (λ (ts : List OwnText). map own ts) c.deref.ensures.value ∙ c.in_ok-owns.ensures in
    let exact : map shared_of c.in_ok-shared.shared.items ≡ gathered (owns_in c.args.packages.now) = c.in_ok-shared.ensures.exact ∙ ap gathered owns in
    let named = map page_named c.in_ok-own.own.items in
    let others = map page_named c.in_ok-general.general.items in
    let lacks = map seen_lack c.args.lacks.now in
    record {
      own_are =
          subst (λ (shared : List Shared). AllZip IsOwnText shared named) exact
          (zip_seen IsOwnText shared_of page_named c.in_ok-shared.shared.items c.in_ok-own.own.items (rw c.deref-2.ensures.value at c.in_ok-own.ensures));
      others_are =
          subst (λ (used : List GeneralText). AllZip (IsGeneralText c.args.marks_general lacks) used others) c.in_ok-used.ensures
          (zip_seen_second (IsGeneralText c.args.marks_general lacks) page_named c.in_ok-used.used.items c.in_ok-general.general.items (rw c.deref-3.ensures.value at c.in_ok-general.ensures));
      each_stands =
          subst (λ (shared : List Shared). EachStands (owns_in c.args.packages.now) shared) exact
          (subst (λ (texts : List Own). EachStands texts (map shared_of c.in_ok-shared.shared.items)) owns c.in_ok-shared.ensures.each);
      nothing_else =
          subst (λ (shared : List Shared). NothingElse (owns_in c.args.packages.now) shared) exact
          (subst (λ (texts : List Own). NothingElse texts (map shared_of c.in_ok-shared.shared.items)) owns c.in_ok-shared.ensures.nothing_else);
    }
