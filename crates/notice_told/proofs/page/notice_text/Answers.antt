use Rattle.std.proofs.Common.{◌≡◌, ◌∙◌, ap, List, map, subst}
use Rattle.license_notice.specs.Notices.{bands_of, line_of}
use Rattle.notice_told.specs.declared.lacks.Lack.{Lack}
use Rattle.notice_told.specs.Lacks.{Lacked, lacks_in, missing, seen_lack}
use Rattle.notice_told.specs.Page.{AreTexts, AreTotals, others_in, own_in}
use Rattle.notice_told.proofs.page.notice_text.Goals as goal

pub returns-clause-ok : goal.returns-clause-ok
returns-clause-ok c =
    let texts = c.in_ok-texts.texts in
    let lacks : map seen_lack c.deref.result.now ≡ lacks_in c.args.packages.now = ap (λ (ls : List Lack). map seen_lack ls) c.deref.ensures.value ∙ c.in_ok-lacks.ensures in
    let missed : map seen_lack c.in_ok-missing.missing.items ≡ missing c.args.general.now (lacks_in c.args.packages.now) =
    c.in_ok-missing.ensures ∙ ap (λ (ls : List Lack). missing c.args.general.now (map seen_lack ls)) c.deref-5.ensures.value ∙ ap (missing c.args.general.now) c.in_ok-lacks.ensures in
    record {
      bands = bands_of c.in_ok-groups.groups.items;
      turned = map line_of c.in_ok-turned.turned.items;
      own = own_in texts;
      others = others_in texts;
      grouped = c.in_ok-groups.ensures;
      by_package = rw c.deref-2.ensures.value at c.in_ok-turned.ensures;
      texts_are = subst (λ (ls : List Lacked). AreTexts c.args.look.marks_general c.args.packages.now ls c.args.general.now (own_in texts) (others_in texts)) lacks c.in_ok-texts.ensures;
      bytes_are = rw c.deref-4.ensures.value at (rw c.deref-3.ensures.value at c.in_ok-bytes.ensures.ok);
      missing_are = missed;
      totals_are = subst (λ (ls : List Lacked). AreTotals c.args.packages.now texts ls c.in_ok-totals.totals) (ap (λ (ls : List Lack). map seen_lack ls) c.deref-6.ensures.value ∙ missed) c.in_ok-totals.ensures;
    }
