use Rattle.notice_forms.proofs.Pieces.{begun, written, ended}
use Rattle.notice_forms.proofs.html.put_html.Goals as goal

pub returns-clause-ok : goal.returns-clause-ok
returns-clause-ok c =
    let w1 = written (begun c.args.page.now.items) _ _ c.in_ok-put_front.ensures in
    let w2 = written w1 _ _ c.in_ok-put_contents.ensures in
    let w3 = written w2 _ _ c.in_ok-extend_from_slice.ensures.items in
    let w4 = written w3 _ _ c.in_ok-put_bands.ensures in
    let w5 = written w4 _ _ c.in_ok-extend_from_slice-2.ensures.items in
    let w6 = written w5 _ _ c.in_ok-put_packages.ensures in
    let w7 = written w6 _ _ c.in_ok-extend_from_slice-3.ensures.items in
    let w8 = written w7 _ _ c.in_ok-put_texts.ensures.ok in
    ended w8 _ _ c.in_ok-extend_from_slice-4.ensures.items
