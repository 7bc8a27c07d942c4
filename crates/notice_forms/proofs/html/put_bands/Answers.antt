use Rattle.license_notice.specs.Notices.{band_of}
use Rattle.notice_forms.specs.Markup.{html_band}
use Rattle.notice_forms.proofs.Numbering.{numbered_pushed}
use Rattle.notice_forms.proofs.html.put_bands.Goals as goal

pub loop-number-preserved : goal.loop-number-preserved
loop-number-preserved c =
    numbered_pushed html_band band_of c.args.groups.now c.loop-number.number c.index-groups-number.result c.loop-number-test.true c.index-groups-number.is _ _ _ c.loop-number.invariant c.in_ok-put_band.ensures
