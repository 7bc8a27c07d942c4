use Rattle.std.proofs.Common.{subst, sym}
use Rattle.spdx_requirement.specs.Rows.{Rows}
use Rattle.spdx_tables.specs.TableReading.{rows_of}
use Rattle.spdx_list.specs.Shown.{shown_extras}
use Rattle.spdx_list.specs.FullNames.{ReadsFullNames}
use Rattle.spdx_list.specs.Forms.{ReadsForms}
use Rattle.spdx_list.proofs.ReadForms.{made_reads, made_reads_forms}
use Rattle.spdx_list.proofs.tables.catalogue_of.Goals as goal

pub returns-in-Ok-clause-full : goal.returns-in-Ok-clause-full
returns-in-Ok-clause-full c =
    let reads = made_reads c.args.licenses.now c.args.exceptions.now (shown_extras c.args.extras.now) (rows_of c.in_ok-tables.tables) c.in_ok-tables.ensures.ok in
    subst (λ (r : Rows). ReadsFullNames r.licenses r.exceptions (shown_extras c.args.extras.now).imprecise r.imprecise) (sym c.in-Ok.ensures.rows) reads

pub returns-in-Ok-clause-forms : goal.returns-in-Ok-clause-forms
returns-in-Ok-clause-forms c =
    let reads = made_reads_forms c.args.licenses.now c.args.exceptions.now (shown_extras c.args.extras.now) (rows_of c.in_ok-tables.tables) c.in_ok-tables.ensures.ok in
    subst (λ (r : Rows). ReadsForms r.licenses r.exceptions (shown_extras c.args.extras.now).imprecise r.imprecise) (sym c.in-Ok.ensures.rows) reads
