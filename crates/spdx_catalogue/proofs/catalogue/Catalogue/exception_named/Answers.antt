use Rattle.std.proofs.Common.{rules, ◌≡◌, List, option_map, find, string_bytes, ap, sym, ◌∙◌}
use Rattle.std.specs.Option.{option_copied}
use Rattle.std.specs.Prelude.{bytes_eq}
use Rattle.spdx_requirement.specs.Rows.{ExceptionRow, exception_of, exception_name}
use Rattle.spdx_requirement.specs.declared.row.Exception.{Exception}
use Rattle.spdx_catalogue.proofs.Mapped.{find_map}
use Rattle.spdx_catalogue.proofs.Relevant.{named_relevant}
use Rattle.spdx_catalogue.proofs.catalogue.Catalogue.exception_named.Goals as goal

pub first-requires-clause-relevant : goal.first-requires-clause-relevant
first-requires-clause-relevant c = named_relevant (λ (r : Exception). string_bytes r.name) c.args.name

pub returns : goal.returns
returns c =
    let rows : List Exception = c.self.inside.exceptions.items in
    let own : option_copied c.first.result ≡ find (λ (r : Exception). bytes_eq (string_bytes r.name) c.args.name.now) rows = search rules in
    rw (← c.self.view_is) (ap (option_map exception_of) own ∙ sym (find_map (λ (r : ExceptionRow). bytes_eq (exception_name r) c.args.name.now) exception_of rows))
