use Rattle.std.proofs.Common.{◌≡◌, ◌∙◌, sym, ap, Some, subst}
use Rattle.std.specs.Option.{ForSome}
use Rattle.std.proofs.lemmas.List.Elements.{All-set}
use Rattle.spdx_requirement.specs.Items.{requirement_of}
use Rattle.spdx_minimize.specs.FirstPlaces.{places_for, IsFound, AreFound}
use Rattle.spdx_minimize.specs.declared.accepted.found.Found.{Found}
use Rattle.spdx_minimize.proofs.accepted.found.FoundPlaces.keep.Goals as goal
use Rattle.spdx_minimize.proofs.accepted.found.FoundPlaces.keep.Goals.{then-is_empty+in-Ok, else-is_empty}

pub returns-in-Some-get_mut : goal.returns-in-Some-get_mut
returns-in-Some-get_mut c licensees known given =
    let before : AreFound licensees c.if-is_empty.self.slots.items = elim c.if-is_empty.branch [
      | then-is_empty+in-Ok w ↦ rw w.self-is (w.in-Ok.ensures licensees)
      | else-is_empty w ↦ rw w.self-is known
    ] in
    let copied : places_for licensees (requirement_of c.args.requirement.now) ≡ places_for licensees (requirement_of c.in-Ok-try_clone.requirement) = ap (places_for licensees) (sym c.in-Ok-try_clone.ensures.copy) in
    let found : Found = record { requirement = c.in-Ok-try_clone.requirement; places = c.args.places } in
    let is_found : IsFound licensees found = given ∙ copied in
    All-set (λ slot. ForSome slot (IsFound licensees)) c.if-is_empty.self.slots.items c.in-Some.slot (Some found) (λ x e. let same : found ≡ x = cc in subst (IsFound licensees) same is_found) before
