-- A list that is made twice: once without extras, to know what it lists.
use Rattle.std.specs.Prelude.{◌≡◌, List, ℕ, Result, Ok, Err, IfErr}
use Rattle.std.proofs.Common.{subst, inl, inr}
use Rattle.spdx_requirement.specs.Rows.{Rows}
use Rattle.spdx_list.specs.Files.{ExtraRows}
use Rattle.spdx_requirement.specs.declared.failure.Failure.{Failure}
use Rattle.spdx_requirement.specs.declared.failure.Failure.TheVariants as failure
use Rattle.spdx_requirement.specs.Failures.{IfRefused}
use Rattle.spdx_list.specs.declared.error.ListFault.{ListFault}
use Rattle.spdx_list.specs.Made.{Makes, IsRefused}
use Rattle.list_program.specs.Named.{MakesWith, no_extras, of_listed}
use Rattle.list_program.specs.Troubles.{IsRefusedWith}

pub makes_with : (x none some : ExtraRows) (licenses exceptions : List ℕ) (bare c : Rows) → none ≡ no_extras → Makes licenses exceptions none bare → some ≡ of_listed bare x → Makes licenses exceptions some c → MakesWith x licenses exceptions c
makes_with x none some licenses exceptions bare c is_none lists is_some makes = record {
  bare = bare;
  lists = subst (λ e. Makes licenses exceptions e bare) is_none lists;
  makes = subst (λ e. Makes licenses exceptions e c) is_some makes;
}

pub refused_bare : (x none : ExtraRows) (licenses exceptions : List ℕ) (f : Failure ListFault) → none ≡ no_extras → IfRefused (IsRefused licenses exceptions none) f → IfRefused (IsRefusedWith x licenses exceptions) f
refused_bare x none licenses exceptions (failure.Refused f) is_none is = inl (subst (λ e. IsRefused licenses exceptions e f) is_none is)
refused_bare x none licenses exceptions (failure.Memory e) is_none is = is

refused_with : (x none some : ExtraRows) (licenses exceptions : List ℕ) (bare : Rows) (f : Failure ListFault) → none ≡ no_extras → Makes licenses exceptions none bare → some ≡ of_listed bare x → IfRefused (IsRefused licenses exceptions some) f → IfRefused (IsRefusedWith x licenses exceptions) f
refused_with x none some licenses exceptions bare (failure.Refused f) is_none lists is_some is =
    inr (bare, subst (λ e. Makes licenses exceptions e bare) is_none lists, subst (λ e. IsRefused licenses exceptions e f) is_some is)
refused_with x none some licenses exceptions bare (failure.Memory e) is_none lists is_some is = is

pub refused_last : {A : Type 0} (x none some : ExtraRows) (licenses exceptions : List ℕ) (bare : Rows) (r : Result A (Failure ListFault)) → none ≡ no_extras → Makes licenses exceptions none bare → some ≡ of_listed bare x → IfErr r (IfRefused (IsRefused licenses exceptions some)) → IfErr r (IfRefused (IsRefusedWith x licenses exceptions))
refused_last x none some licenses exceptions bare (Ok c) is_none lists is_some is = is
refused_last x none some licenses exceptions bare (Err f) is_none lists is_some is = refused_with x none some licenses exceptions bare f is_none lists is_some is
