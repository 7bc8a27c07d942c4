-- A trouble of a part is one of the whole.
use Rattle.std.specs.Prelude.{◌≡◌, ◌⊎◌, ℕ, List, [], Option, Some, None, Err, codes, string_bytes}
use Rattle.std.specs.Path.{path_join}
use Rattle.std.proofs.Common.{inl, inr, refl, sym, subst}
use Rattle.spdx_requirement.specs.Rows.{Rows}
use Rattle.spdx_list.specs.declared.error.ListFault.{ListFault}
use Rattle.spdx_list.specs.Files.{ExtraRows, extras_in}
use Rattle.spdx_list.specs.Made.{IsRefused}
use Rattle.shelves.specs.Shelf.{Shelved, Access, to_look, to_read}
use Rattle.list_program.specs.declared.trouble.ListTrouble.{ListTrouble}
use Rattle.list_program.specs.declared.trouble.ListTrouble.TheVariants as trouble
use Rattle.list_program.specs.Named.{InsideBytes, IsListAt, IsNamedList}
use Rattle.list_program.specs.Dated.{IsDateAt, IsNamedDate}
use Rattle.list_program.specs.Troubles.{IsPartOf, the_path, itself, its_licenses, its_exceptions, IsUnreadable, AreNoExtras, IsNoListAt, IsNoListNamed, IsNoNamedList}
use Rattle.list_program.specs.Written.{MadePaths, IsOneOf, of_licenses, of_exceptions, of_extras, AreRead, AreExtrasAt, IsNoListOf, bad_extras, bad_files, IsNoText, IsUnwritten}

unread_part : (s : Shelved) (extras path part : List ℕ) (access : Access) (t : ListTrouble) → IsPartOf path access part → IsUnreadable s access part t → IsNoListAt s extras path t
unread_part s extras path part access (trouble.Unreadable n e) is_part u =
    (access, subst (λ p. IsPartOf path access p) (sym u.0) is_part, subst (λ p. s.Fails access p e) (sym u.0) u.1)
unread_part s extras path part access trouble.Memory is_part u = u
unread_part s extras path part access (trouble.NoList n f) is_part u = absurd u
unread_part s extras path part access (trouble.NotMade n f) is_part u = absurd u
unread_part s extras path part access (trouble.NoExtras f) is_part u = absurd u
unread_part s extras path part access trouble.Nameless is_part u = absurd u
unread_part s extras path part access trouble.Output is_part u = absurd u

pub unlooked : (s : Shelved) (extras path : List ℕ) (t : ListTrouble) → IsUnreadable s to_look path t → IsNoListAt s extras path t
unlooked s extras path t u = unread_part s extras path path to_look t the_path u

pub unread_itself : (s : Shelved) (extras path : List ℕ) (t : ListTrouble) → IsUnreadable s to_read path t → IsNoListAt s extras path t
unread_itself s extras path t u = unread_part s extras path path to_read t itself u

pub unread_licenses : (s : Shelved) (extras path : List ℕ) (t : ListTrouble) → IsUnreadable s to_read (path_join path (codes "licenses.json")) t → IsNoListAt s extras path t
unread_licenses s extras path t u = unread_part s extras path (path_join path (codes "licenses.json")) to_read t its_licenses u

pub unread_exceptions : (s : Shelved) (extras path : List ℕ) (t : ListTrouble) → IsUnreadable s to_read (path_join path (codes "exceptions.json")) t → IsNoListAt s extras path t
unread_exceptions s extras path t u = unread_part s extras path (path_join path (codes "exceptions.json")) to_read t its_exceptions u

pub extras_at : (s : Shelved) (extras path : List ℕ) (t : ListTrouble) → AreNoExtras extras t → IsNoListAt s extras path t
extras_at s extras path (trouble.NoExtras f) u = u
extras_at s extras path trouble.Memory u = u
extras_at s extras path (trouble.NoList n f) u = absurd u
extras_at s extras path (trouble.NotMade n f) u = absurd u
extras_at s extras path (trouble.Unreadable n e) u = absurd u
extras_at s extras path trouble.Nameless u = absurd u
extras_at s extras path trouble.Output u = absurd u

pub at_named : (s : Shelved) (extras path : List ℕ) (t : ListTrouble) → IsNoListAt s extras path t → IsNoListNamed s extras path t
at_named s extras path (trouble.NoExtras f) u = u
at_named s extras path trouble.Memory u = u
at_named s extras path (trouble.NoList n f) u = u
at_named s extras path (trouble.NotMade n f) u = u
at_named s extras path (trouble.Unreadable n e) u = u
at_named s extras path trouble.Nameless u = absurd u
at_named s extras path trouble.Output u = u

pub list_by_variable : (s : Shelved) (inside : InsideBytes) (path : List ℕ) (c : Rows) → s.Says (codes "SPDX_LIST") (Some path) → IsListAt s inside.extras path c → IsNamedList s inside None c
list_by_variable s inside path c says is = (Some path, says, is)

pub date_by_variable : (s : Shelved) (inside : InsideBytes) (path : List ℕ) (date : Option (List ℕ)) → s.Says (codes "SPDX_LIST") (Some path) → IsDateAt s path date → IsNamedDate s inside None date
date_by_variable s inside path date says is = (Some path, says, is)

pub none_by_variable : (s : Shelved) (inside : InsideBytes) (path : List ℕ) (t : ListTrouble) → s.Says (codes "SPDX_LIST") (Some path) → IsNoListNamed s inside.extras path t → IsNoNamedList s inside None t
none_by_variable s inside path trouble.Memory says why = tt
none_by_variable s inside path trouble.Nameless says why = inr (Some path, says, why)
none_by_variable s inside path (trouble.Unreadable n e) says why = inr (Some path, says, why)
none_by_variable s inside path (trouble.NoList n f) says why = inr (Some path, says, why)
none_by_variable s inside path (trouble.NotMade n f) says why = inr (Some path, says, why)
none_by_variable s inside path (trouble.NoExtras f) says why = inr (Some path, says, why)
none_by_variable s inside path trouble.Output says why = inr (Some path, says, why)

pub none_said : (s : Shelved) (inside : InsideBytes) (path : List ℕ) (t : ListTrouble) → s.Says (codes "SPDX_LIST") (Some path) → ((extras : List ℕ) → IsNoListNamed s extras path t) → IsNoNamedList s inside None t
none_said s inside path t says why = none_by_variable s inside path t says (why inside.extras)

pub no_text : (s : Shelved) (inside : InsideBytes) → s.IsNoText (codes "SPDX_LIST") → IsNoNamedList s inside None trouble.Nameless
no_text s inside is = inl (is, refl)

unread_of : (s : Shelved) (paths : MadePaths) (path : List ℕ) (t : ListTrouble) → IsOneOf paths path → IsUnreadable s to_read path t → IsNoText s paths t
unread_of s paths path (trouble.Unreadable n e) is_one u =
    (subst (λ p. IsOneOf paths p) (sym u.0) is_one, subst (λ p. s.Fails to_read p e) (sym u.0) u.1)
unread_of s paths path trouble.Memory is_one u = u
unread_of s paths path (trouble.NoList n f) is_one u = absurd u
unread_of s paths path (trouble.NotMade n f) is_one u = absurd u
unread_of s paths path (trouble.NoExtras f) is_one u = absurd u
unread_of s paths path trouble.Nameless is_one u = absurd u
unread_of s paths path trouble.Output is_one u = absurd u

pub licenses_unread : (s : Shelved) (paths : MadePaths) (t : ListTrouble) → IsUnreadable s to_read paths.licenses t → IsNoText s paths t
licenses_unread s paths t u = unread_of s paths paths.licenses t of_licenses u

pub exceptions_unread : (s : Shelved) (paths : MadePaths) (t : ListTrouble) → IsUnreadable s to_read paths.exceptions t → IsNoText s paths t
exceptions_unread s paths t u = unread_of s paths paths.exceptions t of_exceptions u

pub extras_unread : (s : Shelved) (paths : MadePaths) (path : List ℕ) (t : ListTrouble) → paths.extras ≡ Some path → IsUnreadable s to_read path t → IsNoText s paths t
extras_unread s paths path t is u = unread_of s paths path t (of_extras is) u

pub unwritten : (s : Shelved) (paths : MadePaths) (old : Option (List ℕ)) (t : ListTrouble) → IsNoText s paths t → IsUnwritten s paths old old t
unwritten s paths old (trouble.Unreadable n e) u = (refl, u)
unwritten s paths old trouble.Memory u = (refl, u)
unwritten s paths old (trouble.NotMade n f) u = (refl, u)
unwritten s paths old (trouble.NoList n f) u = absurd u
unwritten s paths old (trouble.NoExtras f) u = absurd u
unwritten s paths old trouble.Nameless u = absurd u
unwritten s paths old trouble.Output u = absurd u

pub told_of_extras : (s : Shelved) (paths : MadePaths) (name path bytes : List ℕ) (f : ListFault) → name ≡ path → paths.extras ≡ Some path → s.Holds path bytes → extras_in bytes ≡ Err f → IsNoListOf s paths name f
told_of_extras s paths name path bytes f named is holds fault = subst (λ n. IsNoListOf s paths n f) (sym named) (bad_extras bytes is holds fault)

pub told_of_files : (s : Shelved) (paths : MadePaths) (name licenses exceptions : List ℕ) (extras : ExtraRows) (f : ListFault) → name ≡ paths.licenses → s.Holds paths.licenses licenses → s.Holds paths.exceptions exceptions → AreExtrasAt s paths.extras extras → IsRefused licenses exceptions extras f → IsNoListOf s paths name f
told_of_files s paths name licenses exceptions extras f named holds_licenses holds_exceptions holds_extras refused =
    subst (λ n. IsNoListOf s paths n f) (sym named) (bad_files licenses exceptions extras (record { holds_licenses = holds_licenses; holds_exceptions = holds_exceptions; holds_extras = holds_extras }) refused)
