-- What items say of packages.
use Rattle.std.specs.Prelude.{ℕ, Bool, List, [], Option, None, Result, Ok}
use Rattle.package_items.specs.Rows.{ItemRow, LicenseRow, PackageRow, at_pointer, Fault}
use Rattle.package_items.specs.Members.{on_ok}

-- a package with this name, version and license, and nothing else said
abbrev pub said : ItemRow → List ℕ → Option (List ℕ) → LicenseRow → PackageRow
said item name version license =
    record {
      name = name;
      version = version;
      license = license;
      folder = None;
      license_files = [];
      evidence = 0;
      is_own = item.is_own;
      spot = at_pointer item.at;
    }

-- the package of what the members of an item say, the first fault first
abbrev pub said_of : ItemRow → Result (List ℕ) Fault → Result (Option (List ℕ)) Fault →
    Result LicenseRow Fault → Result PackageRow Fault
said_of item name version license =
    on_ok name (λ n. on_ok version (λ v. on_ok license (λ l. Ok (said item n v l))))

-- the same package, in that folder, with its license in those files
abbrev pub placed : Option (List ℕ) → List (List ℕ) → PackageRow → PackageRow
placed folder files p =
    record {
      name = p.name;
      version = p.version;
      license = p.license;
      folder = folder;
      license_files = files;
      evidence = p.evidence;
      is_own = p.is_own;
      spot = p.spot;
    }

-- the same package, with so many licenses told as evidence
abbrev pub with_evidence : ℕ → PackageRow → PackageRow
with_evidence n p =
    record {
      name = p.name;
      version = p.version;
      license = p.license;
      folder = p.folder;
      license_files = p.license_files;
      evidence = n;
      is_own = p.is_own;
      spot = p.spot;
    }

-- the same package, one's own or not
abbrev pub owned : Bool → PackageRow → PackageRow
owned own p =
    record {
      name = p.name;
      version = p.version;
      license = p.license;
      folder = p.folder;
      license_files = p.license_files;
      evidence = p.evidence;
      is_own = own;
      spot = p.spot;
    }
