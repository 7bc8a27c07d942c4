-- What is passed over under a name.
use Rattle.std.specs.Prelude.{◌≡◌, ℕ, List, String, string_bytes}
use Rattle.std.specs.declared.alloc.Global.{Global}
use Rattle.std.specs.declared.io.Error.{Error}
use Rattle.check_files.specs.Told.{Account}
use Rattle.check_files.specs.declared.trouble.CheckTrouble.{CheckTrouble}
use Rattle.check_files.specs.declared.trouble.CheckTrouble.TheVariants as trouble
use Rattle.check_files.specs.Passing.{PassesOver}
use Rattle.check_files.specs.Tally.{Tally}

-- so it can't be opened or read
abbrev pub PassesUnread : List ℕ → Error → Account CheckTrouble →
    Account CheckTrouble → Tally → Tally → Type 0
PassesUnread name e heard heard' old new = (n : String Global) × (string_bytes n ≡ name)
    × PassesOver (trouble.Unreadable n e) heard heard' old new

-- so what is read of it breaks off
abbrev pub PassesBroken : List ℕ → Account CheckTrouble → Account CheckTrouble →
    Tally → Tally → Type 0
PassesBroken name heard heard' old new = (n : String Global) × (string_bytes n ≡ name)
    × PassesOver (trouble.Broken n) heard heard' old new
