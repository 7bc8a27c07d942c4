-- Why no page is written.
use Rattle.std.specs.Prelude.{◌≡◌, List, ⊤, Any}
use Rattle.std.specs.Str.{IsUtf8}
use Rattle.notice_forms.specs.declared.errors.PageError.{PageError}
use Rattle.notice_forms.specs.declared.errors.PageError.TheVariants.{Memory, NotUtf8}
use Rattle.notice_forms.specs.Told.{Named}

-- memory was refused, or a text of this name is no UTF-8
abbrev pub IsTextRefusal : List Named → PageError → Type 0
IsTextRefusal texts Memory = ⊤
IsTextRefusal texts (NotUtf8 name) =
    Any (λ (t : Named). (t.name ≡ name.now) × (¬ (IsUtf8 t.bytes))) texts
