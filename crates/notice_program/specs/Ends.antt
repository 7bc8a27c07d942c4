-- The status of a run, by how it ends.
use Rattle.std.specs.Prelude.{ℕ, Bool, true, false, Option, None, Some}
use Rattle.choice_program.specs.declared.choosing.ChoiceTrouble.{ChoiceTrouble}
use Rattle.choice_program.specs.declared.choosing.ChoiceTrouble.TheVariants as trouble
use Rattle.notice_program.specs.declared.end.End.{End}
use Rattle.notice_program.specs.declared.end.End.TheVariants as end

-- some package has no choice; else what was to be chosen from isn't had
abbrev pub choice_status : ChoiceTrouble → ℕ
choice_status (trouble.NoChoices us) = 1
choice_status (trouble.NoneTogether w) = 1
choice_status (trouble.NoLicensee n r) = 2
choice_status (trouble.Policy t) = 2
choice_status trouble.Memory = 2

abbrev pub page_status : {A : Type 0} → Option A → ℕ
page_status None = 1
page_status (Some page) = 0

abbrev pub end_status : End → ℕ
end_status end.LeftOut = 2
end_status (end.NoChoice t) = choice_status t
end_status (end.NoFolder t) = 2
end_status (end.NoOwn ts) = 2
end_status (end.NoGeneral ts) = 2
end_status (end.NotUtf8 n) = 2
end_status (end.Told n) = page_status n.page
