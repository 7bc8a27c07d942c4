-- What a judge of choices for all shows.
use Rattle.std.specs.Prelude.{ℕ, List, map}
use Rattle.package_choices.specs.declared.allowed.judge.JointJudge.{JointJudge}
use Rattle.package_choices.specs.Choice.{Asked}
use Rattle.package_choices.specs.Questions.{asked_of}

abbrev pub judged_questions : JointJudge → List Asked
judged_questions judge = map asked_of judge.questions.now

-- how many members there are
abbrev pub judged_count : JointJudge → ℕ
judged_count judge = judge.count

-- how many questions were asked
abbrev pub questions_asked : JointJudge → ℕ
questions_asked judge = judge.asked
