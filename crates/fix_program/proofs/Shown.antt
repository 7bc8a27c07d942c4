-- How far walks are is shown, one after the other.
use Rattle.fix_program.specs.Shown.{AreShown, more, none}

module _ {S : Type 0} (Shows : S → S → Type 0) where
  pub both_shown : {x y z : S} → AreShown Shows x y → AreShown Shows y z → AreShown Shows x z
  both_shown p (none y) = p
  both_shown {x = x} p (more y w z q last) = more x w z (both_shown p q) last

  pub one_shown : (x y : S) → Shows x y → AreShown Shows x y
  one_shown x y h = more x x y (none x) h
