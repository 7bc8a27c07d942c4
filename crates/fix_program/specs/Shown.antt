-- What shows how far a walk is.

-- the second is what the first becomes, where one thing after another is shown, or none
pub data AreShown {S : Type 0} (Shows : S → S → Type 0) : S → S → Type 0 where
  none : (x : S) → AreShown Shows x x
  more : (x y z : S) → AreShown Shows x y → Shows y z → AreShown Shows x z
