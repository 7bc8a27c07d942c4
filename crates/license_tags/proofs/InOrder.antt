-- Tags in order, one more behind them, and more room.
use Rattle.std.proofs.Common.{ℕ, ◌≤◌, List, [], ◌∷◌, ◌++◌, arith}
use Rattle.license_tags.specs.declared.Tag.{Tag}
use Rattle.license_tags.specs.Tags.{AreInOrder}

pub AreInOrder-more : (low : ℕ) (tags : List Tag) (high more : ℕ) → AreInOrder low tags high → high ≤ more → AreInOrder low tags more
AreInOrder-more low [] high more h l = omega arith
AreInOrder-more low (t ∷ tags) high more h l = (h.0, h.1, AreInOrder-more t.end tags high more h.2 l)

pub AreInOrder-push : (low : ℕ) (tags : List Tag) (tag : Tag) (high more : ℕ) → AreInOrder low tags high → high ≤ tag.start → tag.start ≤ tag.end → tag.end ≤ more → AreInOrder low (tags ++ tag ∷ []) more
AreInOrder-push low [] tag high more h l o m = (omega (arith, h), o, m)
AreInOrder-push low (t ∷ tags) tag high more h l o m = (h.0, h.1, AreInOrder-push t.end tags tag high more h.2 l o m)
