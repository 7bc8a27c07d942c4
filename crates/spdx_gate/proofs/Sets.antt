-- What a set has besides when one more is put into it.
use Rattle.std.proofs.Common.{◌≡◌, ◌==◌, ℕ, Bool, true, false, cond, refl, sym, ap, ◌∙◌, arith}
use Rattle.std.specs.Prelude.{◌||◌, ◌&&◌}
use Rattle.std.specs.Cmp.{both_tied, unsigned_ties}
use Rattle.std.specs.Ordering.{eq_by_cmp, nat_cmp}
use Rattle.std.specs.BTreeSet.{BTreeSet, Updates}
use Rattle.spdx_policy.specs.declared.decision.Entry.{Entry}
use Rattle.spdx_policy.specs.declared.decision.Entry.TheVariants as entry
use Rattle.spdx_gate.specs.Reports.{same_entry}
use Rattle.spdx_gate.specs.Used.{entry_cmp, has_entry, AddsEntries}

or_else : (b c : Bool) → cond b true c ≡ (c || b)
or_else true true = refl
or_else true false = refl
or_else false true = refl
or_else false false = refl

same_number : (i j : ℕ) → (j == i) ≡ (i == j)
same_number i j = grind arith

-- the order of entries ties just those that are one
tied : (f e : Entry) → eq_by_cmp entry_cmp f e ≡ same_entry e f
tied (entry.Allow i) (entry.Allow j) = sym (unsigned_ties i j) ∙ sym (same_number i j)
tied (entry.Allow i) (entry.AllowIf j) = refl
tied (entry.Allow i) (entry.Deny j) = refl
tied (entry.Allow i) (entry.DenyIf j) = refl
tied (entry.Allow i) (entry.Exception t j) = refl
tied (entry.AllowIf i) (entry.Allow j) = refl
tied (entry.AllowIf i) (entry.AllowIf j) = sym (unsigned_ties i j) ∙ sym (same_number i j)
tied (entry.AllowIf i) (entry.Deny j) = refl
tied (entry.AllowIf i) (entry.DenyIf j) = refl
tied (entry.AllowIf i) (entry.Exception t j) = refl
tied (entry.Deny i) (entry.Allow j) = refl
tied (entry.Deny i) (entry.AllowIf j) = refl
tied (entry.Deny i) (entry.Deny j) = sym (unsigned_ties i j) ∙ sym (same_number i j)
tied (entry.Deny i) (entry.DenyIf j) = refl
tied (entry.Deny i) (entry.Exception t j) = refl
tied (entry.DenyIf i) (entry.Allow j) = refl
tied (entry.DenyIf i) (entry.AllowIf j) = refl
tied (entry.DenyIf i) (entry.Deny j) = refl
tied (entry.DenyIf i) (entry.DenyIf j) = sym (unsigned_ties i j) ∙ sym (same_number i j)
tied (entry.DenyIf i) (entry.Exception t j) = refl
tied (entry.Exception s i) (entry.Allow j) = refl
tied (entry.Exception s i) (entry.AllowIf j) = refl
tied (entry.Exception s i) (entry.Deny j) = refl
tied (entry.Exception s i) (entry.DenyIf j) = refl
tied (entry.Exception s i) (entry.Exception t j) =
    sym (both_tied (s == t) (i == j) (nat_cmp s t) (nat_cmp i j) (unsigned_ties s t) (unsigned_ties i j))
    ∙ ap (λ b. b && (i == j)) (sym (same_number s t)) ∙ ap (λ b. (t == s) && b) (sym (same_number i j))

pub entry_more : (old new : BTreeSet Entry) (f : Entry) → Updates entry_cmp old new f true → AddsEntries old (λ e. same_entry e f) new
entry_more old new f updates e =
    updates.0 e ∙ or_else (eq_by_cmp entry_cmp f e) (has_entry old e) ∙ ap (λ b. has_entry old e || b) (tied f e)
