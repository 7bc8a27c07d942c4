use Rattle.std.proofs.Common.{rules, ◌≡◌, ◌⊎◌, inl, inr, ℕ, List, subst, sym}
use Rattle.manifests.specs.declared.form.Form.{Form}
use Rattle.manifests.specs.declared.form.Form.TheVariants.{Cargo, Pyproject, Reuse}
use Rattle.manifests.specs.Sites.{MendsToml, Stays}
use Rattle.manifests.proofs.SoFar.{ok_none}
use Rattle.manifests.proofs.declared.with_expression.Goals as goal

-- what no form of TOML mends stays
stays : (form : Form) (bytes : List ℕ) (number : ℕ) (new : List ℕ) → (form ≡ Cargo) ⊎ ((form ≡ Pyproject) ⊎ (form ≡ Reuse))
    → ((mended : List ℕ) → MendsToml form bytes number new mended → ⊥) → Stays form bytes number new
stays form bytes number new (inl is) none = subst (λ (f : Form). Stays f bytes number new) (sym is) (subst (λ (f : Form). (mended : List ℕ) → MendsToml f bytes number new mended → ⊥) is none)
stays form bytes number new (inr (inl is)) none = subst (λ (f : Form). Stays f bytes number new) (sym is) (subst (λ (f : Form). (mended : List ℕ) → MendsToml f bytes number new mended → ⊥) is none)
stays form bytes number new (inr (inr is)) none = subst (λ (f : Form). Stays f bytes number new) (sym is) (subst (λ (f : Form). (mended : List ℕ) → MendsToml f bytes number new mended → ⊥) is none)

pub returns-in-Cargo-clause-stays : goal.returns-in-Cargo-clause-stays
returns-in-Cargo-clause-stays c =
    let follows = stays c.args.form c.args.bytes.now c.args.number c.args.new.now c.in-Cargo.is in
    ok_none c.toml_with.result _ _ follows c.toml_with.ensures.none

pub returns-in_default : goal.returns-in_default
returns-in_default c = let is = c.json_with.ensures.err c.args.form in search rules
