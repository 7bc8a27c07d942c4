-- One more item with its place.
use Rattle.std.proofs.Common.{◌≡◌, ℕ, zero, suc, ◌+◌, ◌<◌, List, [], ◌∷◌, ◌++◌, length, get_or, map, take, sym, ap, ◌∙◌, append_assoc, append-nil, arith}
use Rattle.notice_forms.specs.Numbered.{numbered}
use Rattle.notice_forms.specs.declared.pages.LicenseText.{LicenseText}
use Rattle.notice_forms.specs.Told.{Named, named}

numbered_suc : {X A : Type 0} (f : ℕ → A → List ℕ) (g : X → A) (n : ℕ) (xs : List X) (i : ℕ) (d : X) → i < length xs →
    numbered f n (map g (take (suc i) xs)) ≡ numbered f n (map g (take i xs)) ++ f (n + i) (g (get_or xs i d))
numbered_suc f g n [] i d l = absurd (omega arith)
numbered_suc f g n (x ∷ xs) zero d l =
    let same : n ≡ n + 0 = omega arith in
    append-nil (f n (g x)) ∙ ap (λ (k : ℕ). f k (g x)) same
numbered_suc f g n (x ∷ xs) (suc i) d l =
    let same : n + 1 + i ≡ n + suc i = omega arith in
    ap (λ (bs : List ℕ). f n (g x) ++ bs) (numbered_suc f g (n + 1) xs i d (omega arith) ∙ ap (λ (k : ℕ). numbered f (n + 1) (map g (take i xs)) ++ f k (g (get_or xs i d))) same)
    ∙ sym (append_assoc (f n (g x)) (numbered f (n + 1) (map g (take i xs))) (f (n + suc i) (g (get_or xs i d))))

pub numbered_more : {X A : Type 0} (f : ℕ → A → List ℕ) (g : X → A) (xs : List X) (i : ℕ) (d : X) → i < length xs →
    numbered f 0 (map g (take (i + 1) xs)) ≡ numbered f 0 (map g (take i xs)) ++ f i (g (get_or xs i d))
numbered_more f g xs i d l =
    let next : i + 1 ≡ suc i = omega arith in
    let same : 0 + i ≡ i = omega arith in
    ap (λ (k : ℕ). numbered f 0 (map g (take k xs))) next ∙ numbered_suc f g 0 xs i d l ∙ ap (λ (k : ℕ). numbered f 0 (map g (take i xs)) ++ f k (g (get_or xs i d))) same

pub numbered_pushed : {X A : Type 0} (f : ℕ → A → List ℕ) (g : X → A) (xs : List X) (i : ℕ) (x : X) → i < length xs → x ≡ get_or xs i x → (old was now : List ℕ) →
    was ≡ old ++ numbered f 0 (map g (take i xs)) → now ≡ was ++ f i (g x) → now ≡ old ++ numbered f 0 (map g (take (i + 1) xs))
numbered_pushed {X = X} f g xs i x l at old was now h k =
    let done = numbered f 0 (map g (take i xs)) in
    k ∙ ap (λ (bs : List ℕ). bs ++ f i (g x)) h ∙ append_assoc old done (f i (g x))
    ∙ ap (λ (y : X). old ++ (done ++ f i (g y))) at ∙ ap (λ (bs : List ℕ). old ++ bs) (sym (numbered_more f g xs i x l))

-- what stands for a text past the last
abbrev pub no_text : LicenseText
no_text = record { name = record { ref_ptr = (0, 0); now = [] }; packages = record { ref_ptr = (0, 0); now = [] }; bytes = record { ref_ptr = (0, 0); now = [] } }

pub text_pushed : (f : ℕ → Named → List ℕ) (texts : List LicenseText) (i : ℕ) → i < length texts → (old was now : List ℕ) →
    was ≡ old ++ numbered f 0 (map named (take i texts)) → now ≡ was ++ f i (named (get_or texts i no_text)) → now ≡ old ++ numbered f 0 (map named (take (i + 1) texts))
text_pushed f texts i l old was now h k =
    let done = numbered f 0 (map named (take i texts)) in
    let item = f i (named (get_or texts i no_text)) in
    k ∙ ap (λ (bs : List ℕ). bs ++ item) h ∙ append_assoc old done item ∙ ap (λ (bs : List ℕ). old ++ bs) (sym (numbered_more f named texts i no_text l))
