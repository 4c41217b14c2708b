-- Canonical texts, written piece by piece.
use Rattle.std.proofs.Common.{◌≡◌, ℕ, List, [], ◌∷◌, ◌++◌, ℤ, pos, false, unsigned_abs, sym, ap, ◌∙◌, append_assoc}
use Rattle.std.specs.Fmt.{sign_text}
use Rattle.std.specs.Int.{is_negative}
use Rattle.fixed_respell.specs.Words.{format_text}
use Rattle.fixed_write.specs.Places.{exact_text}
use Rattle.fixed_constants.specs.Canonical.{entry_text, hex_prefix, literal_text}
use Rattle.fixed_constants.specs.Constants.{ConstantParts}

pub literal_pieces : (out a b d : List ℕ) (bits m : ℤ) (g : ℕ) → a ≡ out ++ sign_text (is_negative bits) → b ≡ a ++ hex_prefix → m ≡ pos (unsigned_abs bits) → d ≡ b ++ exact_text 16 false m g → d ≡ out ++ literal_text bits g
unfolding literal_text
literal_pieces out a b d bits m g ea eb em ed =
    let s : List ℕ = sign_text (is_negative bits) in
    let t : List ℕ = exact_text 16 false (pos (unsigned_abs bits)) g in
    (ed ∙ (ap (λ v. b ++ exact_text 16 false v g) em ∙ (ap (λ x. x ++ t) (eb ∙ ap (λ x. x ++ hex_prefix) ea) ∙ (append_assoc (out ++ s) hex_prefix t ∙ append_assoc out s (hex_prefix ++ t)))))

flat : (t n l f : List ℕ) → (((((t ++ n) ++ (32 ∷ 61 ∷ 32 ∷ [])) ++ l) ++ 32 ∷ []) ++ f) ++ 10 ∷ [] ≡ t ++ ((n ++ 32 ∷ (61 ∷ 32 ∷ (l ++ 32 ∷ f))) ++ 10 ∷ [])
flat t n l f =
    append_assoc ((((t ++ n) ++ (32 ∷ 61 ∷ 32 ∷ [])) ++ l) ++ 32 ∷ []) f (10 ∷ [])
    ∙ (append_assoc (((t ++ n) ++ (32 ∷ 61 ∷ 32 ∷ [])) ++ l) (32 ∷ []) (f ++ 10 ∷ [])
    ∙ (append_assoc ((t ++ n) ++ (32 ∷ 61 ∷ 32 ∷ [])) l (32 ∷ (f ++ 10 ∷ []))
    ∙ (append_assoc (t ++ n) (32 ∷ 61 ∷ 32 ∷ []) (l ++ 32 ∷ (f ++ 10 ∷ []))
    ∙ (append_assoc t n (32 ∷ 61 ∷ 32 ∷ (l ++ 32 ∷ (f ++ 10 ∷ [])))
    ∙ (sym (ap (λ x. t ++ (n ++ (32 ∷ 61 ∷ 32 ∷ x))) (append_assoc l (32 ∷ f) (10 ∷ [])))
    ∙ sym (ap (λ x. t ++ x) (append_assoc n (32 ∷ 61 ∷ 32 ∷ (l ++ 32 ∷ f)) (10 ∷ []))))))))

pub entry_pieces : (t : List ℕ) (c : ConstantParts) (a b d e g h l f : List ℕ) → l ≡ literal_text c.bits c.format.frac → f ≡ format_text c.format → a ≡ t ++ c.name → b ≡ a ++ (32 ∷ 61 ∷ 32 ∷ []) → d ≡ b ++ l → e ≡ d ++ 32 ∷ [] → g ≡ e ++ f → h ≡ g ++ 10 ∷ [] → h ≡ t ++ entry_text c
entry_pieces t c a b d e g h l f el ef ea eb ed ee eg eh =
    let L : List ℕ = literal_text c.bits c.format.frac in
    let F : List ℕ = format_text c.format in
    eh ∙ (ap (λ x. x ++ 10 ∷ []) (eg ∙ (ap (λ x. e ++ x) ef ∙ ap (λ x. x ++ F) (ee ∙ ap (λ x. x ++ 32 ∷ []) (ed ∙ (ap (λ x. b ++ x) el ∙ ap (λ x. x ++ L) (eb ∙ ap (λ x. x ++ (32 ∷ 61 ∷ 32 ∷ [])) ea)))))) ∙ flat t c.name L F)

pub two_pieces : (t a b s u : List ℕ) → s ≡ t ++ a → u ≡ s ++ b → u ≡ t ++ (a ++ b)
two_pieces t a b s u es eu = eu ∙ (ap (λ x. x ++ b) es ∙ append_assoc t a b)

pub three_pieces : (t a b d x y z : List ℕ) → x ≡ t ++ a → y ≡ x ++ b → z ≡ y ++ d → z ≡ t ++ (a ++ (b ++ d))
three_pieces t a b d x y z ex ey ez = two_pieces t a (b ++ d) x z ex (two_pieces x b d y z ey ez)

pub four_pieces : (t a b d e w x y z : List ℕ) → w ≡ t ++ a → x ≡ w ++ b → y ≡ x ++ d → z ≡ y ++ e → z ≡ t ++ (a ++ (b ++ (d ++ e)))
four_pieces t a b d e w x y z ew ex ey ez = two_pieces t a (b ++ (d ++ e)) w z ew (three_pieces w b d e x y z ex ey ez)

pub five_pieces : (t a b d e f v w x y z : List ℕ) → v ≡ t ++ a → w ≡ v ++ b → x ≡ w ++ d → y ≡ x ++ e → z ≡ y ++ f → z ≡ t ++ (a ++ (b ++ (d ++ (e ++ f))))
five_pieces t a b d e f v w x y z ev ew ex ey ez = two_pieces t a (b ++ (d ++ (e ++ f))) v z ev (four_pieces v b d e f w x y z ew ex ey ez)
