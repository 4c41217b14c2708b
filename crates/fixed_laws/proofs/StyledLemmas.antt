-- Each number has just one text in a style.
use Rattle.std.proofs.Common.{◌≡◌, ℕ, zero, suc, ◌*◌, ◌%◌, ◌^◌, ◌<◌, false, List, ◌++◌, replicate, ℤ, pos, unsigned_abs, refl, sym, ap, ◌∙◌, arith, pow_pos, le_antisymm}
use Rattle.std.specs.Prelude.{Option, Some, None, unwrap_or}
use Rattle.std.specs.Int.{is_negative}
use Rattle.std.proofs.Math.Nat.{eq_of_mul-eq-mul_right}
use Rattle.fixed_bits.proofs.Public.{nearest_unique, nearest_exists}
use Rattle.fixed_write.specs.declared.style.Notation.{Notation}
use Rattle.fixed_write.specs.declared.style.Notation.TheVariants.{Dec, LowerExp, UpperExp, Bin, Oct, LowerHex, UpperHex}
use Rattle.fixed_write.specs.declared.style.Style.{Style}
use Rattle.fixed_write.specs.Texts.{whole_digits, point_text, zero_digit}
use Rattle.fixed_write.specs.Places.{IsExact}
use Rattle.fixed_write.specs.Styled.{IsShown, IsPointBody, IsBody, IsExponentBody, IsFigures, IsStyledText, base_of, is_upper, padded_text, sign_and_prefix, pointed, exponent_text}
use Rattle.fixed_write.proofs.Public.{shortest_unique, shortest_exists, exact_text_is}
use Rattle.fixed_laws.proofs.DecadeLemmas.{short_unique, short_exists, rounded_unique, rounded_exists}

-- ---- the number written with a point
exact_one : (base c g k n j m : ℕ) → IsExact base c g k n → IsExact base c g j m → (k ≡ j) × (n ≡ m)
exact_one base c g k n j m a b =
    let e : k ≡ j = le_antisymm (a.least m j b.same) (b.least n k a.same) in
    let b' : c * base ^ k ≡ m * 2 ^ g = rw e b.same in
    (e, eq_of_mul-eq-mul_right (2 ^ g) (pow_pos g) n m (sym a.same ∙ b'))

shown_one : (notation : Notation) (precision : Option ℕ) (c g k n j m : ℕ) → IsShown notation precision c g n k → IsShown notation precision c g m j → (k ≡ j) × (n ≡ m)
shown_one notation (Some p) c g k n j m a b = (a.0 ∙ sym b.0, nearest_unique (c * base_of notation ^ p) (2 ^ g) n m (pow_pos g) a.1 b.1)
shown_one Bin None c g k n j m a b = exact_one 2 c g k n j m a b
shown_one Oct None c g k n j m a b = exact_one 8 c g k n j m a b
shown_one LowerHex None c g k n j m a b = exact_one 16 c g k n j m a b
shown_one UpperHex None c g k n j m a b = exact_one 16 c g k n j m a b
shown_one Dec None c g k n j m a b = shortest_unique c g n k m j a b
shown_one LowerExp None c g k n j m a b = shortest_unique c g n k m j a b
shown_one UpperExp None c g k n j m a b = shortest_unique c g n k m j a b

point_one : (notation : Notation) (precision : Option ℕ) (c g : ℕ) (a b : List ℕ) → IsPointBody notation precision c g a → IsPointBody notation precision c g b → a ≡ b
point_one notation precision c g a b h i =
    let same = shown_one notation precision c g h.places h.number i.places i.number h.shown i.shown in
    h.body_is ∙ (rw (same.0, same.1) refl ∙ sym i.body_is)

exact_some : (base c g : ℕ) → base % 2 ≡ 0 → (n : ℕ) × (k : ℕ) × IsExact base c g k n
exact_some base c g even = let h = exact_text_is base false (pos c) g even in (h.number, h.places, h.exact)

shown_some : (notation : Notation) (precision : Option ℕ) (c g : ℕ) → (n : ℕ) × (k : ℕ) × IsShown notation precision c g n k
shown_some notation (Some p) c g = let (n, near) = nearest_exists (c * base_of notation ^ p) (2 ^ g) (pow_pos g) in (n, p, (refl, near))
shown_some Bin None c g = exact_some 2 c g refl
shown_some Oct None c g = exact_some 8 c g refl
shown_some LowerHex None c g = exact_some 16 c g refl
shown_some UpperHex None c g = exact_some 16 c g refl
shown_some Dec None c g = shortest_exists c g
shown_some LowerExp None c g = shortest_exists c g
shown_some UpperExp None c g = shortest_exists c g

point_some : (notation : Notation) (precision : Option ℕ) (c g : ℕ) → (body : List ℕ) × IsPointBody notation precision c g body
point_some notation precision c g =
    let (n, k, shown) = shown_some notation precision c g in
    (point_text (base_of notation) (is_upper notation) k n, record { number = n; places = k; shown = shown; body_is = refl })

-- ---- the figures and the exponent of a text
figures_one : (precision : Option ℕ) (c g m n : ℕ) (e f : ℤ) → IsFigures precision c g m e → IsFigures precision c g n f → (m ≡ n) × (e ≡ f)
figures_one None c g m n e f h i = short_unique c g m n e f h i
figures_one (Some p) c g m n e f h i = rounded_unique p c g m n e f h i

figures_some : (precision : Option ℕ) (c g : ℕ) → 0 < c → (m : ℕ) × (e : ℤ) × IsFigures precision c g m e
figures_some None c g some = short_exists c g some
figures_some (Some p) c g some = rounded_exists p c g some

exponent_one : (notation : Notation) (precision : Option ℕ) (c g : ℕ) (a b : List ℕ) → IsExponentBody notation precision c g a → IsExponentBody notation precision c g b → a ≡ b
exponent_one notation precision zero g a b h i = h ∙ sym i
exponent_one notation precision (suc c) g a b h i =
    let same = figures_one precision (suc c) g h.figures i.figures h.exponent i.exponent h.are_figures i.are_figures in
    h.body_is ∙ (rw (same.0, same.1) refl ∙ sym i.body_is)

exponent_some : (notation : Notation) (precision : Option ℕ) (c g : ℕ) → (body : List ℕ) × IsExponentBody notation precision c g body
exponent_some notation precision zero g = (pointed (replicate (suc (unwrap_or precision 0)) zero_digit) ++ exponent_text notation (pos 0), refl)
exponent_some notation precision (suc c) g =
    let (m, e, are) = figures_some precision (suc c) g (omega arith) in
    (pointed (whole_digits 10 false m) ++ exponent_text notation e, record { figures = m; exponent = e; are_figures = are; body_is = refl })

-- ---- the body in any notation
body_one : (notation : Notation) (precision : Option ℕ) (c g : ℕ) (a b : List ℕ) → IsBody notation precision c g a → IsBody notation precision c g b → a ≡ b
body_one Dec precision c g a b h i = point_one Dec precision c g a b h i
body_one LowerExp precision c g a b h i = exponent_one LowerExp precision c g a b h i
body_one UpperExp precision c g a b h i = exponent_one UpperExp precision c g a b h i
body_one Bin precision c g a b h i = point_one Bin precision c g a b h i
body_one Oct precision c g a b h i = point_one Oct precision c g a b h i
body_one LowerHex precision c g a b h i = point_one LowerHex precision c g a b h i
body_one UpperHex precision c g a b h i = point_one UpperHex precision c g a b h i

body_some : (notation : Notation) (precision : Option ℕ) (c g : ℕ) → (body : List ℕ) × IsBody notation precision c g body
body_some Dec precision c g = point_some Dec precision c g
body_some LowerExp precision c g = exponent_some LowerExp precision c g
body_some UpperExp precision c g = exponent_some UpperExp precision c g
body_some Bin precision c g = point_some Bin precision c g
body_some Oct precision c g = point_some Oct precision c g
body_some LowerHex precision c g = point_some LowerHex precision c g
body_some UpperHex precision c g = point_some UpperHex precision c g

-- ---- the text
pub styled_text_unique : (s : Style) (c : ℤ) (g : ℕ) (a b : List ℕ) → IsStyledText s c g a → IsStyledText s c g b → a ≡ b
styled_text_unique s c g a b h i =
    let same : h.body ≡ i.body = body_one s.notation s.precision (unsigned_abs c) g h.body i.body h.is_body i.is_body in
    h.text_is ∙ (ap (padded_text s (sign_and_prefix s (is_negative c))) same ∙ sym i.text_is)

pub styled_text_exists : (s : Style) (c : ℤ) (g : ℕ) → (text : List ℕ) × IsStyledText s c g text
styled_text_exists s c g =
    let (body, is) = body_some s.notation s.precision (unsigned_abs c) g in
    (padded_text s (sign_and_prefix s (is_negative c)) body, record { body = body; is_body = is; text_is = refl })
