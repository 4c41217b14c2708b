-- Bodies of numbers with a point.
use Rattle.std.proofs.Common.{◌≡◌, ℕ, zero, suc, ◌+◌, ◌-◌, ◌*◌, ◌/◌, ◌%◌, ◌^◌, ◌<◌, ◌≤◌, Bool, true, false, List, [], ◌∷◌, ◌++◌, replicate, ℤ, pos, unsigned_abs, refl, sym, ap, ◌∙◌, arith, pow_pos, append-nil, append_assoc, mod-lt, div-add-mod', mul-lt-mul_of_pos_right, ⊎_elim}
use Rattle.std.proofs.lemmas.Bool.{cases_lt}
use Rattle.std.specs.Prelude.{Option, Some, None, min}
use Rattle.std.specs.Fmt.{digit_glyph, sign_text}
use Rattle.std.specs.Int.{is_negative}
use Rattle.std.proofs.Math.Nat.{one-le-pow}
use Rattle.std.proofs.lemmas.Nat.{pow-add, mul-pow}
use Rattle.fixed_bits.specs.Nearest.{IsNearest}
use Rattle.fixed_bits.proofs.Public.{nearest_by_rest, nearest_unique}
use Rattle.fixed_write.specs.declared.style.Notation.{Notation}
use Rattle.fixed_write.specs.declared.style.Notation.TheVariants.{Dec, LowerExp, UpperExp, Bin, Oct, LowerHex, UpperHex}
use Rattle.fixed_bits.specs.declared.mode.ReadMode.TheVariants.{NearestEven}
use Rattle.fixed_write.specs.Places.{rounded_text}
use Rattle.fixed_write.specs.Shortest.{nearest_number}
use Rattle.fixed_write.specs.Texts.{IsShortestText, decimal_text, whole_digits, last_digits, fraction_part, point_text, point, zero_digit}
use Rattle.fixed_write.specs.Inner.Digits.{AppendsRounded, AppendsExact}
use Rattle.fixed_write.specs.Styled.{base_of, is_upper, IsBody, IsPointBody}
use Rattle.fixed_write.specs.Inner.Figures.{HasBody, HasExponentBody}
use Rattle.fixed_write.specs.Inner.Styling.{AppendsBody, IsPointNotation}
use Rattle.fixed_bits.proofs.Public.{not_negative}
use Rattle.fixed_write.proofs.ComputedLemmas.{nearest_number_is}
use Rattle.fixed_write.proofs.DigitLemmas.{last_digits_joined, last_digits_suc, last_digits_none, parts_are, fraction_some}

-- ---- the shortest text has no sign
decimal_ten : (c n k : ℕ) → decimal_text (is_negative (pos c)) n k ≡ point_text 10 false k n
unfolding decimal_text
decimal_ten c n k = rw (not_negative c) refl

pub shortest_body : (v : ℤ) (c g : ℕ) (text : List ℕ) → IsShortestText v g text → v ≡ pos c → AppendsBody Dec None c g [] text 0
shortest_body v c g text h e =
    let h' : IsShortestText (pos c) g text = rw e at h in
    record {
      body = text;
      is_body = record { number = h'.number; places = h'.places; shown = h'.shortest; body_is = h'.text_is ∙ decimal_ten c h'.number h'.places };
      text = append-nil text;
    }

pub body_appended : (notation : Notation) (precision : Option ℕ) (c g : ℕ) (before text after : List ℕ) → AppendsBody notation precision c g [] text 0 → after ≡ before ++ text → AppendsBody notation precision c g before after 0
body_appended notation precision c g before text after h e = record {
  body = h.body;
  is_body = h.is_body;
  text = append-nil after ∙ (e ∙ ap (λ (t : List ℕ). before ++ t) (sym (append-nil text) ∙ h.text));
}

-- ---- exact bodies
pub exact_two : (c g : ℕ) (before after : List ℕ) → AppendsExact 2 false c g before after → AppendsBody Bin None c g before after 0
exact_two c g before after h = record {
  body = point_text 2 false h.places h.number;
  is_body = record { number = h.number; places = h.places; shown = h.exact; body_is = refl };
  text = append-nil after ∙ h.text_is;
}

pub exact_eight : (c g : ℕ) (before after : List ℕ) → AppendsExact 8 false c g before after → AppendsBody Oct None c g before after 0
exact_eight c g before after h = record {
  body = point_text 8 false h.places h.number;
  is_body = record { number = h.number; places = h.places; shown = h.exact; body_is = refl };
  text = append-nil after ∙ h.text_is;
}

pub exact_lower : (c g : ℕ) (before after : List ℕ) → AppendsExact 16 false c g before after → AppendsBody LowerHex None c g before after 0
exact_lower c g before after h = record {
  body = point_text 16 false h.places h.number;
  is_body = record { number = h.number; places = h.places; shown = h.exact; body_is = refl };
  text = append-nil after ∙ h.text_is;
}

pub exact_upper : (c g : ℕ) (before after : List ℕ) → AppendsExact 16 true c g before after → AppendsBody UpperHex None c g before after 0
exact_upper c g before after h = record {
  body = point_text 16 true h.places h.number;
  is_body = record { number = h.number; places = h.places; shown = h.exact; body_is = refl };
  text = append-nil after ∙ h.text_is;
}

-- ---- places past 64 are zeros
pub base_even : (notation : Notation) → (h : ℕ) × (base_of notation ≡ 2 * h)
base_even Dec = (5, refl)
base_even LowerExp = (5, refl)
base_even UpperExp = (5, refl)
base_even Bin = (1, refl)
base_even Oct = (4, refl)
base_even LowerHex = (8, refl)
base_even UpperHex = (8, refl)

base_some : (notation : Notation) → 0 < base_of notation
base_some Dec = omega arith
base_some LowerExp = omega arith
base_some UpperExp = omega arith
base_some Bin = omega arith
base_some Oct = omega arith
base_some LowerHex = omega arith
base_some UpperHex = omega arith

-- 64 places of an even base hold every value
pub all_exact : (b h c g n : ℕ) → b ≡ 2 * h → g ≤ 64 → IsNearest (c * b ^ 64) (2 ^ g) n → c * b ^ 64 ≡ n * 2 ^ g
all_exact b h c g n e l near =
    let power : b ^ 64 ≡ 2 ^ 64 * h ^ 64 = ap (λ x. x ^ 64) e ∙ mul-pow 2 h 64 in
    let whole : 2 ^ 64 ≡ 2 ^ (64 - g) * 2 ^ g = (let s : 64 ≡ (64 - g) + g = omega arith in ap (λ x. 2 ^ x) s ∙ pow-add 2 (64 - g) g) in
    let steps : c * b ^ 64 ≡ c * (2 ^ (64 - g) * h ^ 64) * 2 ^ g = ap (λ x. c * x) (power ∙ ap (λ x. x * h ^ 64) whole) ∙ regroup c (2 ^ (64 - g)) (2 ^ g) (h ^ 64) in
    let exact : IsNearest (c * b ^ 64) (2 ^ g) (c * (2 ^ (64 - g) * h ^ 64)) = nearest_by_rest (c * b ^ 64) (2 ^ g) (c * (2 ^ (64 - g) * h ^ 64)) 0 (omega (arith, steps)) (omega arith) (λ t. absurd (omega (arith, one-le-pow g 2 (omega arith)))) in
    let same : c * (2 ^ (64 - g) * h ^ 64) ≡ n = nearest_unique (c * b ^ 64) (2 ^ g) (c * (2 ^ (64 - g) * h ^ 64)) n (pow_pos g) exact near in
    steps ∙ ap (λ x. x * 2 ^ g) same
  where
    regroup : (c x u y : ℕ) → c * (x * u * y) ≡ c * (x * y) * u
    regroup c x u y = omega arith

zeros_push : (z x : ℕ) → replicate z x ++ x ∷ [] ≡ replicate (suc z) x
zeros_push zero x = refl
zeros_push (suc z) x = ap (λ (t : List ℕ). x ∷ t) (zeros_push z x)

glyph_none : (u : Bool) → digit_glyph u 0 ≡ zero_digit
glyph_none true = refl
glyph_none false = refl

pub zeros_last : (b : ℕ) (u : Bool) (z : ℕ) → 0 < b → last_digits b u z 0 ≡ replicate z zero_digit
zeros_last b u zero p = last_digits_none b u 0
zeros_last b u (suc z) p =
    let parts = parts_are 0 b 0 0 p (omega arith) in
    last_digits_suc b u z 0 ∙ rw (parts.0, parts.1, zeros_last b u z p, glyph_none u) (zeros_push z zero_digit)

-- a common factor cancels in a quotient
scaled_whole : (n t s : ℕ) → 0 < t → 0 < s → n * s / (t * s) ≡ n / t
scaled_whole n t s p q =
    let low : n % t < t = mod-lt n p in
    let less : n % t * s < t * s = mul-lt-mul_of_pos_right low q in
    let parts : n ≡ n / t * t + n % t = sym (div-add-mod' n t) in
    let all : n * s ≡ n / t * (t * s) + n % t * s = ap (λ x. x * s) parts ∙ product (n / t) t (n % t) s in
    (parts_are (n * s) (t * s) (n / t) (n % t * s) less all).0
  where
    product : (q t r s : ℕ) → (q * t + r) * s ≡ q * (t * s) + r * s
    product q t r s = omega arith

more_places : (b : ℕ) (u : Bool) (n k z : ℕ) → 0 < b → 0 < k → point_text b u (k + z) (n * b ^ z) ≡ point_text b u k n ++ replicate z zero_digit
unfolding point_text
more_places b u n k z p some =
    let t : 0 < b ^ k = one-le-pow k b p in
    let s : 0 < b ^ z = one-le-pow z b p in
    let whole : n * b ^ z / b ^ (k + z) ≡ n / b ^ k = rw pow-add (scaled_whole n (b ^ k) (b ^ z) t s) in
    let number : n * b ^ z ≡ n * b ^ z + 0 = omega arith in
    let last : last_digits b u (k + z) (n * b ^ z) ≡ last_digits b u k n ++ replicate z zero_digit = ap (last_digits b u (k + z)) number ∙ (last_digits_joined b u k z n 0 p s ∙ ap (λ (x : List ℕ). last_digits b u k n ++ x) (zeros_last b u z p)) in
    let fraction : fraction_part b u (k + z) (n * b ^ z) ≡ fraction_part b u k n ++ replicate z zero_digit = fraction_some b u (k + z) (n * b ^ z) (omega arith) ∙ (ap (λ (x : List ℕ). point ∷ x) last ∙ ap (λ (x : List ℕ). x ++ replicate z zero_digit) (sym (fraction_some b u k n some))) in
    rw (whole, fraction) (sym (append_assoc (whole_digits b u (n / b ^ k)) (fraction_part b u k n) (replicate z zero_digit)))

moved_places : (c x y n u : ℕ) → c * x ≡ n * u → c * (x * y) ≡ n * y * u
moved_places c x y n u e = let f : c * x * y ≡ n * u * y = ap (λ t. t * y) e in omega arith

-- a value with more than 64 places ends in zeros
pub rounded_zeros : (z : ℕ) (c : ℤ) (g : ℕ) → g ≤ 64 → rounded_text NearestEven 10 false (64 + z) c g ≡ rounded_text NearestEven 10 false 64 c g ++ replicate z zero_digit
unfolding rounded_text
rounded_zeros z c g l =
    let m : ℕ = unsigned_abs c in
    let n : ℕ = nearest_number (m * 10 ^ 64) (2 ^ g) in
    let exact : m * 10 ^ 64 ≡ n * 2 ^ g = all_exact 10 5 m g n refl l (nearest_number_is (m * 10 ^ 64) (2 ^ g) (pow_pos g)) in
    let steps : m * 10 ^ (64 + z) ≡ n * 10 ^ z * 2 ^ g = ap (λ x. m * x) (pow-add 10 64 z) ∙ moved_places m (10 ^ 64) (10 ^ z) n (2 ^ g) exact in
    let near : IsNearest (m * 10 ^ (64 + z)) (2 ^ g) (n * 10 ^ z) = nearest_by_rest (m * 10 ^ (64 + z)) (2 ^ g) (n * 10 ^ z) 0 (omega (arith, steps)) (omega arith) (λ t. absurd (omega (arith, one-le-pow g 2 (omega arith)))) in
    let same : nearest_number (m * 10 ^ (64 + z)) (2 ^ g) ≡ n * 10 ^ z = nearest_unique (m * 10 ^ (64 + z)) (2 ^ g) (nearest_number (m * 10 ^ (64 + z)) (2 ^ g)) (n * 10 ^ z) (pow_pos g) (nearest_number_is (m * 10 ^ (64 + z)) (2 ^ g) (pow_pos g)) near in
    rw (same, more_places 10 false n 64 z (omega arith) (omega arith)) (sym (append_assoc (sign_text (is_negative c)) (point_text 10 false 64 n) (replicate z zero_digit)))

short_body : (notation : Notation) (p c g k z : ℕ) (before after : List ℕ) → k ≡ p → z ≡ 0 → AppendsRounded NearestEven (base_of notation) (is_upper notation) c g k before after → AppendsBody notation (Some p) c g before after z
short_body notation p c g k z before after e f h = record {
  body = point_text (base_of notation) (is_upper notation) k h.number;
  is_body = record { number = h.number; places = k; shown = (e, rw e at h.rounded); body_is = refl };
  text = rw f (append-nil after ∙ h.text_is);
}

long_body : (notation : Notation) (p c g z : ℕ) (before after : List ℕ) → g ≤ 64 → p ≡ 64 + z → AppendsRounded NearestEven (base_of notation) (is_upper notation) c g 64 before after → AppendsBody notation (Some p) c g before after z
long_body notation p c g z before after l e h =
    let even = base_even notation in
    let some : 0 < base_of notation = base_some notation in
    let exact : c * base_of notation ^ 64 ≡ h.number * 2 ^ g = all_exact (base_of notation) even.0 c g h.number even.1 l h.rounded in
    let power : base_of notation ^ p ≡ base_of notation ^ 64 * base_of notation ^ z = ap (λ x. base_of notation ^ x) e ∙ pow-add (base_of notation) 64 z in
    let steps : c * base_of notation ^ p ≡ h.number * base_of notation ^ z * 2 ^ g = ap (λ x. c * x) power ∙ moved_places c (base_of notation ^ 64) (base_of notation ^ z) h.number (2 ^ g) exact in
    record {
      body = point_text (base_of notation) (is_upper notation) p (h.number * base_of notation ^ z);
      is_body = record { number = h.number * base_of notation ^ z; places = p; shown = (refl, nearest_by_rest (c * base_of notation ^ p) (2 ^ g) (h.number * base_of notation ^ z) 0 (omega (arith, steps)) (omega arith) (λ t. absurd (omega (arith, one-le-pow g 2 (omega arith))))); body_is = refl };
      text = rw (h.text_is, e, more_places (base_of notation) (is_upper notation) h.number 64 z some (omega arith)) (append_assoc before (point_text (base_of notation) (is_upper notation) 64 h.number) (replicate z zero_digit));
    }

pub rounded_body : (notation : Notation) (p c g k z : ℕ) (before after : List ℕ) → g ≤ 64 → k ≡ min p 64 → z ≡ p - k → AppendsRounded NearestEven (base_of notation) (is_upper notation) c g k before after → AppendsBody notation (Some p) c g before after z
rounded_body notation p c g k z before after l e f h = ⊎_elim
    (λ (a : p < 65). short_body notation p c g k z before after (omega arith) (omega arith) h)
    (λ (a : 65 ≤ p).
    let all : k ≡ 64 = omega arith in
    let h' : AppendsRounded NearestEven (base_of notation) (is_upper notation) c g 64 before after = rw all at h in
    long_body notation p c g z before after l (omega arith) h')
    (cases_lt p 65)

-- ---- the body of any notation
pub point_notation : (n : Notation) → (n ≡ LowerExp → ⊥) → (n ≡ UpperExp → ⊥) → IsPointNotation n
point_notation Dec l u = tt
point_notation LowerExp l u = l refl
point_notation UpperExp l u = u refl
point_notation Bin l u = tt
point_notation Oct l u = tt
point_notation LowerHex l u = tt
point_notation UpperHex l u = tt

body_of_point : (n : Notation) (precision : Option ℕ) (c g : ℕ) (body : List ℕ) → IsPointNotation n → IsPointBody n precision c g body → IsBody n precision c g body
body_of_point Dec precision c g body p h = h
body_of_point LowerExp precision c g body p h = absurd p
body_of_point UpperExp precision c g body p h = absurd p
body_of_point Bin precision c g body p h = h
body_of_point Oct precision c g body p h = h
body_of_point LowerHex precision c g body p h = h
body_of_point UpperHex precision c g body p h = h

pub point_body : (n : Notation) (precision : Option ℕ) (c g zeros : ℕ) (before after tail : List ℕ) → IsPointNotation n → before ≡ [] → tail ≡ [] → AppendsBody n precision c g before after zeros → HasBody n precision c g after zeros tail
point_body n precision c g more before after tail p eb et h = record {
  body = h.body;
  is_body = body_of_point n precision c g h.body p h.is_body;
  text = rw (et, append-nil (replicate more zero_digit)) (h.text ∙ ap (λ (t : List ℕ). t ++ h.body) eb);
}

pub lower_body : (precision : Option ℕ) (c g zeros : ℕ) (digits tail : List ℕ) → HasExponentBody LowerExp precision c g digits zeros tail → HasBody LowerExp precision c g digits zeros tail
lower_body precision c g more digits tail h = record { body = h.body; is_body = h.is_body; text = h.text }

pub upper_body : (precision : Option ℕ) (c g zeros : ℕ) (digits tail : List ℕ) → HasExponentBody UpperExp precision c g digits zeros tail → HasBody UpperExp precision c g digits zeros tail
upper_body precision c g more digits tail h = record { body = h.body; is_body = h.is_body; text = h.text }
