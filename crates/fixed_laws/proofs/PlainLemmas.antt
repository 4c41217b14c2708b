-- Plain texts in any notation.
use Rattle.std.proofs.Common.{◌≡◌, ℕ, zero, suc, ◌+◌, ◌-◌, ◌*◌, ◌%◌, ◌^◌, ◌⊎◌, ◌<◌, ◌≤◌, Bool, true, false, None, List, [], ◌∷◌, ◌++◌, length, replicate, ℤ, pos, ◌-ℤ◌, unsigned_abs, refl, ap, ◌∙◌, inl, inr, ⊎_elim, arith, append-nil, length-append, pow_pos, mul-le-mul_left, mul-le-mul_right}
use Rattle.std.specs.Fmt.{sign_text}
use Rattle.std.specs.Int.{is_negative}
use Rattle.std.proofs.lemmas.Int.{ints}
use Rattle.std.proofs.lemmas.Bool.{cases_lt}
use Rattle.std.proofs.lemmas.List.{length-replicate}
use Rattle.std.proofs.Math.Nat.{pow-le-pow_right}
use Rattle.fixed_bits.specs.Nearest.{IsNearest}
use Rattle.fixed_bits.specs.Ranges.{IsWide}
use Rattle.fixed_bits.specs.declared.mode.ReadMode.TheVariants.{NearestEven}
use Rattle.fixed_numeral.specs.Numeral.{Parts, HasNumeral}
use Rattle.fixed_read.specs.Reading.{IsReadNumber}
use Rattle.fixed_write.specs.declared.style.Notation.{Notation}
use Rattle.fixed_write.specs.declared.style.Notation.TheVariants.{Dec, LowerExp, UpperExp, Bin, Oct, LowerHex, UpperHex}
use Rattle.fixed_write.specs.Shortest.{IsShortest, ReadsBack}
use Rattle.fixed_write.specs.Texts.{decimal_text, whole_digits, point_text, zero_digit}
use Rattle.fixed_write.specs.Styled.{IsStyledText, IsPointBody, IsExponentBody, HasFigures, IsShortFigures, padded_text, sign_and_prefix, mark_of, plain_style}
use Rattle.fixed_write.proofs.Public.{whole_digits_short, whole_digits_digit, whole_zeros, wide_magnitude, shortest_is_nearest, shortest_at_most}
use Rattle.fixed_laws.specs.Radices.{decimal_radix, binary, octal, hexadecimal}
use Rattle.fixed_laws.specs.Plain.{radix_of}
use Rattle.fixed_laws.proofs.TextLemmas.{exact_reads_back, default_reads_back}
use Rattle.fixed_laws.proofs.ExponentLemmas.{IsShortExponent, exponent_reads}

-- ---- a plain text is a sign and a body
prefix_is : (n : Notation) (negative : Bool) → sign_and_prefix (plain_style n) negative ≡ sign_text negative
prefix_is n true = refl
prefix_is n false = refl

plain_text : (n : Notation) (prefix body : List ℕ) → padded_text (plain_style n) prefix body ≡ prefix ++ body
unfolding padded_text
plain_text n prefix body =
    let none : 0 - (length prefix + length body) ≡ 0 = omega arith in
    rw none (append-nil (prefix ++ body))

plain_is : (n : Notation) (negative : Bool) (body text : List ℕ) → text ≡ padded_text (plain_style n) (sign_and_prefix (plain_style n) negative) body → text ≡ sign_text negative ++ body
plain_is n negative body text e = e ∙ (plain_text n (sign_and_prefix (plain_style n) negative) body ∙ ap (λ (t : List ℕ). t ++ body) (prefix_is n negative))

decimal_is_text : (negative : Bool) (n k : ℕ) → sign_text negative ++ point_text 10 false k n ≡ decimal_text negative n k
unfolding decimal_text
decimal_is_text negative n k = refl

-- ---- the length of an exponent
nearest_small : (num den q : ℕ) → 0 < den → IsNearest num den q → q ≤ num + 1
nearest_small num den q some h = ⊎_elim (λ (a : num + 1 < q).
    let far : (num + 2) * den ≤ q * den = mul-le-mul_right den (omega arith) in
    let more : num * 1 ≤ num * den = mul-le-mul_left num some in
    absurd (omega (arith, h.near))) (λ a. a) (cases_lt (num + 1) q)

number_short : (c g n k : ℕ) → c < 2 ^ 64 → g ≤ 64 → IsShortest c g n k → length (whole_digits 10 false n) ≤ 40
number_short c g n k small l h =
    let few : k ≤ 20 = (shortest_at_most c g n k h).1 l in
    let most : n ≤ c * 10 ^ k + 1 = nearest_small (c * 10 ^ k) (2 ^ g) n (pow_pos g) (shortest_is_nearest c g n k h) in
    let power : 10 ^ k ≤ 10 ^ 20 = pow-le-pow_right (omega arith) few in
    let product : c * 10 ^ k ≤ c * 10 ^ 20 = mul-le-mul_left c power in
    whole_digits_short 10 false 40 n (omega arith) (omega arith) (omega arith)

short_exponent : (c g n k : ℕ) (e : ℤ) → c < 2 ^ 64 → g ≤ 64 → IsShortest c g n k → e ≡ pos (length (whole_digits 10 false n)) -ℤ pos (k + 1) → IsShortExponent e
short_exponent c g n k e small l h ee =
    let long = number_short c g n k small l h in
    let few : k ≤ 20 = (shortest_at_most c g n k h).1 l in
    record { low = omega (arith, ints, long, few, ee); high = omega (arith, ints, long, few, ee) }

-- ---- each notation
exponent_plain : (n : Notation) (c : ℤ) (g : ℕ) (body text : List ℕ) → (mark_of n ≡ 101) ⊎ (mark_of n ≡ 69) → unsigned_abs c < 2 ^ 64 → g ≤ 64 → IsExponentBody n None (unsigned_abs c) g body → text ≡ sign_text (is_negative c) ++ body → (p : Parts) × HasNumeral decimal_radix text p × IsReadNumber NearestEven decimal_radix p g c
exponent_plain n c g body text ok small l h et = by_magnitude (unsigned_abs c) refl h
  where
    none_reads : (g : ℕ) → ReadsBack (0 * 10 ^ 0) 0 0 g
    none_reads g = record { near = omega arith; tie = λ t. refl }

    zero_is : whole_digits 10 false 0 ≡ zero_digit ∷ []
    zero_is = whole_digits_digit 10 false 0 (omega arith) (omega arith)

    nonzero : (m : ℕ) → (m % 10 ≡ 0 → ⊥) → 0 < m
    nonzero zero h = absurd (h refl)
    nonzero (suc m) h = omega arith

    some : (m : ℕ) → m < 2 ^ 64 → m ≡ unsigned_abs c → HasFigures n None m g body → (p : Parts) × HasNumeral decimal_radix text p × IsReadNumber NearestEven decimal_radix p g c
    some m lm em f =
        let figures : IsShortFigures m g f.figures f.exponent = f.are_figures in
        let reads : ReadsBack (f.figures * 10 ^ figures.zeros) figures.places (unsigned_abs c) g = rw (← figures.figures, ← em) figures.shortest.reads_back in
        let positive : 0 < f.figures = nonzero f.figures figures.last in
        let long : length (whole_digits 10 false figures.number) ≡ length (whole_digits 10 false f.figures) + figures.zeros = rw figures.figures (ap length (whole_zeros f.figures figures.zeros positive) ∙ (length-append (whole_digits 10 false f.figures) (replicate figures.zeros zero_digit) ∙ ap (λ x. length (whole_digits 10 false f.figures) + x) (length-replicate {A = ℕ} figures.zeros zero_digit))) in
        exponent_reads (mark_of n) c g f.figures figures.zeros figures.places f.exponent text ok (short_exponent m g figures.number figures.places f.exponent lm l figures.shortest figures.exponent) reads (figures.exponent ∙ ap (λ x. pos x -ℤ pos (figures.places + 1)) long) (et ∙ ap (λ (t : List ℕ). sign_text (is_negative c) ++ t) f.body_is)

    by_magnitude : (m : ℕ) → m ≡ unsigned_abs c → IsExponentBody n None m g body → (p : Parts) × HasNumeral decimal_radix text p × IsReadNumber NearestEven decimal_radix p g c
    by_magnitude zero em h =
        let reads : ReadsBack (0 * 10 ^ 0) 0 (unsigned_abs c) g = rw (← em) (none_reads g) in
        exponent_reads (mark_of n) c g 0 0 0 (pos 0) text ok (record { low = omega (arith, ints); high = omega (arith, ints) }) reads (rw zero_is refl) (et ∙ rw (h, zero_is) refl)
    by_magnitude (suc m) em h = some (suc m) (rw em small) em h

pub plain_reads_back : (n : Notation) (c : ℤ) (g : ℕ) (text : List ℕ) → IsWide c → g ≤ 64 → IsStyledText (plain_style n) c g text → (p : Parts) × HasNumeral (radix_of n) text p × IsReadNumber NearestEven (radix_of n) p g c
plain_reads_back Dec c g text w l h =
    let b : IsPointBody Dec None (unsigned_abs c) g h.body = h.is_body in
    default_reads_back c g text (record { number = b.number; places = b.places; shortest = b.shown; text_is = plain_is Dec (is_negative c) h.body text h.text_is ∙ (ap (λ (t : List ℕ). sign_text (is_negative c) ++ t) b.body_is ∙ decimal_is_text (is_negative c) b.number b.places) })
plain_reads_back LowerExp c g text w l h = exponent_plain LowerExp c g h.body text (inl refl) (wide_magnitude c w) l h.is_body (plain_is LowerExp (is_negative c) h.body text h.text_is)
plain_reads_back UpperExp c g text w l h = exponent_plain UpperExp c g h.body text (inr refl) (wide_magnitude c w) l h.is_body (plain_is UpperExp (is_negative c) h.body text h.text_is)
plain_reads_back Bin c g text w l h =
    let b : IsPointBody Bin None (unsigned_abs c) g h.body = h.is_body in
    exact_reads_back binary false c g text (record { number = b.number; places = b.places; exact = b.shown; text_is = plain_is Bin (is_negative c) h.body text h.text_is ∙ ap (λ (t : List ℕ). sign_text (is_negative c) ++ t) b.body_is })
plain_reads_back Oct c g text w l h =
    let b : IsPointBody Oct None (unsigned_abs c) g h.body = h.is_body in
    exact_reads_back octal false c g text (record { number = b.number; places = b.places; exact = b.shown; text_is = plain_is Oct (is_negative c) h.body text h.text_is ∙ ap (λ (t : List ℕ). sign_text (is_negative c) ++ t) b.body_is })
plain_reads_back LowerHex c g text w l h =
    let b : IsPointBody LowerHex None (unsigned_abs c) g h.body = h.is_body in
    exact_reads_back hexadecimal false c g text (record { number = b.number; places = b.places; exact = b.shown; text_is = plain_is LowerHex (is_negative c) h.body text h.text_is ∙ ap (λ (t : List ℕ). sign_text (is_negative c) ++ t) b.body_is })
plain_reads_back UpperHex c g text w l h =
    let b : IsPointBody UpperHex None (unsigned_abs c) g h.body = h.is_body in
    exact_reads_back hexadecimal true c g text (record { number = b.number; places = b.places; exact = b.shown; text_is = plain_is UpperHex (is_negative c) h.body text h.text_is ∙ ap (λ (t : List ℕ). sign_text (is_negative c) ++ t) b.body_is })
