-- The text of a number with an exponent is a numeral, and it reads back.
use Rattle.std.proofs.Common.{◌≡◌, ℕ, suc, ◌+◌, ◌-◌, ◌*◌, ◌^◌, ◌<◌, ◌≤◌, ◌⊎◌, Bool, true, false, Option, Some, None, List, [], ◌∷◌, ◌++◌, length, ℤ, pos, negsuc, ◌-ℤ◌, ◌≤ℤ◌, neg_ℤ, unsigned_abs, IsTrue, refl, ap, ◌∙◌, inl, inr, ⊎_elim, arith}
use Rattle.std.specs.Str.Parse.{AllDigits}
use Rattle.std.specs.Fmt.{sign_text, signed_decimal}
use Rattle.std.specs.Int.{is_negative}
use Rattle.std.proofs.lemmas.Int.{ints}
use Rattle.std.proofs.lemmas.Nat.{pow-add}
use Rattle.std.proofs.lemmas.Bool.{cases_lt}
use Rattle.std.proofs.Math.Nat.{one-le-pow}
use Rattle.fixed_bits.specs.Nearest.{IsNearest}
use Rattle.fixed_bits.specs.declared.mode.ReadMode.TheVariants.{NearestEven}
use Rattle.fixed_bits.proofs.Public.{nearest_scaled}
use Rattle.std.specs.Prelude.{IfSome}
use Rattle.fixed_numeral.specs.Numeral.{Parts, Exponent, HasNumeral, IsExponentOf, text_of, minus, fraction_text, exponent_text, fractional_digits, exponent_number, is_separator}
use Rattle.fixed_numeral.specs.Value.{scaled}
use Rattle.fixed_read.specs.Reading.{IsReadNumber}
use Rattle.fixed_write.specs.Shortest.{ReadsBack}
use Rattle.fixed_write.specs.Texts.{whole_digits}
use Rattle.fixed_write.specs.Styled.{pointed}
use Rattle.fixed_write.proofs.Public.{decimal_is}
use Rattle.fixed_laws.specs.Radices.{decimal_radix}
use Rattle.fixed_laws.proofs.TextLemmas.{IsWholeText, whole_text_is, sign_of, sign_is, with_sign}

-- ---- the exponent
abbrev exponent_sign : ℤ → Option ℕ
exponent_sign (pos n) = None
exponent_sign (negsuc n) = Some minus

abbrev exponent_digits : ℤ → List ℕ
exponent_digits (pos n) = whole_digits 10 false n
exponent_digits (negsuc n) = whole_digits 10 false (suc n)

abbrev exponent_of : ℕ → ℤ → Exponent
exponent_of mark e = record { separator = mark; sign = exponent_sign e; digits = exponent_digits e }

-- an exponent of at most 1000 in size
pub record IsShortExponent (e : ℤ) : Type 0 where
  pub low : neg_ℤ (pos 1000) ≤ℤ e
  pub high : e ≤ℤ pos 1000

exponent_is : (mark : ℕ) (e : ℤ) → (mark ≡ 101) ⊎ (mark ≡ 69) → IsShortExponent e → IsExponentOf decimal_radix (exponent_of mark e)
exponent_is mark (pos n) m h =
    let whole = whole_text_is 10 false n (omega arith) (omega arith) in
    record { separator = separator_is mark m; sign = tt; digits = whole.digits; in_range = rw whole.value (omega (arith, ints, h.high)) }
  where
    separator_is : (mark : ℕ) → (mark ≡ 101) ⊎ (mark ≡ 69) → IsTrue (is_separator decimal_radix mark)
    separator_is mark (inl e) = rw e refl
    separator_is mark (inr e) = rw e refl
exponent_is mark (negsuc n) m h =
    let whole = whole_text_is 10 false (suc n) (omega arith) (omega arith) in
    record { separator = separator_is mark m; sign = refl; digits = whole.digits; in_range = rw whole.value (omega (arith, ints, h.low)) }
  where
    separator_is : (mark : ℕ) → (mark ≡ 101) ⊎ (mark ≡ 69) → IsTrue (is_separator decimal_radix mark)
    separator_is mark (inl e) = rw e refl
    separator_is mark (inr e) = rw e refl

exponent_value : (mark : ℕ) (e : ℤ) → exponent_number (exponent_of mark e) ≡ e
exponent_value mark (pos n) = ap pos (whole_text_is 10 false n (omega arith) (omega arith)).value
exponent_value mark (negsuc n) = ap (λ x. neg_ℤ (pos x)) (whole_text_is 10 false (suc n) (omega arith) (omega arith)).value

exponent_some : (e : ℤ) → 0 < length (exponent_digits e)
exponent_some (pos n) = (whole_text_is 10 false n (omega arith) (omega arith)).some
exponent_some (negsuc n) = (whole_text_is 10 false (suc n) (omega arith) (omega arith)).some

exponent_text_is : (mark : ℕ) (e : ℤ) → IsShortExponent e → mark ∷ signed_decimal e ≡ exponent_text (Some (exponent_of mark e))
exponent_text_is mark (pos n) h = ap (λ (t : List ℕ). mark ∷ t) (decimal_is n (omega (arith, ints, h.high)))
exponent_text_is mark (negsuc n) h = ap (λ (t : List ℕ). mark ∷ 45 ∷ t) (decimal_is (suc n) (omega (arith, ints, h.low)))

-- ---- the figures
abbrev fraction_figures : List ℕ → Option (List ℕ)
fraction_figures [] = None
fraction_figures (d ∷ ds) = Some (d ∷ ds)

abbrev figure_parts : ℕ → Bool → ℕ → List ℕ → ℤ → Parts
figure_parts mark negative d ds e = record { sign = sign_of negative; whole = d ∷ []; fraction = fraction_figures ds; exponent = Some (exponent_of mark e) }

fraction_is : (ds : List ℕ) → fractional_digits (fraction_figures ds) ≡ ds
fraction_is [] = refl
fraction_is (d ∷ ds) = refl

pointed_is : (d : ℕ) (ds : List ℕ) → pointed (d ∷ ds) ≡ d ∷ fraction_text (fraction_figures ds)
pointed_is d [] = refl
pointed_is d (x ∷ ds) = refl

fraction_digits : (ds : List ℕ) → AllDigits 10 ds → IfSome (fraction_figures ds) (AllDigits 10)
fraction_digits [] h = tt
fraction_digits (d ∷ ds) h = h

text_is : (mark : ℕ) (negative : Bool) (d : ℕ) (ds : List ℕ) (e : ℤ) → IsShortExponent e → sign_text negative ++ (pointed (d ∷ ds) ++ mark ∷ signed_decimal e) ≡ text_of (figure_parts mark negative d ds e)
text_is mark true d ds e h = rw (pointed_is d ds, exponent_text_is mark e h) refl
text_is mark false d ds e h = rw (pointed_is d ds, exponent_text_is mark e h) refl

figures_numeral : (mark : ℕ) (negative : Bool) (d : ℕ) (ds : List ℕ) (e : ℤ) → (mark ≡ 101) ⊎ (mark ≡ 69) → IsShortExponent e → AllDigits 10 (d ∷ ds) → HasNumeral decimal_radix (sign_text negative ++ (pointed (d ∷ ds) ++ mark ∷ signed_decimal e)) (figure_parts mark negative d ds e)
figures_numeral mark negative d ds e m h all = record {
  beginning = record {
    parts = record { sign = sign_is negative; whole = (all.0, tt); fraction = fraction_digits ds all.1; exponent = exponent_is mark e m h };
    text = text_is mark negative d ds e h;
  };
  mantissa = omega arith;
  exponent = exponent_some e;
}

-- ---- the value
nearest_of : (a b d e c : ℕ) → a ≡ b → d ≡ e → IsNearest a d c → IsNearest b e c
nearest_of a b d e c p q h = rw (← p, ← q) h

read_power : (m z k c g : ℕ) → ReadsBack (m * 10 ^ z) k c g → IsNearest ((scaled m 1 10 (pos z -ℤ pos k)).num * 2 ^ g) (scaled m 1 10 (pos z -ℤ pos k)).den c
read_power m z k c g h = ⊎_elim below above (cases_lt z k)
  where
    below : z < k → IsNearest ((scaled m 1 10 (pos z -ℤ pos k)).num * 2 ^ g) (scaled m 1 10 (pos z -ℤ pos k)).den c
    below l =
        let x : ℕ = k - z - 1 in
        let e : pos z -ℤ pos k ≡ negsuc (k - z - 1) = omega (arith, ints) in
        let all : k ≡ z + suc (k - z - 1) = omega arith in
        let power : 10 ^ k ≡ 10 ^ z * 10 ^ suc (k - z - 1) = ap (λ i. 10 ^ i) all ∙ pow-add 10 z (suc (k - z - 1)) in
        let num : m * 10 ^ z * 2 ^ g ≡ 10 ^ z * (m * 2 ^ g) = omega arith in
        let h' : IsNearest (10 ^ z * (m * 2 ^ g)) (10 ^ z * 10 ^ suc (k - z - 1)) c = rw (num, power) at h in
        let one : 1 * 10 ^ suc (k - z - 1) ≡ 10 ^ suc (k - z - 1) = omega arith in
        rw (e, one) ((nearest_scaled (10 ^ z) (m * 2 ^ g) (10 ^ suc (k - z - 1)) c (one-le-pow z 10 (omega arith))).0 h')

    turned : (m a b u : ℕ) → m * (a * b) * u ≡ a * (m * b * u)
    turned m a b u = omega arith

    above : k ≤ z → IsNearest ((scaled m 1 10 (pos z -ℤ pos k)).num * 2 ^ g) (scaled m 1 10 (pos z -ℤ pos k)).den c
    above l =
        let e : pos z -ℤ pos k ≡ pos (z - k) = omega (arith, ints) in
        let all : z ≡ k + (z - k) = omega arith in
        let power : 10 ^ z ≡ 10 ^ k * 10 ^ (z - k) = ap (λ i. 10 ^ i) all ∙ pow-add 10 k (z - k) in
        let num : m * 10 ^ z * 2 ^ g ≡ 10 ^ k * (m * 10 ^ (z - k) * 2 ^ g) = rw power (turned m (10 ^ k) (10 ^ (z - k)) (2 ^ g)) in
        let den : 10 ^ k ≡ 10 ^ k * 1 = omega arith in
        let h' : IsNearest (10 ^ k * (m * 10 ^ (z - k) * 2 ^ g)) (10 ^ k * 1) c = nearest_of _ _ _ _ c num den h in
        rw e ((nearest_scaled (10 ^ k) (m * 10 ^ (z - k) * 2 ^ g) 1 c (one-le-pow k 10 (omega arith))).0 h')

-- the text with the figures of m * 10^z over 10^k, a mark and the exponent e is a numeral that reads back
pub exponent_reads : (mark : ℕ) (c : ℤ) (g m z k : ℕ) (e : ℤ) (text : List ℕ) → (mark ≡ 101) ⊎ (mark ≡ 69) → IsShortExponent e → ReadsBack (m * 10 ^ z) k (unsigned_abs c) g → e ≡ pos (length (whole_digits 10 false m) + z) -ℤ pos (k + 1) → text ≡ sign_text (is_negative c) ++ (pointed (whole_digits 10 false m) ++ mark ∷ signed_decimal e) → (p : Parts) × HasNumeral decimal_radix text p × IsReadNumber NearestEven decimal_radix p g c
exponent_reads mark c g m z k e text ok h reads ee et = by_figures (whole_digits 10 false m) (whole_text_is 10 false m (omega arith) (omega arith)) ee et
  where
    by_figures : (ds : List ℕ) → IsWholeText 10 m ds → e ≡ pos (length ds + z) -ℤ pos (k + 1) → text ≡ sign_text (is_negative c) ++ (pointed ds ++ mark ∷ signed_decimal e) → (p : Parts) × HasNumeral decimal_radix text p × IsReadNumber NearestEven decimal_radix p g c
    by_figures [] w ee et = absurd (omega (arith, w.some))
    by_figures (d ∷ ds) w ee et = (
      figure_parts mark (is_negative c) d ds e,
      rw et (figures_numeral mark (is_negative c) d ds e ok h w.digits),
      (let shift : e -ℤ pos (length ds) ≡ pos z -ℤ pos k = omega (arith, ints, ee) in
          record {
            ulps = unsigned_abs c;
            rounded = rw (fraction_is ds, exponent_value mark e, w.value, shift) (read_power m z k (unsigned_abs c) g reads);
            value = with_sign c;
          }),
    )
