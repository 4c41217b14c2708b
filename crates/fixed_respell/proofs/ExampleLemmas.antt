-- Worked examples, each decided by one computation: the bits that a numeral of known parts reaches, and the answer to
-- its line.
use Rattle.std.proofs.Common.{◌≡◌, ℕ, ◌+◌, ◌-◌, ◌*◌, ◌%◌, ◌^◌, Bool, true, false, cond, IsTrue, List, [], ◌∷◌, length, Option, Some, None, refl, arith, inl, inr, ℤ, pos}
use Rattle.std.specs.Prelude.{◌≤◌, ◌&&◌, ◌||◌, not, eqb, leb, ltb, int_lt, IfSome, ◌<ℤ◌, ◌<◌}
use Rattle.std.specs.Bool.{Decides}
use Rattle.std.specs.Char.{digit_value}
use Rattle.std.specs.Str.Parse.{AllDigits}
use Rattle.std.proofs.lemmas.Bool.{and_parts, eqb-true, leb-true, ltb-true, not-true, or_cases}
use Rattle.std.proofs.lemmas.Bool.Decides.{Decides-or}
use Rattle.std.proofs.lemmas.Int.{ints}
use Rattle.std.proofs.lemmas.Nat.{pow_pos}
use lib.Signed.{mag}
use Rattle.fixed_bits.proofs.Public.{down_is, inside}
use Rattle.fixed_bits.specs.Down.{down}
use Rattle.fixed_bits.specs.Formats.{FormatParts}
use Rattle.fixed_bits.specs.Images.{IsImage, IsOutOfRangeBy, IsSaturated, IsSymmetric, lowest_by, wrap_to_signed, wrap_to_unsigned}
use Rattle.fixed_bits.specs.Lemmas.InnerLaws.{wrapped_signed, wrapped_unsigned}
use Rattle.fixed_bits.specs.Nearest.{distance}
use Rattle.fixed_bits.specs.Ranges.{greatest}
use Rattle.fixed_bits.specs.Rounded.{IsNearestGreater, IsNearestLesser, IsNotAbove, IsNotBelow, IsRounded}
use Rattle.fixed_bits.specs.declared.format.Policy.{Policy}
use Rattle.fixed_bits.specs.declared.format.Policy.TheVariants.{Checked, Saturating, Wrapping, Symmetric}
use Rattle.fixed_bits.specs.declared.mode.ReadMode.{ReadMode}
use Rattle.fixed_bits.specs.declared.mode.ReadMode.TheVariants.{NearestEven, Floor, Ceil, TowardsZero}
use Rattle.fixed_bits.specs.declared.mode.ReadMode.TheVariants.{AwayFromZero, NearestAway, NearestDown, NearestUp, NearestZero}
use Rattle.fixed_numeral.specs.Numeral.{Exponent, HasNumeral, IsExponentOf, Parts, base, exponent_number, fractional_digits, is_minus, is_separator, is_sign, mantissa, signed, text_of}
use Rattle.fixed_numeral.specs.Value.{magnitude}
use Rattle.fixed_numeral.specs.declared.radix.Radix.{Radix}
use Rattle.fixed_read.specs.Reading.{IsReadNumber}
use Rattle.fixed_respell.specs.Answer.{Asks, IsAnswer, respelled_answer, task_of}
use Rattle.fixed_respell.specs.LineWords.{HaveNoSpace, longest_line, space, spaced}
use Rattle.fixed_respell.specs.Reached.{IsRespelled, OverflowsOn}
use Rattle.fixed_respell.specs.Split.{count_of}
use Rattle.fixed_respell.specs.Words.{IsPolicyWord, format_text, radix_text}
use Rattle.fixed_respell.proofs.TableLemmas.{is_type, type_is}
use Rattle.fixed_write.specs.Texts.{shortest_text}
use Rattle.fixed_write.proofs.Public.{shortest_text_is}

-- ---- numerals
abbrev are_digits : ℕ → List ℕ → Bool
are_digits radix [] = true
are_digits radix (c ∷ cs) = ltb (digit_value c) radix && are_digits radix cs

digits_hold : (radix : ℕ) (cs : List ℕ) → are_digits radix cs ≡ true → AllDigits radix cs
digits_hold radix [] e = tt
digits_hold radix (c ∷ cs) e = let h = and_parts (ltb (digit_value c) radix) (are_digits radix cs) e in (ltb-true (digit_value c) radix h.0, digits_hold radix cs h.1)

fraction_holds : (radix : ℕ) (f : Option (List ℕ)) → are_digits radix (fractional_digits f) ≡ true → IfSome f (AllDigits radix)
fraction_holds radix None e = tt
fraction_holds radix (Some cs) e = digits_hold radix cs e

abbrev is_signed : Option ℕ → Bool
is_signed None = true
is_signed (Some b) = is_sign b

sign_holds : (s : Option ℕ) → is_signed s ≡ true → IfSome s (λ b. IsTrue (is_sign b))
sign_holds None e = tt
sign_holds (Some b) e = e

abbrev is_exponent : Radix → Option Exponent → Bool
is_exponent r None = true
is_exponent r (Some x) = (is_separator r x.separator && is_signed x.sign) && (are_digits 10 x.digits && (ltb 0 (length x.digits) && ltb (mag (exponent_number x)) (2 ^ 31)))

exponent_holds : (r : Radix) (e : Option Exponent) → is_exponent r e ≡ true → IfSome e (IsExponentOf r) × IfSome e (λ x. 0 < length x.digits)
exponent_holds r None e = (tt, tt)
exponent_holds r (Some x) e =
    let all = and_parts _ _ e in
    let head = and_parts _ _ all.0 in
    let tail = and_parts _ _ all.1 in
    let most = and_parts _ _ tail.1 in
    (record { separator = head.0; sign = sign_holds x.sign head.1; digits = digits_hold 10 x.digits tail.0; in_range = record { sfits = ltb-true _ _ most.1 } }, ltb-true _ _ most.0)

abbrev is_numeral : Radix → Parts → Bool
is_numeral r p = (is_signed p.sign && are_digits (base r) p.whole) && (are_digits (base r) (fractional_digits p.fraction) && (is_exponent r p.exponent && ltb 0 (length (mantissa p))))

numeral_is : (r : Radix) (p : Parts) → is_numeral r p ≡ true → HasNumeral r (text_of p) p
numeral_is r p e =
    let all = and_parts _ _ e in
    let head = and_parts _ _ all.0 in
    let tail = and_parts _ _ all.1 in
    let last = and_parts _ _ tail.1 in
    let exponent = exponent_holds r p.exponent last.0 in
    record {
      beginning = record {
        parts = record { sign = sign_holds p.sign head.0; whole = digits_hold (base r) p.whole head.1; fraction = fraction_holds (base r) p.fraction tail.0; exponent = exponent.0 };
        text = refl;
      };
      mantissa = ltb-true _ _ last.1;
      exponent = exponent.1;
    }

-- ---- rounded magnitudes
abbrev is_not_above : ℕ → ℕ → ℕ → Bool
is_not_above num den q = leb (q * den) num && ltb num ((q + 1) * den)

abbrev is_not_below : ℕ → ℕ → ℕ → Bool
is_not_below num den q = leb num (q * den) && ltb (q * den) (num + den)

-- q * den is at most half of den away from num, and exactly half only if `at_tie`
abbrev is_nearest_by : Bool → ℕ → ℕ → ℕ → Bool
is_nearest_by at_tie num den q = leb (2 * distance num (q * den)) den && (ltb (2 * distance num (q * den)) den || at_tie)

abbrev is_greater : ℕ → ℕ → ℕ → Bool
is_greater num den q = is_nearest_by (leb num (q * den)) num den q

abbrev is_lesser : ℕ → ℕ → ℕ → Bool
is_lesser num den q = is_nearest_by (leb (q * den) num) num den q

abbrev is_rounded : ReadMode → Bool → ℕ → ℕ → ℕ → Bool
is_rounded NearestEven negative num den q = is_nearest_by (eqb (q % 2) 0) num den q
is_rounded NearestAway negative num den q = is_greater num den q
is_rounded NearestZero negative num den q = is_lesser num den q
is_rounded NearestUp false num den q = is_greater num den q
is_rounded NearestUp true num den q = is_lesser num den q
is_rounded NearestDown false num den q = is_lesser num den q
is_rounded NearestDown true num den q = is_greater num den q
is_rounded Floor false num den q = is_not_above num den q
is_rounded Floor true num den q = is_not_below num den q
is_rounded Ceil false num den q = is_not_below num den q
is_rounded Ceil true num den q = is_not_above num den q
is_rounded TowardsZero negative num den q = is_not_above num den q
is_rounded AwayFromZero negative num den q = is_not_below num den q

record Near (at_tie : Bool) (num den q : ℕ) : Type 0 where
  near : 2 * distance num (q * den) ≤ den
  tie : 2 * distance num (q * den) ≡ den → at_tie ≡ true

near_by : (at_tie : Bool) (num den q : ℕ) → is_nearest_by at_tie num den q ≡ true → Near at_tie num den q
near_by at_tie num den q e =
    let h = and_parts (leb (2 * distance num (q * den)) den) (ltb (2 * distance num (q * den)) den || at_tie) e in
    record {
      near = leb-true _ _ h.0;
      tie = λ same. elim (or_cases (ltb (2 * distance num (q * den)) den) at_tie h.1) [
        | inl less ↦ let l = ltb-true (2 * distance num (q * den)) den less in absurd (omega (arith, same, l))
        | inr tied ↦ tied
      ];
    }

greater : (num den q : ℕ) → is_greater num den q ≡ true → IsNearestGreater num den q
greater num den q e = let h = near_by (leb num (q * den)) num den q e in record { near = h.near; tie = λ same. leb-true num (q * den) (h.tie same) }

lesser : (num den q : ℕ) → is_lesser num den q ≡ true → IsNearestLesser num den q
lesser num den q e = let h = near_by (leb (q * den) num) num den q e in record { near = h.near; tie = λ same. leb-true (q * den) num (h.tie same) }

not_above : (num den q : ℕ) → is_not_above num den q ≡ true → IsNotAbove num den q
not_above num den q e = let h = and_parts _ _ e in record { at_most = leb-true _ _ h.0; next = ltb-true _ _ h.1 }

not_below : (num den q : ℕ) → is_not_below num den q ≡ true → IsNotBelow num den q
not_below num den q e = let h = and_parts _ _ e in record { at_least = leb-true _ _ h.0; before = ltb-true _ _ h.1 }

rounded : (mode : ReadMode) (negative : Bool) (num den q : ℕ) → is_rounded mode negative num den q ≡ true → IsRounded mode negative num den q
rounded NearestEven negative num den q e = let h = near_by (eqb (q % 2) 0) num den q e in record { near = h.near; tie = λ same. eqb-true (q % 2) 0 (h.tie same) }
rounded NearestAway negative num den q e = greater num den q e
rounded NearestZero negative num den q e = lesser num den q e
rounded NearestUp false num den q e = greater num den q e
rounded NearestUp true num den q e = lesser num den q e
rounded NearestDown false num den q e = lesser num den q e
rounded NearestDown true num den q e = greater num den q e
rounded Floor false num den q e = not_above num den q e
rounded Floor true num den q e = not_below num den q e
rounded Ceil false num den q e = not_below num den q e
rounded Ceil true num den q e = not_above num den q e
rounded TowardsZero negative num den q e = not_above num den q e
rounded AwayFromZero negative num den q e = not_below num den q e

-- ---- images
abbrev is_out : Policy → Bool → ℕ → ℤ → Bool
is_out p s n v = int_lt v (lowest_by p s n) || int_lt (greatest s n) v

decides_less : (a b : ℤ) → Decides (int_lt a b) (a <ℤ b)
decides_less a b = ((λ e. grind (arith, ints, e)), (λ l. grind (arith, ints, l)))

decides_out : (p : Policy) (s : Bool) (n : ℕ) (v : ℤ) → Decides (is_out p s n v) (IsOutOfRangeBy p s n v)
decides_out p s n v = Decides-or _ _ (decides_less v (lowest_by p s n)) (decides_less (greatest s n) v)

abbrev clamped : Policy → Bool → ℕ → ℤ → ℤ
clamped p s n v = cond (int_lt v (lowest_by p s n)) (lowest_by p s n) (cond (int_lt (greatest s n) v) (greatest s n) v)

saturated : (s : Bool) (n : ℕ) (v : ℤ) → IsSaturated s n v (clamped Saturating s n v)
saturated true n v = record { same = λ i. grind (arith, ints, i.low, i.high); below = λ l. grind (arith, ints, l); above = λ l. grind (arith, ints, l, pow_pos (n - 1)) }
saturated false n v = record { same = λ i. grind (arith, ints, i.low, i.high); below = λ l. grind (arith, ints, l); above = λ l. grind (arith, ints, l, pow_pos n) }

symmetric : (s : Bool) (n : ℕ) (v : ℤ) → IsSymmetric s n v (clamped Symmetric s n v)
symmetric true n v = record { same = λ i. grind (arith, ints, i.low, i.high); below = λ l. grind (arith, ints, l); above = λ l. grind (arith, ints, l, pow_pos (n - 1)) }
symmetric false n v = record { same = λ i. grind (arith, ints, i.low, i.high); below = λ l. grind (arith, ints, l); above = λ l. grind (arith, ints, l, pow_pos n) }

abbrev image_of : Policy → Bool → ℕ → ℤ → ℤ
image_of Checked s n v = v
image_of Saturating s n v = clamped Saturating s n v
image_of Wrapping true n v = wrap_to_signed n v
image_of Wrapping false n v = pos (wrap_to_unsigned n v)
image_of Symmetric s n v = clamped Symmetric s n v

abbrev has_image : Policy → Bool → ℕ → ℤ → Bool
has_image Checked s n v = not (is_out Checked s n v)
has_image Saturating s n v = true
has_image Wrapping s n v = eqb (2 ^ n) (2 * 2 ^ (n - 1))
has_image Symmetric s n v = true

image_is : (p : Policy) (s : Bool) (n : ℕ) (v : ℤ) → has_image p s n v ≡ true → IsImage p s n v (image_of p s n v)
image_is Checked s n v e = record { in_range = inside s n v (is_out Checked s n v) (not-true _ e) (decides_out Checked s n v); same = refl }
image_is Saturating s n v e = saturated s n v
image_is Wrapping true n v e = wrapped_signed n (eqb-true _ _ e) v
image_is Wrapping false n v e = wrapped_unsigned n v
image_is Symmetric s n v e = symmetric s n v

-- ---- the bits reached from parts whose magnitude is `ulps` ulps of the source
abbrev is_read : ReadMode → Radix → Parts → ℕ → ℕ → Bool
is_read mode r p f ulps = is_numeral r p && is_rounded mode (is_minus p.sign) ((magnitude r p).num * 2 ^ f) (magnitude r p).den ulps

read : (mode : ReadMode) (r : Radix) (p : Parts) (f ulps : ℕ) → is_read mode r p f ulps ≡ true → IsReadNumber mode r p f (signed p.sign ulps)
read mode r p f ulps e = record { ulps = ulps; rounded = rounded mode (is_minus p.sign) _ _ ulps (and_parts (is_numeral r p) _ e).1; value = refl }

abbrev in_source : Policy → FormatParts → ℤ → ℤ
in_source policy s v = image_of policy s.signed s.width v

abbrev moved : Policy → FormatParts → FormatParts → ℤ → ℤ
moved policy s t v = down (in_source policy s v) s.frac t.frac

abbrev bits : Policy → FormatParts → FormatParts → ℤ → ℤ
bits policy s t v = image_of policy t.signed t.width (moved policy s t v)

abbrev overflowed : Policy → FormatParts → FormatParts → ℤ → Bool
overflowed policy s t v = is_out policy s.signed s.width v || is_out policy t.signed t.width (moved policy s t v)

abbrev is_reached : ReadMode → Radix → Policy → FormatParts → FormatParts → Parts → ℕ → Bool
is_reached mode r policy s t p ulps = is_read mode r p s.frac ulps && (has_image policy s.signed s.width (signed p.sign ulps) && has_image policy t.signed t.width (moved policy s t (signed p.sign ulps)))

pub reached : {mode : ReadMode} {r : Radix} {policy : Policy} {s t : FormatParts} (p : Parts) (ulps : ℕ) → is_reached mode r policy s t p ulps ≡ true → IsRespelled mode r (text_of p) policy s t (bits policy s t (signed p.sign ulps)) (overflowed policy s t (signed p.sign ulps))
reached {mode} {r} {policy} {s} {t} p ulps e =
    let all = and_parts (is_read mode r p s.frac ulps) _ e in
    let images = and_parts _ _ all.1 in
    let v : ℤ = signed p.sign ulps in
    record {
      parts = p;
      numeral = numeral_is r p (and_parts (is_numeral r p) _ all.0).0;
      reached = record {
        number = v;
        in_source = in_source policy s v;
        moved = moved policy s t v;
        read = read mode r p s.frac ulps all.0;
        source_image = image_is policy s.signed s.width v images.0;
        down = down_is (in_source policy s v) s.frac t.frac;
        target_image = image_is policy t.signed t.width (moved policy s t v) images.1;
        flag = Decides-or _ _ (decides_out policy s.signed s.width v) (decides_out policy t.signed t.width (moved policy s t v));
      };
    }

pub overflows : {mode : ReadMode} {r : Radix} {s t : FormatParts} (p : Parts) (ulps : ℕ) → (is_read mode r p s.frac ulps && overflowed Checked s t (signed p.sign ulps)) ≡ true → OverflowsOn mode r (text_of p) Checked s t
overflows {mode} {r} {s} {t} p ulps e =
    let all = and_parts (is_read mode r p s.frac ulps) _ e in
    let v : ℤ = signed p.sign ulps in
    record {
      parts = p;
      numeral = numeral_is r p (and_parts (is_numeral r p) _ all.0).0;
      overflowed = record {
        number = v;
        moved = down v s.frac t.frac;
        checked = refl;
        read = read mode r p s.frac ulps all.0;
        down = down_is v s.frac t.frac;
        out = (Decides-or _ _ (decides_out Checked s.signed s.width v) (decides_out Checked t.signed t.width (down v s.frac t.frac))).0 all.1;
      };
    }

-- ---- lines
abbrev words : Radix → FormatParts → FormatParts → List ℕ → List (List ℕ)
words r s t policy = radix_text r ∷ format_text s ∷ format_text t ∷ policy ∷ []

abbrev have_no_space : List (List ℕ) → Bool
have_no_space [] = true
have_no_space (w ∷ ws) = eqb (count_of space w) 0 && have_no_space ws

no_spaces : (ws : List (List ℕ)) → have_no_space ws ≡ true → HaveNoSpace ws
no_spaces [] e = tt
no_spaces (w ∷ ws) e = let h = and_parts (eqb (count_of space w) 0) (have_no_space ws) e in (eqb-true _ _ h.0, no_spaces ws h.1)

abbrev is_line : Radix → FormatParts → FormatParts → List ℕ → List ℕ → Bool
is_line r s t policy numeral = (leb (length (spaced (words r s t policy) numeral)) longest_line && have_no_space (words r s t policy)) && (is_type s.width s.frac && is_type t.width t.frac)

pub asks : (r : Radix) (s t : FormatParts) (word : List ℕ) (p : Policy) (m : ReadMode) (numeral : List ℕ) → is_line r s t word numeral ≡ true → IsPolicyWord word p m → Asks (spaced (words r s t word) numeral) (task_of r s t p m numeral)
asks r s t word p m numeral e policy =
    let all = and_parts _ _ e in
    let line = and_parts _ _ all.0 in
    let formats = and_parts (is_type s.width s.frac) _ all.1 in
    record {
      short = leb-true _ _ line.0;
      radix_word = radix_text r;
      source_word = format_text s;
      target_word = format_text t;
      policy_word = word;
      words = record { text = refl; unspaced = no_spaces (words r s t word) line.1 };
      radix = refl;
      source = record { format = type_is s.width s.frac formats.0; text = refl };
      target = record { format = type_is t.width t.frac formats.1; text = refl };
      policy = policy;
    }

-- the answer to a line whose numeral reaches known bits
pub answered : (mode : ReadMode) (r : Radix) (policy : Policy) (s t : FormatParts) (word : List ℕ) (p : Parts) (ulps : ℕ) → IsPolicyWord word policy mode → is_line r s t word (text_of p) ≡ true → is_reached mode r policy s t p ulps ≡ true
    → IsAnswer (spaced (words r s t word) (text_of p)) (respelled_answer (shortest_text (bits policy s t (signed p.sign ulps)) t.frac) (bits policy s t (signed p.sign ulps)) (overflowed policy s t (signed p.sign ulps)))
answered mode r policy s t word p ulps named line e =
    let c : ℤ = bits policy s t (signed p.sign ulps) in
    inr (record {
      task = task_of r s t policy mode (text_of p);
      asks = asks r s t word policy mode (text_of p) line named;
      answered = inr (record {
        bits = c;
        overflowed = overflowed policy s t (signed p.sign ulps);
        respelled = reached p ulps e;
        text = shortest_text c t.frac;
        shortest = shortest_text_is c t.frac;
        answer_is = refl;
      });
    })

-- ---- parts of numerals
abbrev pub plain : Option ℕ → List ℕ → Option (List ℕ) → Parts
plain sign whole fraction = record { sign = sign; whole = whole; fraction = fraction; exponent = None }

-- a numeral with 'p' and one exponent digit
abbrev pub by_two : List ℕ → List ℕ → ℕ → Parts
by_two whole fraction digit = record { sign = None; whole = whole; fraction = Some fraction; exponent = Some (record { separator = 112; sign = None; digits = digit ∷ [] }) }
