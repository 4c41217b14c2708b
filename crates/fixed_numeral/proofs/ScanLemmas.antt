-- The scanner's state after one more byte.
use Rattle.std.proofs.Common.{◌≡◌, ℕ, ◌+◌, ◌-◌, ◌*◌, ◌^◌, ◌<◌, ◌≤◌, ◌⊎◌, Bool, true, false, cond, not, ◌&&◌, nat_lt, ◌==◌, IsTrue, List, [], ◌∷◌, ◌++◌, length, Option, Some, None, IfSome, is_none, refl, sym, ap, ◌∙◌, ⊎_elim, arith, append_assoc, append-nil, length-append, option_to_list, ltb-true, lt-ltb, le-ltb}
use Rattle.std.proofs.Common.{take, drop, get_or, slice_get, take-append-drop, get_or-drop, length-drop, length-take, ◌%◌}
use Rattle.std.proofs.lemmas.List.{drop-drop, take_more, take-take, take_all, take_at, drop_at, length_push}
use Rattle.std.proofs.lemmas.Bool.{cases_lt}
use Rattle.std.proofs.Math.Seq.{take-add}
use Rattle.std.proofs.lemmas.Option.{slice_get-get_or}
use Rattle.std.specs.Char.{digit_value}
use Rattle.std.specs.Str.Parse.{digits_value, AllDigits}
use Rattle.std.proofs.lemmas.Int.Digits.{digits_value_push, digits_more}
use Rattle.fixed_numeral.specs.declared.radix.Radix.{Radix}
use Rattle.fixed_numeral.specs.declared.radix.Radix.TheVariants.{Bin, Oct, Dec, Hex}
use Rattle.fixed_numeral.specs.declared.scanner.State.{State}
use Rattle.fixed_numeral.specs.declared.error.ParseErrorKind.{ParseErrorKind}
use Rattle.fixed_numeral.specs.declared.error.ParseErrorKind.TheVariants.{InvalidDigit, MisplacedSign, TooManyPoints, TooManyExp, ExpInvalidDigit, ExpOverflow, NoDigits, ExpNoDigits}
use Rattle.fixed_numeral.specs.Numeral.{Parts, Exponent, HasParts, HasNumeral, IsNumeral, IsBeginning, is_sign, is_separator, is_radix_separator, is_two_separator, point, minus, mantissa, fractional_digits, fraction_text, exponent_text, base}
use Rattle.fixed_numeral.specs.Cause.{is_nil, kind_of, HasCause}
use Rattle.fixed_numeral.specs.Digits.{digits_in}
use Rattle.fixed_numeral.specs.Scanned.{IsScanned}
use Rattle.fixed_numeral.specs.Inner.Run.{IsRun}
use Rattle.fixed_numeral.proofs.ByteLemmas.{near_zero}
use Rattle.fixed_numeral.proofs.MagnitudeLemmas.{whole_count, after_count}
use Rattle.fixed_numeral.specs.Inner.Scan.{Agrees, Extends, CannotExtend, IsAfter, IsIncomplete, max_magnitude}
use Rattle.fixed_numeral.proofs.NumeralLemmas.{is_digit, is_in_range, exponent, parts, step, step_from_longer, more_point, more_separator, more_sign, more_exponent, more_exponent_sign, at_byte, at_bytes, at_three, or_cases, beginning_prefix, parts_unique}

pub stuck : (r : Radix) (bs : List ℕ) (p : Parts) (b : ℕ) → HasParts r bs p → step r p b ≡ None → IsBeginning r (bs ++ b ∷ []) → ⊥
stuck r bs p b h s (q, g) = let e = step_from_longer r bs b p q h g in cc

nil_push : (w : List ℕ) (b : ℕ) (ys : List ℕ) → is_nil ((w ++ b ∷ []) ++ ys) ≡ false
nil_push [] b ys = refl
nil_push (x ∷ w) b ys = refl

pub and_false : (x y : Bool) → y ≡ false → (x && y) ≡ false
and_false true y e = e
and_false false y e = refl

-- ---- several digits at once
pub digits_append : (b : ℕ) (xs ys : List ℕ) → AllDigits b xs → AllDigits b ys → AllDigits b (xs ++ ys)
digits_append b [] ys h k = k
digits_append b (x ∷ xs) ys h k = (h.0, digits_append b xs ys h.1 k)

pub nil_more : (w ds ys : List ℕ) → 0 < length ds → is_nil ((w ++ ds) ++ ys) ≡ false
nil_more [] [] ys l = absurd (omega arith)
nil_more x ds ys l = refl

whole_more : (r : Radix) (st : State) (n : ℕ) (bs ds : List ℕ) (s : Option ℕ) (w : List ℕ) (f : Option (List ℕ)) (x : Option Exponent) → HasParts r bs (parts s w f x) → Agrees r st (parts s w f x) → st.has_separator ≡ false → st.magnitude ≤ max_magnitude true → AllDigits (base r) ds → length ds ≡ n → 0 < n → st.has_point ≡ false → IsAfter r (bs ++ ds) (record st { whole_len = st.whole_len + n; sign_allowed = false })
whole_more r st n bs ds s w f (Some e) h a ns m d l pos np = let clash = a.separator in absurd (cc)
whole_more r st n bs ds s w (Some es) None h a ns m d l pos np = let clash = a.point in absurd (cc)
whole_more r st n bs ds s w None None h a ns m d l pos np = record {
  parts = parts s (w ++ ds) None None;
  beginning = record {
    parts = record { sign = h.parts.sign; whole = digits_append (base r) w ds h.parts.whole d; fraction = tt; exponent = tt };
    text = rw h.text (simp (append_assoc, append-nil));
  };
  agrees = record {
    neg = a.neg;
    start = a.start;
    whole = omega (arith, a.whole, length-append w ds, l);
    point = a.point;
    fraction = a.fraction;
    separator = a.separator;
    fresh = sym (and_false (is_none s) _ (rw (append-nil (w ++ ds)) at (ap (λ (v : Bool). v && true) (nil_more w ds [] (omega arith)))));
    exponent = a.exponent;
    counted = tt;
  };
  room = m;
}

fraction_more : (r : Radix) (st : State) (n : ℕ) (bs ds : List ℕ) (s : Option ℕ) (w : List ℕ) (f : Option (List ℕ)) (x : Option Exponent) → HasParts r bs (parts s w f x) → Agrees r st (parts s w f x) → st.has_separator ≡ false → st.magnitude ≤ max_magnitude true → AllDigits (base r) ds → length ds ≡ n → st.has_point ≡ true → IsAfter r (bs ++ ds) (record st { fraction_len = st.fraction_len + n; sign_allowed = false })
fraction_more r st n bs ds s w f (Some e) h a ns m d l np = let clash = a.separator in absurd (cc)
fraction_more r st n bs ds s w None None h a ns m d l np = let clash = a.point in absurd (cc)
fraction_more r st n bs ds s w (Some es) None h a ns m d l np = record {
  parts = parts s w (Some (es ++ ds)) None;
  beginning = record {
    parts = record { sign = h.parts.sign; whole = h.parts.whole; fraction = digits_append (base r) es ds h.parts.fraction d; exponent = tt };
    text = rw h.text (simp (append_assoc, append-nil));
  };
  agrees = record {
    neg = a.neg;
    start = a.start;
    whole = a.whole;
    point = a.point;
    fraction = omega (arith, a.fraction, length-append es ds, l);
    separator = a.separator;
    fresh = sym (and_false (is_none s) _ (and_false (is_nil w) false refl));
    exponent = a.exponent;
    counted = tt;
  };
  room = m;
}

pub passed_whole : (r : Radix) (st : State) (n : ℕ) (bs ds : List ℕ) → IsAfter r bs st → st.has_separator ≡ false → AllDigits (base r) ds → length ds ≡ n → 0 < n → st.has_point ≡ false → IsAfter r (bs ++ ds) (record st { whole_len = st.whole_len + n; sign_allowed = false })
passed_whole r st n bs ds a ns d l pos np = whole_more r st n bs ds a.parts.sign a.parts.whole a.parts.fraction a.parts.exponent a.beginning a.agrees ns a.room d l pos np

pub passed_fraction : (r : Radix) (st : State) (n : ℕ) (bs ds : List ℕ) → IsAfter r bs st → st.has_separator ≡ false → AllDigits (base r) ds → length ds ≡ n → st.has_point ≡ true → IsAfter r (bs ++ ds) (record st { fraction_len = st.fraction_len + n; sign_allowed = false })
passed_fraction r st n bs ds a ns d l np = fraction_more r st n bs ds a.parts.sign a.parts.whole a.parts.fraction a.parts.exponent a.beginning a.agrees ns a.room d l np

pub passed_none : (r : Radix) (st : State) (n : ℕ) (bs ds : List ℕ) → IsAfter r bs st → length ds ≡ n → n ≡ 0 → IsAfter r (bs ++ ds) st
passed_none r st n bs [] a l z = rw (append-nil bs) a
passed_none r st n bs (d ∷ ds) a l z = absurd (omega arith)

-- ---- before any separator

pub before_digit : (r : Radix) (st next : State) (b : ℕ) (bs : List ℕ) (p : Parts) → HasParts r bs p → Agrees r st p → st.magnitude ≤ max_magnitude true → is_digit r b ≡ true → ((r : Radix) (bs ds : List ℕ) → IsAfter r bs st → AllDigits (base r) ds → length ds ≡ 1 → IsAfter r (bs ++ ds) next) → Extends r bs b next
before_digit r st next b bs p h a m d more = more r bs (b ∷ []) (record { parts = p; beginning = h; agrees = a; room = m }) (ltb-true _ _ d, tt) refl

pub before_separator : (r : Radix) (st : State) (b : ℕ) (bs : List ℕ) (s : Option ℕ) (w : List ℕ) (f : Option (List ℕ)) (x : Option Exponent) → HasParts r bs (parts s w f x) → Agrees r st (parts s w f x) → st.has_separator ≡ false → is_separator r b ≡ true → (t : Bool) → t ≡ is_two_separator r b → Extends r bs b (record st { has_separator = true; scales_by_two = t; sign_allowed = true; exponent_negative = false; magnitude = 0; has_exponent_digit = false })
before_separator r st b bs s w f (Some e) h a ns d t et = let clash = a.separator in absurd (cc)
before_separator r st b bs s w f None h a ns d t et = record {
  parts = parts s w f (Some (exponent b None []));
  beginning = more_separator r bs s w f b d h;
  agrees = record { neg = a.neg; start = a.start; whole = a.whole; point = a.point; fraction = a.fraction; separator = refl; fresh = refl; exponent = (et, refl, refl); counted = refl };
  room = omega arith;
}

pub before_point : (r : Radix) (st : State) (b : ℕ) (bs : List ℕ) (s : Option ℕ) (w : List ℕ) (f : Option (List ℕ)) (x : Option Exponent) → HasParts r bs (parts s w f x) → Agrees r st (parts s w f x) → st.has_separator ≡ false → st.magnitude ≤ max_magnitude true → b ≡ 46 → st.has_point ≡ false → Extends r bs b (record st { has_point = true; sign_allowed = false })
before_point r st b bs s w f (Some e) h a ns m d np = let clash = a.separator in absurd (cc)
before_point r st b bs s w (Some ds) None h a ns m d np = let clash = a.point in absurd (cc)
before_point r st b bs s w None None h a ns m d np = record {
  parts = parts s w (Some []) None;
  beginning = more_point r bs s w b (rw d refl) h;
  agrees = record { neg = a.neg; start = a.start; whole = a.whole; point = refl; fraction = a.fraction; separator = a.separator; fresh = sym (and_false (is_none s) _ (and_false (is_nil w) false refl)); exponent = a.exponent; counted = tt };
  room = m;
}

record IsPointAlone (r : Radix) (b : ℕ) : Type 0 where
  no_digit : is_digit r b ≡ false
  no_separator : is_separator r b ≡ false
  no_sign : is_sign b ≡ false
  is_point : (b == point) ≡ true

point_alone : (r : Radix) (b : ℕ) → b ≡ 46 → IsPointAlone r b
point_alone Bin b e = rw e (record { no_digit = refl; no_separator = refl; no_sign = refl; is_point = refl })
point_alone r b e = rw e (record { no_digit = refl; no_separator = refl; no_sign = refl; is_point = refl })

pub second_point : (r : Radix) (st : State) (b : ℕ) (bs : List ℕ) (s : Option ℕ) (w : List ℕ) (f : Option (List ℕ)) (x : Option Exponent) → HasParts r bs (parts s w f x) → Agrees r st (parts s w f x) → st.has_separator ≡ false → b ≡ 46 → st.has_point ≡ true → CannotExtend r bs (parts s w f x) b TooManyPoints
second_point r st b bs s w f (Some e) h a ns d yp = let clash = a.separator in absurd (cc)
second_point r st b bs s w None None h a ns d yp = let clash = a.point in absurd (cc)
second_point r st b bs s w (Some ds) None h a ns d yp =
    let alone = point_alone r b d in
    record {
      none = stuck r bs _ b h (rw (alone.no_digit, alone.no_separator) refl);
      is_kind = rw (alone.no_sign, alone.is_point) refl;
    }

not_point : (b : ℕ) → is_sign b ≡ true → (b == point) ≡ false
not_point b d = at_bytes (λ (x : ℕ). (x == point) ≡ false) b 43 45 d refl refl

pub before_sign : (r : Radix) (st : State) (b : ℕ) (bs : List ℕ) (s : Option ℕ) (w : List ℕ) (f : Option (List ℕ)) (x : Option Exponent) → HasParts r bs (parts s w f x) → Agrees r st (parts s w f x) → st.has_separator ≡ false → st.magnitude ≤ max_magnitude true → is_sign b ≡ true → st.sign_allowed ≡ true → Extends r bs b (record st { negative = b == minus; sign_len = 1; sign_allowed = false })
before_sign r st b bs s w f (Some e) h a ns m d fr = let clash = a.separator in absurd (cc)
before_sign r st b bs None [] None None h a ns m d fr =
    let empty : bs ≡ [] = h.text in
    record {
      parts = parts (Some b) [] None None;
      beginning = rw empty (more_sign r b d);
      agrees = record { neg = refl; start = refl; whole = a.whole; point = a.point; fraction = a.fraction; separator = a.separator; fresh = refl; exponent = a.exponent; counted = tt };
      room = m;
    }
before_sign r st b bs s w f None h a ns m d fr = let clash = a.fresh in absurd (cc)

and_turned : (x y : Bool) → (x && (y && true)) ≡ (x && y)
and_turned true true = refl
and_turned true false = refl
and_turned false y = refl

pub second_sign : (r : Radix) (st : State) (b : ℕ) (bs : List ℕ) (s : Option ℕ) (w : List ℕ) (f : Option (List ℕ)) (x : Option Exponent) → HasParts r bs (parts s w f x) → Agrees r st (parts s w f x) → st.has_separator ≡ false → is_digit r b ≡ false → is_separator r b ≡ false → is_sign b ≡ true → st.sign_allowed ≡ false → CannotExtend r bs (parts s w f x) b MisplacedSign
second_sign r st b bs s w f (Some e) h a ns nd nk d nf = let clash = a.separator in absurd (cc)
second_sign r st b bs s w (Some ds) None h a ns nd nk d nf = record {
  none = stuck r bs _ b h (rw (nd, nk) refl);
  is_kind = rw d refl;
}
second_sign r st b bs s w None None h a ns nd nk d nf =
    record {
      none = stuck r bs _ b h (rw (nd, nk, not_point b d, d, sym (and_turned (is_none s) (is_nil w)) ∙ sym a.fresh ∙ nf) refl);
      is_kind = rw d refl;
    }

pub other_before : (r : Radix) (st : State) (b : ℕ) (bs : List ℕ) (s : Option ℕ) (w : List ℕ) (f : Option (List ℕ)) (x : Option Exponent) → HasParts r bs (parts s w f x) → Agrees r st (parts s w f x) → st.has_separator ≡ false → is_digit r b ≡ false → is_separator r b ≡ false → (b == point) ≡ false → is_sign b ≡ false → CannotExtend r bs (parts s w f x) b InvalidDigit
other_before r st b bs s w f (Some e) h a ns nd nk np d = let clash = a.separator in absurd (cc)
other_before r st b bs s w (Some ds) None h a ns nd nk np d = record {
  none = stuck r bs _ b h (rw (nd, nk) refl);
  is_kind = rw (d, np) refl;
}
other_before r st b bs s w None None h a ns nd nk np d = record {
  none = stuck r bs _ b h (rw (nd, nk, np, d) refl);
  is_kind = rw (d, np) refl;
}

-- ---- after a separator

decimal_digit : (b : ℕ) → is_digit Dec b ≡ true → digit_value b ≡ b - 48
decimal_digit b d = decimal_by b (ltb-true _ _ d)
  where
    decimal_by : (b : ℕ) → digit_value b < 10 → digit_value b ≡ b - 48
    decimal_by b h = grind arith

in_range_most : (c : Bool) (n : ℕ) → n ≤ max_magnitude c → cond c (nat_lt n (2 ^ 31 + 1)) (nat_lt n (2 ^ 31)) ≡ true
in_range_most true n h = lt-ltb _ _ (omega arith)
in_range_most false n h = lt-ltb _ _ (omega arith)

pub most_at_most : (c : Bool) → max_magnitude c ≤ max_magnitude true
most_at_most true = omega arith
most_at_most false = omega arith

pub after_digit : (r : Radix) (st : State) (b m : ℕ) (bs : List ℕ) (s : Option ℕ) (w : List ℕ) (f : Option (List ℕ)) (x : Option Exponent) → HasParts r bs (parts s w f x) → Agrees r st (parts s w f x) → st.has_separator ≡ true → is_digit Dec b ≡ true → m ≡ st.magnitude * 10 + (b - 48) → m ≤ max_magnitude st.exponent_negative → Extends r bs b (record st { sign_allowed = false; magnitude = m; has_exponent_digit = true })
after_digit r st b m bs s w f None h a ns d e l = let clash = a.separator in absurd (cc)
after_digit r st b m bs s w f (Some e) h a ns d is l =
    let value : digits_value 10 (e.digits ++ b ∷ []) ≡ m = digits_value_push 10 e.digits b ∙ omega (arith, decimal_digit b d, a.exponent.2) in
    let fits : is_in_range e.sign (digits_value 10 (e.digits ++ b ∷ [])) ≡ true = rw (value, ← a.exponent.1) (in_range_most st.exponent_negative m l) in
    record {
      parts = parts s w f (Some (exponent e.separator e.sign (e.digits ++ b ∷ [])));
      beginning = more_exponent r bs s w f e b d fits h;
      agrees = record {
        neg = a.neg;
        start = a.start;
        whole = a.whole;
        point = a.point;
        fraction = a.fraction;
        separator = a.separator;
        fresh = sym (and_false (is_none e.sign) _ (rw (append-nil (e.digits ++ b ∷ [])) at (nil_push e.digits b [])));
        exponent = (a.exponent.0, a.exponent.1, sym value);
        counted = rw (rw (append-nil (e.digits ++ b ∷ [])) at (nil_push e.digits b [])) refl;
      };
      room = omega (arith, most_at_most st.exponent_negative);
    }

too_much : (c : Bool) (n : ℕ) → max_magnitude c < n → cond c (nat_lt n (2 ^ 31 + 1)) (nat_lt n (2 ^ 31)) ≡ false
too_much true n h = le-ltb _ _ (omega arith)
too_much false n h = le-ltb _ _ (omega arith)

decimal_is_no_sign : (b : ℕ) → is_digit Dec b ≡ true → is_sign b ≡ false
decimal_is_no_sign b d = by_sign (is_sign b) refl
  where
    by_sign : (c : Bool) → is_sign b ≡ c → is_sign b ≡ false
    by_sign false e = e
    by_sign true e = let no : is_digit Dec b ≡ false = at_bytes (λ (x : ℕ). is_digit Dec x ≡ false) b 43 45 e refl refl in cc

separator_is_no_decimal : (r : Radix) (b : ℕ) → is_separator r b ≡ true → is_digit Dec b ≡ false
separator_is_no_decimal Bin b h = ⊎_elim (λ e. at_three (λ (x : ℕ). is_digit Dec x ≡ false) b 101 69 64 e refl refl refl) (λ e. at_bytes (λ (x : ℕ). is_digit Dec x ≡ false) b 112 80 e refl refl) (or_cases (is_radix_separator Bin b) (is_two_separator Bin b) h)
separator_is_no_decimal Oct b h = ⊎_elim (λ e. at_three (λ (x : ℕ). is_digit Dec x ≡ false) b 101 69 64 e refl refl refl) (λ e. at_bytes (λ (x : ℕ). is_digit Dec x ≡ false) b 112 80 e refl refl) (or_cases (is_radix_separator Oct b) (is_two_separator Oct b) h)
separator_is_no_decimal Dec b h = ⊎_elim (λ e. at_three (λ (x : ℕ). is_digit Dec x ≡ false) b 101 69 64 e refl refl refl) (λ (e : IsTrue false). cc) (or_cases (is_radix_separator Dec b) (is_two_separator Dec b) h)
separator_is_no_decimal Hex b h = ⊎_elim (λ e. at_byte (λ (x : ℕ). is_digit Dec x ≡ false) b 64 e refl) (λ e. at_bytes (λ (x : ℕ). is_digit Dec x ≡ false) b 112 80 e refl refl) (or_cases (is_radix_separator Hex b) (is_two_separator Hex b) h)

decimal_is_no_separator : (r : Radix) (b : ℕ) → is_digit Dec b ≡ true → is_separator r b ≡ false
decimal_is_no_separator r b d = by_test (is_separator r b) refl
  where
    by_test : (c : Bool) → is_separator r b ≡ c → is_separator r b ≡ false
    by_test false e = e
    by_test true e = let no = separator_is_no_decimal r b e in cc

pub exponent_overflow : (r : Radix) (st : State) (b m : ℕ) (bs : List ℕ) (s : Option ℕ) (w : List ℕ) (f : Option (List ℕ)) (x : Option Exponent) → HasParts r bs (parts s w f x) → Agrees r st (parts s w f x) → st.has_separator ≡ true → is_digit Dec b ≡ true → m ≡ st.magnitude * 10 + (b - 48) → max_magnitude st.exponent_negative < m → CannotExtend r bs (parts s w f x) b ExpOverflow
exponent_overflow r st b m bs s w f None h a ns d e l = let clash = a.separator in absurd (cc)
exponent_overflow r st b m bs s w f (Some e) h a ns d is l =
    let value : digits_value 10 (e.digits ++ b ∷ []) ≡ m = digits_value_push 10 e.digits b ∙ omega (arith, decimal_digit b d, a.exponent.2) in
    let out : is_in_range e.sign (digits_value 10 (e.digits ++ b ∷ [])) ≡ false = rw (value, ← a.exponent.1) (too_much st.exponent_negative m l) in
    record {
      none = stuck r bs _ b h (rw (d, out) refl);
      is_kind = rw (decimal_is_no_sign b d, decimal_is_no_separator r b d, d) refl;
    }

pub after_sign : (r : Radix) (st : State) (b : ℕ) (bs : List ℕ) (s : Option ℕ) (w : List ℕ) (f : Option (List ℕ)) (x : Option Exponent) → HasParts r bs (parts s w f x) → Agrees r st (parts s w f x) → st.has_separator ≡ true → st.magnitude ≤ max_magnitude true → is_sign b ≡ true → st.sign_allowed ≡ true → Extends r bs b (record st { sign_allowed = false; exponent_negative = b == minus })
after_sign r st b bs s w f None h a ns m d fr = let clash = a.separator in absurd (cc)
after_sign r st b bs s w f (Some e) h a ns m d fr = opened e.separator e.sign e.digits h a
  where
    opened : (k : ℕ) (t : Option ℕ) (ds : List ℕ) → HasParts r bs (parts s w f (Some (exponent k t ds))) → Agrees r st (parts s w f (Some (exponent k t ds))) → Extends r bs b (record st { sign_allowed = false; exponent_negative = b == minus })
    opened k (Some c) ds h a = let clash = a.fresh in absurd (cc)
    opened k None (y ∷ ds) h a = let clash = a.fresh in absurd (cc)
    opened k None [] h a = record {
      parts = parts s w f (Some (exponent k (Some b) []));
      beginning = more_exponent_sign r bs s w f k b d h;
      agrees = record { neg = a.neg; start = a.start; whole = a.whole; point = a.point; fraction = a.fraction; separator = a.separator; fresh = refl; exponent = (a.exponent.0, refl, a.exponent.2); counted = a.counted };
      room = m;
    }

sign_is_no_decimal : (b : ℕ) → is_sign b ≡ true → is_digit Dec b ≡ false
sign_is_no_decimal b d = at_bytes (λ (x : ℕ). is_digit Dec x ≡ false) b 43 45 d refl refl

pub second_sign_after : (r : Radix) (st : State) (b : ℕ) (bs : List ℕ) (s : Option ℕ) (w : List ℕ) (f : Option (List ℕ)) (x : Option Exponent) → HasParts r bs (parts s w f x) → Agrees r st (parts s w f x) → st.has_separator ≡ true → is_sign b ≡ true → st.sign_allowed ≡ false → CannotExtend r bs (parts s w f x) b MisplacedSign
second_sign_after r st b bs s w f None h a ns d nf = let clash = a.separator in absurd (cc)
second_sign_after r st b bs s w f (Some e) h a ns d nf =
    let off : (is_none e.sign && is_nil e.digits) ≡ false = sym a.fresh ∙ nf in
    record {
      none = stuck r bs _ b h (rw (sign_is_no_decimal b d, d, off) refl);
      is_kind = rw d refl;
    }

pub second_separator : (r : Radix) (st : State) (b : ℕ) (bs : List ℕ) (s : Option ℕ) (w : List ℕ) (f : Option (List ℕ)) (x : Option Exponent) → HasParts r bs (parts s w f x) → Agrees r st (parts s w f x) → st.has_separator ≡ true → is_sign b ≡ false → is_separator r b ≡ true → CannotExtend r bs (parts s w f x) b TooManyExp
second_separator r st b bs s w f None h a ns d k = let clash = a.separator in absurd (cc)
second_separator r st b bs s w f (Some e) h a ns d k = record {
  none = stuck r bs _ b h (rw (separator_is_no_decimal r b k, d) refl);
  is_kind = rw (d, k) refl;
}

pub other_after : (r : Radix) (st : State) (b : ℕ) (bs : List ℕ) (s : Option ℕ) (w : List ℕ) (f : Option (List ℕ)) (x : Option Exponent) → HasParts r bs (parts s w f x) → Agrees r st (parts s w f x) → st.has_separator ≡ true → is_digit Dec b ≡ false → is_sign b ≡ false → is_separator r b ≡ false → CannotExtend r bs (parts s w f x) b ExpInvalidDigit
other_after r st b bs s w f None h a ns nd d k = let clash = a.separator in absurd (cc)
other_after r st b bs s w f (Some e) h a ns nd d k = record {
  none = stuck r bs _ b h (rw (nd, d) refl);
  is_kind = rw (d, k, nd) refl;
}

-- ---- the whole scan

pub after_nothing : (r : Radix) → IsAfter r [] (record { negative = false; sign_len = 0; whole_len = 0; has_point = false; fraction_len = 0; has_separator = false; scales_by_two = false; sign_allowed = true; exponent_negative = false; magnitude = 0; has_exponent_digit = false })
after_nothing r = record {
  parts = parts None [] None None;
  beginning = record { parts = record { sign = tt; whole = tt; fraction = tt; exponent = tt }; text = refl };
  agrees = record { neg = refl; start = refl; whole = refl; point = refl; fraction = refl; separator = refl; fresh = refl; exponent = (refl, refl, refl); counted = tt };
  room = omega arith;
}

pub after_more : (r : Radix) (bs : List ℕ) (i : ℕ) (st : State) → i < length bs → Extends r (take i bs) (get_or bs i 0) st → IsAfter r (take (i + 1) bs) st
after_more r bs i st l g = rw (take_more bs i 0 l) g

pub prefix_stuck : (Begins : List ℕ → Type 0) → ((xs ys : List ℕ) → Begins (xs ++ ys) → Begins xs) → (bs : List ℕ) (n : ℕ) → n < length bs → (Begins (take n bs ++ get_or bs n 0 ∷ []) → ⊥) → (m : ℕ) → Begins (take m bs) → m ≤ n
prefix_stuck Begins shorter bs n l refuses m h = ⊎_elim (λ more. absurd (refuses (
    let cut : take (n + 1) (take m bs) ++ drop (n + 1) (take m bs) ≡ take m bs = take-append-drop (n + 1) (take m bs) in
    let first : take (n + 1) (take m bs) ≡ take (n + 1) bs = take-take (n + 1) m bs (omega arith) in
    let initial : Begins (take (n + 1) (take m bs)) = shorter (take (n + 1) (take m bs)) (drop (n + 1) (take m bs)) (rw cut h) in
    rw (first, take_more bs n 0 l) at initial))) (λ less. less) (cases_lt n m)

pub stuck_no_numeral : (r : Radix) (bs : List ℕ) (n : ℕ) (p : Parts) (kind : ParseErrorKind) → n < length bs → CannotExtend r (take n bs) p (get_or bs n 0) kind → IsNumeral r bs → ⊥
stuck_no_numeral r bs n p kind l g (q, h) =
    omega (arith, prefix_stuck (IsBeginning r) (beginning_prefix r) bs n l g.none (length bs) (q, rw (take_all (length bs) bs (omega arith)) h.beginning))

pub stuck_cause : (r : Radix) (bs : List ℕ) (n : ℕ) (p : Parts) (kind : ParseErrorKind) → n < length bs → HasParts r (take n bs) p → CannotExtend r (take n bs) p (get_or bs n 0) kind → HasCause r bs kind
stuck_cause r bs n p kind l h g = record {
  none = stuck_no_numeral r bs n p kind l g;
  count = n;
  parts = p;
  prefix = record { within = omega arith; beginning = h; longest = λ m ml b. prefix_stuck (IsBeginning r) (beginning_prefix r) bs n l g.none m b };
  is_kind = rw (slice_get-get_or bs n 0 l) g.is_kind;
}

-- ---- at the end

pub slice_get_past : (bs : List ℕ) → slice_get bs (length bs) ≡ None
slice_get_past [] = refl
slice_get_past (b ∷ bs) = slice_get_past bs

pub end_cause : (r : Radix) (bs : List ℕ) (p : Parts) (kind : ParseErrorKind) → HasParts r bs p → kind ≡ kind_of r p None → (IsNumeral r bs → ⊥) → HasCause r bs kind
end_cause r bs p kind h k none = record {
  none = none;
  count = length bs;
  parts = p;
  prefix = record { within = omega arith; beginning = rw (take_all (length bs) bs (omega arith)) h; longest = λ m ml b. ml };
  is_kind = rw (slice_get_past bs) k;
}

pub nil_length : (ds : List ℕ) → 0 < length ds → is_nil ds ≡ false
nil_length [] h = absurd (omega arith)
nil_length (d ∷ ds) h = refl

pub length_nil : (ds : List ℕ) → is_nil ds ≡ false → 0 < length ds
length_nil [] h = absurd (cc)
length_nil (d ∷ ds) h = omega arith

pub not_both : (c : Bool) → false ≡ not c → c ≡ true
not_both true e = refl
not_both false e = e

not_both_true : (c : Bool) → true ≡ not c → c ≡ false
not_both_true true e = e
not_both_true false e = refl

pub nil_by_length : (ds : List ℕ) → length ds ≡ 0 → is_nil ds ≡ true
nil_by_length [] h = refl
nil_by_length (d ∷ ds) h = absurd (omega arith)

pub mantissa_length : (p : Parts) → length (mantissa p) ≡ length p.whole + length (fractional_digits p.fraction)
mantissa_length p = length-append p.whole (fractional_digits p.fraction)

pub no_digits : (r : Radix) (bs : List ℕ) (st : State) → IsAfter r bs st → st.whole_len ≡ 0 → st.fraction_len ≡ 0 → HasCause r bs NoDigits
no_digits r bs st a ew ef =
    let nil : is_nil (mantissa a.parts) ≡ true = nil_by_length _ (omega (arith, mantissa_length a.parts, a.agrees.whole, a.agrees.fraction)) in
    end_cause r bs a.parts NoDigits a.beginning (rw nil refl) (
    λ (q, h). let same = parts_unique r bs a.parts q a.beginning h.beginning in
    let some = nil_length (mantissa q) h.mantissa in
    cc)

at_exponent : (r : Radix) (bs : List ℕ) (st : State) (s : Option ℕ) (w : List ℕ) (f : Option (List ℕ)) (x : Option Exponent) → HasParts r bs (parts s w f x) → Agrees r st (parts s w f x) → 0 < st.whole_len + st.fraction_len → st.has_separator ≡ true → st.has_exponent_digit ≡ false → HasCause r bs ExpNoDigits
at_exponent r bs st s w f None h a m k e = let clash = a.separator in absurd (cc)
at_exponent r bs st s w f (Some y) h a m k e =
    let some : is_nil (mantissa (parts s w f (Some y))) ≡ false = nil_length _ (omega (arith, mantissa_length (parts s w f (Some y)), a.whole, a.fraction)) in
    let none : HasNumeral r bs (parts s w f (Some y)) → ⊥ = λ g. let there = nil_length y.digits g.exponent in cc in
    end_cause r bs (parts s w f (Some y)) ExpNoDigits h (rw some refl) (λ (q, g). let same = parts_unique r bs (parts s w f (Some y)) q h g.beginning in none (rw same g))

pub exponent_no_digits : (r : Radix) (bs : List ℕ) (st : State) → IsAfter r bs st → 0 < st.whole_len + st.fraction_len → st.has_separator ≡ true → st.has_exponent_digit ≡ false → HasCause r bs ExpNoDigits
exponent_no_digits r bs st a m k e = at_exponent r bs st a.parts.sign a.parts.whole a.parts.fraction a.parts.exponent a.beginning a.agrees m k e

pub counted_at : (r : Radix) (st : State) (s : Option ℕ) (w : List ℕ) (f : Option (List ℕ)) (x : Option Exponent) → Agrees r st (parts s w f x) → (st.has_separator ≡ false) ⊎ (st.has_exponent_digit ≡ true) → IfSome x (λ e. 0 < length e.digits)
counted_at r st s w f None a h = tt
counted_at r st s w f (Some y) a h = length_nil y.digits (⊎_elim (λ k. let clash = a.separator in absurd (cc)) (λ k. not_both_true _ (sym k ∙ a.counted)) h)

pub has_numeral : (r : Radix) (bs : List ℕ) (st : State) (a : IsAfter r bs st) → 0 < st.whole_len + st.fraction_len → (st.has_separator ≡ false) ⊎ (st.has_exponent_digit ≡ true) → HasNumeral r bs a.parts
has_numeral r bs st a m k = record {
  beginning = a.beginning;
  mantissa = omega (arith, mantissa_length a.parts, a.agrees.whole, a.agrees.fraction);
  exponent = counted_at r st a.parts.sign a.parts.whole a.parts.fraction a.parts.exponent a.agrees k;
}

pub is_off : (c : Bool) → not c ≡ true → c ≡ false
is_off true e = sym e
is_off false e = refl

pub is_on : (c : Bool) → not c ≡ false → c ≡ true
is_on true e = refl
is_on false e = sym e

-- ---- the parts as slices of the text
text_length : (r : Radix) (bs : List ℕ) (s : Option ℕ) (w : List ℕ) (f : Option (List ℕ)) (x : Option Exponent) → HasParts r bs (parts s w f x) → length (option_to_list s) + length w + length (fraction_text f) ≤ length bs
text_length r bs s w f x h = omega (arith, ap length h.text, length-append (option_to_list s) (w ++ (fraction_text f ++ exponent_text x)), length-append w (fraction_text f ++ exponent_text x), length-append (fraction_text f) (exponent_text x))

pub whole_fits : (r : Radix) (bs : List ℕ) (st : State) → IsAfter r bs st → st.sign_len + st.whole_len + st.fraction_len ≤ length bs
whole_fits r bs st a = at_fraction a.parts.fraction (a.agrees.start) (a.agrees.whole) a.agrees.fraction (text_length r bs a.parts.sign a.parts.whole a.parts.fraction a.parts.exponent a.beginning)
  where
    at_fraction : {n m k i j l : ℕ} (f : Option (List ℕ)) → i ≡ n → j ≡ m → l ≡ length (fractional_digits f) → n + m + length (fraction_text f) ≤ k → i + j + l ≤ k
    at_fraction None p q t h = omega arith
    at_fraction (Some ds) p q t h = omega arith

pub whole_is : (r : Radix) (bs : List ℕ) (st : State) (a : IsAfter r bs st) → take st.whole_len (drop st.sign_len bs) ≡ a.parts.whole
whole_is r bs st a =
    let rest : drop st.sign_len bs ≡ a.parts.whole ++ (fraction_text a.parts.fraction ++ exponent_text a.parts.exponent) = ap (drop st.sign_len) a.beginning.text ∙ drop_at (option_to_list a.parts.sign) (a.parts.whole ++ (fraction_text a.parts.fraction ++ exponent_text a.parts.exponent)) st.sign_len (sym a.agrees.start) in
    ap (take st.whole_len) rest ∙ take_at a.parts.whole (fraction_text a.parts.fraction ++ exponent_text a.parts.exponent) st.whole_len (sym a.agrees.whole)

pub fraction_is : (r : Radix) (bs : List ℕ) (st : State) (a : IsAfter r bs st) → take st.fraction_len (drop (st.sign_len + st.whole_len + 1) bs) ≡ fractional_digits a.parts.fraction
fraction_is r bs st a =
    let initial : bs ≡ (option_to_list a.parts.sign ++ a.parts.whole) ++ (fraction_text a.parts.fraction ++ exponent_text a.parts.exponent) = a.beginning.text ∙ sym (append_assoc (option_to_list a.parts.sign) a.parts.whole (fraction_text a.parts.fraction ++ exponent_text a.parts.exponent)) in
    let count : length (option_to_list a.parts.sign ++ a.parts.whole) ≡ st.sign_len + st.whole_len = length-append (option_to_list a.parts.sign) a.parts.whole ∙ omega (arith, a.agrees.start, a.agrees.whole) in
    at_fraction (option_to_list a.parts.sign ++ a.parts.whole) a.parts.fraction (exponent_text a.parts.exponent) (st.sign_len + st.whole_len) st.fraction_len bs initial count a.agrees.fraction
  where
    at_fraction : (xs : List ℕ) (f : Option (List ℕ)) (ys : List ℕ) (n l : ℕ) (bs : List ℕ) → bs ≡ xs ++ (fraction_text f ++ ys) → length xs ≡ n → l ≡ length (fractional_digits f) → take l (drop (n + 1) bs) ≡ fractional_digits f
    at_fraction xs None ys n l bs e c k = rw k refl
    at_fraction xs (Some ds) ys n l bs e c k =
        let e' : bs ≡ (xs ++ 46 ∷ []) ++ (ds ++ ys) = e ∙ sym (append_assoc xs (46 ∷ []) (ds ++ ys)) in
        let c' : length (xs ++ 46 ∷ []) ≡ n + 1 = length_push xs 46 ∙ omega arith in
        ap (λ zs. take l (drop (n + 1) zs)) e' ∙ ap (take l) (drop_at (xs ++ 46 ∷ []) (ds ++ ys) (n + 1) c') ∙ take_at ds ys l (sym k)

-- ---- restated for the goals
pub whole_digits : (r : Radix) (bs ds : List ℕ) (st : State) (a : IsAfter r bs st) → ds ≡ take st.whole_len (drop st.sign_len bs) → digits_in ds ≡ digits_in a.parts.whole
whole_digits r bs ds st a e = ap digits_in (e ∙ whole_is r bs st a)

pub fraction_digits : (r : Radix) (bs ds : List ℕ) (st : State) (a : IsAfter r bs st) → ds ≡ take st.fraction_len (drop (st.sign_len + st.whole_len + 1) bs) → digits_in ds ≡ digits_in (fractional_digits a.parts.fraction)
fraction_digits r bs ds st a e = ap digits_in (e ∙ fraction_is r bs st a)

pub whole_counted : (r : Radix) (bs ds : List ℕ) (st : State) (a : IsAfter r bs st) → ds ≡ take st.whole_len (drop st.sign_len bs) → st.whole_len ≡ length (digits_in ds)
whole_counted r bs ds st a e = a.agrees.whole ∙ sym (whole_count r a.parts a.beginning.parts) ∙ sym (ap length (whole_digits r bs ds st a e))

pub fraction_counted : (r : Radix) (bs ds : List ℕ) (st : State) (a : IsAfter r bs st) → ds ≡ take st.fraction_len (drop (st.sign_len + st.whole_len + 1) bs) → st.fraction_len ≡ length (digits_in ds)
fraction_counted r bs ds st a e = a.agrees.fraction ∙ sym (after_count r a.parts a.beginning.parts) ∙ sym (ap length (fraction_digits r bs ds st a e))

pub is_scanned : (r : Radix) (bs : List ℕ) (p : Parts) (st : State) (a : IsAfter r bs st) (neg : Bool) (whole fraction : List ℕ) (bits : ℕ) → HasParts r bs p → IsScanned r a.parts neg whole fraction bits → IsScanned r p neg whole fraction bits
is_scanned r bs p st a neg whole fraction bits n h = let same = parts_unique r bs p a.parts n a.beginning in rw same h

-- ---- digits from an index on
pub run_more : (b : ℕ) (bs : List ℕ) (from at : ℕ) → IsRun b bs from at → at < length bs → digit_value (get_or bs at 0) < b → IsRun b bs from (at + 1)
run_more b bs from at h l d =
    let e : at + 1 - from ≡ at - from + 1 = omega (arith, h.prefix) in
    let there : from + (at - from) ≡ at = omega (arith, h.prefix) in
    let same : get_or (drop from bs) (at - from) 0 ≡ get_or bs at 0 = get_or-drop from bs (at - from) 0 ∙ ap (λ i. get_or bs i 0) there in
    record { prefix = omega (arith, h.prefix); within = omega arith; digits = rw e (digits_more b (drop from bs) (at - from) (omega (arith, length-drop from bs, h.prefix)) h.digits (rw same d)) }

-- several more digits
pub run_on : (b : ℕ) (bs : List ℕ) (from at n : ℕ) → IsRun b bs from at → at + n ≤ length bs → AllDigits b (take n (drop at bs)) → IsRun b bs from (at + n)
run_on b bs from at n h l d =
    let e : at + n - from ≡ at - from + n = omega (arith, h.prefix) in
    let there : from + (at - from) ≡ at = omega (arith, h.prefix) in
    let next : take n (drop (at - from) (drop from bs)) ≡ take n (drop at bs) = ap (take n) (drop-drop (at - from) from bs ∙ ap (λ i. drop i bs) there) in
    record { prefix = omega (arith, h.prefix); within = l; digits = rw (e, take-add (at - from) n (drop from bs), next) (digits_append b (take (at - from) (drop from bs)) (take n (drop at bs)) h.digits d) }

-- a byte less than n after '0' is a digit below n
pub low_digit : (b n : ℕ) → b < 256 → n ≤ 10 → (b + (256 - 48)) % 256 < n → digit_value b < n
low_digit b n h s l = ⊎_elim (λ (k : b < 48). absurd (omega arith)) (λ (k : 48 ≤ b). near_zero b n s k (omega arith)) (cases_lt b 48)

-- ---- what the loop keeps true
pub record IsRead (r : Radix) (bs : List ℕ) (at : ℕ) (st : State) (old new : ℕ) : Type 0 where
  pub within : at ≤ length bs
  pub after : IsAfter r (take at bs) st
  pub cost : new ≡ old + at

pub read_digits : (r : Radix) (bs : List ℕ) (at n : ℕ) (st next : State) (old now new : ℕ) → IsRead r bs at st old now → at + n ≤ length bs → AllDigits (base r) (take n (drop at bs)) → new ≡ now + n → ((r' : Radix) (xs ds : List ℕ) → IsAfter r' xs st → AllDigits (base r') ds → length ds ≡ n → IsAfter r' (xs ++ ds) next) → IsRead r bs (at + n) next old new
read_digits r bs at n st next old now new h l d e p = record {
  within = l;
  after = rw (take-add at n bs) (p r (take at bs) (take n (drop at bs)) h.after d (length-take n (drop at bs) ∙ omega (arith, length-drop at bs)));
  cost = omega (arith, e, h.cost);
}

pub read_byte : (r : Radix) (bs : List ℕ) (at : ℕ) (st next : State) (old now new : ℕ) → IsRead r bs at st old now → at < length bs → Extends r (take at bs) (get_or bs at 0) next → new ≡ now + 1 → IsRead r bs (at + 1) next old new
read_byte r bs at st next old now new h l g e = record { within = omega arith; after = after_more r bs at next l g; cost = omega (arith, e, h.cost) }

pub room_after : (r : Radix) (bs : List ℕ) (at n : ℕ) (st : State) (old now : ℕ) → IsRead r bs at st old now → at + n ≤ length bs → st.whole_len + st.fraction_len + n ≤ length bs
room_after r bs at n st old now h l = omega (arith, whole_fits r (take at bs) st h.after, length-take at bs)

-- ---- at the end of the text
pub incomplete_cause : (r : Radix) (bs : List ℕ) (st : State) (kind : ParseErrorKind) → IsAfter r bs st → IsIncomplete st kind → HasCause r bs kind
incomplete_cause r bs st kind a i = ⊎_elim
    (λ (t : (st.whole_len + st.fraction_len ≡ 0) × (kind ≡ NoDigits)). rw t.1 (no_digits r bs st a (omega (arith, t.0)) (omega (arith, t.0))))
    (λ (t : (0 < st.whole_len + st.fraction_len) × (st.has_separator ≡ true) × (st.has_exponent_digit ≡ false) × (kind ≡ ExpNoDigits)). rw t.3 (exponent_no_digits r bs st a t.0 t.1 t.2))
    i

-- the kind of an incomplete state is the one that its parts give at the end of the text
pub kind_at_end : (r : Radix) (bs : List ℕ) (st : State) (kind : ParseErrorKind) (a : IsAfter r bs st) → IsIncomplete st kind → kind ≡ kind_of r a.parts None
kind_at_end r bs st kind a i = ⊎_elim
    (λ (t : (st.whole_len + st.fraction_len ≡ 0) × (kind ≡ NoDigits)).
    let nil : is_nil (mantissa a.parts) ≡ true = nil_by_length _ (omega (arith, mantissa_length a.parts, a.agrees.whole, a.agrees.fraction, t.0)) in
    rw (t.1, nil) refl)
    (λ (t : (0 < st.whole_len + st.fraction_len) × (st.has_separator ≡ true) × (st.has_exponent_digit ≡ false) × (kind ≡ ExpNoDigits)).
    let some : is_nil (mantissa a.parts) ≡ false = nil_length _ (omega (arith, mantissa_length a.parts, a.agrees.whole, a.agrees.fraction, t.0)) in
    rw (t.3, some) refl)
    i

-- the state after some more digits
pub ruleset passed = (passed_none, passed_whole, passed_fraction)
