-- Numerals byte by byte: which byte may come next, and that the bytes determine the parts.
use Rattle.std.proofs.Common.{◌≡◌, ℕ, ◌+◌, ◌*◌, ◌^◌, ◌<◌, ◌≤◌, ◌⊎◌, Bool, true, false, cond, ◌&&◌, ◌||◌, nat_lt, ◌==◌, IsTrue, List, [], ◌∷◌, ◌++◌, Option, Some, None, IfSome, is_none, option_to_list, option_and_then, pos, neg_ℤ, FitsSigned, refl, sym, ◌∙◌, inl, inr, ⊎_elim, arith, w32, append_assoc, append-nil}
use Rattle.std.specs.Char.{digit_value}
use Rattle.std.specs.Str.Parse.{AllDigits, digits_value}
use Rattle.fixed_numeral.specs.declared.radix.Radix.{Radix}
use Rattle.fixed_numeral.specs.declared.radix.Radix.TheVariants.{Bin, Oct, Dec, Hex}
use Rattle.fixed_numeral.specs.Numeral.{Parts, Exponent, IsPartsOf, IsExponentOf, HasParts, IsBeginning, is_sign, is_separator, is_radix_separator, is_two_separator, is_minus, point, text_of, base, fraction_text, exponent_text, signed}
use Rattle.fixed_numeral.specs.Cause.{is_nil}
use Rattle.std.proofs.lemmas.Int.{ints}
use Rattle.std.proofs.lemmas.Int.Digits.{digits_push}
use Rattle.std.specs.Str.Parse.{digits_value_after}
use Rattle.std.proofs.Common.{subst, lt-ltb, eqb-true, ltb-true, le_refl}

abbrev pub is_digit : Radix → ℕ → Bool
is_digit r b = nat_lt (digit_value b) (base r)

-- the number fits i32 with this sign
abbrev pub is_in_range : Option ℕ → ℕ → Bool
is_in_range s n = cond (is_minus s) (nat_lt n (2 ^ 31 + 1)) (nat_lt n (2 ^ 31))

abbrev pub exponent : ℕ → Option ℕ → List ℕ → Exponent
exponent k s ds = record { separator = k; sign = s; digits = ds }

abbrev pub parts : Option ℕ → List ℕ → Option (List ℕ) → Option Exponent → Parts
parts s w f x = record { sign = s; whole = w; fraction = f; exponent = x }

abbrev pub with_exponent : Option ℕ → List ℕ → Option (List ℕ) → Exponent → Option Parts
with_exponent s w f e = Some (parts s w f (Some e))

-- the parts with one more byte of the exponent, if it may stand there
abbrev pub step_exponent : Option ℕ → List ℕ → Option (List ℕ) → ℕ → Option ℕ → List ℕ → ℕ → Option Parts
step_exponent s w f k t ds b =
    cond (is_digit Dec b)
    (cond (is_in_range t (digits_value 10 (ds ++ b ∷ []))) (with_exponent s w f (exponent k t (ds ++ b ∷ []))) None)
    (cond (is_sign b && (is_none t && is_nil ds)) (with_exponent s w f (exponent k (Some b) [])) None)

abbrev pub step_at : Radix → Option ℕ → List ℕ → Option (List ℕ) → Option Exponent → ℕ → Option Parts
step_at r s w f (Some e) b = step_exponent s w f e.separator e.sign e.digits b
step_at r s w (Some ds) None b =
    cond (is_digit r b) (Some (parts s w (Some (ds ++ b ∷ [])) None))
    (cond (is_separator r b) (with_exponent s w (Some ds) (exponent b None [])) None)
step_at r s w None None b =
    cond (is_digit r b) (Some (parts s (w ++ b ∷ []) None None))
    (cond (is_separator r b) (with_exponent s w None (exponent b None []))
    (cond (b == point) (Some (parts s w (Some []) None))
    (cond (is_sign b && (is_none s && is_nil w)) (Some (parts (Some b) [] None None)) None)))

abbrev pub step : Radix → Parts → ℕ → Option Parts
step r p b = step_at r p.sign p.whole p.fraction p.exponent b

abbrev pub run : Radix → Parts → List ℕ → Option Parts
run r p [] = Some p
run r p (b ∷ bs) = option_and_then (λ q. run r q bs) (step r p b)

abbrev pub nothing : Parts
nothing = parts None [] None None

and_then_twice : (r : Radix) (xs ys : List ℕ) → ((q : Parts) → run r q (xs ++ ys) ≡ option_and_then (λ q'. run r q' ys) (run r q xs)) → (o : Option Parts) → option_and_then (λ q. run r q (xs ++ ys)) o ≡ option_and_then (λ q. run r q ys) (option_and_then (λ q. run r q xs) o)
and_then_twice r xs ys each None = refl
and_then_twice r xs ys each (Some q) = each q

run_append : (r : Radix) (p : Parts) (xs ys : List ℕ) → run r p (xs ++ ys) ≡ option_and_then (λ q. run r q ys) (run r p xs)
run_append r p [] ys = refl
run_append r p (x ∷ xs) ys = and_then_twice r xs ys (λ q. run_append r q xs ys) (step r p x)

-- ---- digits, separators, signs and the point exclude each other

pub or_cases : (x y : Bool) → IsTrue (x || y) → IsTrue x ⊎ IsTrue y
or_cases true y h = inl refl
or_cases false y h = inr h

pub at_byte : (P : ℕ → Type 0) (b n : ℕ) → IsTrue (b == n) → P n → P b
at_byte P b n h p = subst P (sym (eqb-true b n h)) p

pub at_bytes : (P : ℕ → Type 0) (b m n : ℕ) → IsTrue ((b == m) || (b == n)) → P m → P n → P b
at_bytes P b m n h p q = ⊎_elim (λ e. at_byte P b m e p) (λ e. at_byte P b n e q) (or_cases (b == m) (b == n) h)

pub at_three : (P : ℕ → Type 0) (b k m n : ℕ) → IsTrue ((b == k) || (b == m) || (b == n)) → P k → P m → P n → P b
at_three P b k m n h o p q = ⊎_elim (λ e. at_bytes P b k m e o p) (λ e. at_byte P b n e q) (or_cases ((b == k) || (b == m)) (b == n) h)

separator_no_digit : (r : Radix) (b : ℕ) → IsTrue (is_separator r b) → is_digit r b ≡ false
separator_no_digit Bin b h = ⊎_elim (λ e. at_three (λ x. is_digit Bin x ≡ false) b 101 69 64 e refl refl refl) (λ e. at_bytes (λ x. is_digit Bin x ≡ false) b 112 80 e refl refl) (or_cases (is_radix_separator Bin b) (is_two_separator Bin b) h)
separator_no_digit Oct b h = ⊎_elim (λ e. at_three (λ x. is_digit Oct x ≡ false) b 101 69 64 e refl refl refl) (λ e. at_bytes (λ x. is_digit Oct x ≡ false) b 112 80 e refl refl) (or_cases (is_radix_separator Oct b) (is_two_separator Oct b) h)
separator_no_digit Dec b h = ⊎_elim (λ e. at_three (λ x. is_digit Dec x ≡ false) b 101 69 64 e refl refl refl) (λ (e : IsTrue false). cc) (or_cases (is_radix_separator Dec b) (is_two_separator Dec b) h)
separator_no_digit Hex b h = ⊎_elim (λ e. at_byte (λ x. is_digit Hex x ≡ false) b 64 e refl) (λ e. at_bytes (λ x. is_digit Hex x ≡ false) b 112 80 e refl refl) (or_cases (is_radix_separator Hex b) (is_two_separator Hex b) h)

record IsPlainSign (r : Radix) (b : ℕ) : Type 0 where
  no_digit : is_digit r b ≡ false
  no_separator : is_separator r b ≡ false
  no_point : (b == point) ≡ false

plain_sign : (r : Radix) (b : ℕ) → IsTrue (is_sign b) → IsPlainSign r b
plain_sign Bin b h = at_bytes (IsPlainSign Bin) b 43 45 h (record { no_digit = refl; no_separator = refl; no_point = refl }) (record { no_digit = refl; no_separator = refl; no_point = refl })
plain_sign r b h = at_bytes (IsPlainSign r) b 43 45 h (record { no_digit = refl; no_separator = refl; no_point = refl }) (record { no_digit = refl; no_separator = refl; no_point = refl })

point_is_none : (r : Radix) → (is_digit r point ≡ false) × (is_separator r point ≡ false)
point_is_none Bin = (refl, refl)
point_is_none r = (refl, refl)

digit_true : (r : Radix) (d : ℕ) → digit_value d < base r → is_digit r d ≡ true
digit_true r d h = lt-ltb _ _ h

-- ---- the parts are read back from their text

run_whole : (r : Radix) (s : Option ℕ) (w ds ys : List ℕ) → AllDigits (base r) ds → run r (parts s w None None) (ds ++ ys) ≡ run r (parts s (w ++ ds) None None) ys
run_whole r s w [] ys h = rw (append-nil w) refl
run_whole r s w (d ∷ ds) ys h =
    rw (digit_true r d h.0) (run_whole r s (w ++ d ∷ []) ds ys h.1 ∙ rw (append_assoc w (d ∷ []) ds) refl)

run_fraction : (r : Radix) (s : Option ℕ) (w f ds ys : List ℕ) → AllDigits (base r) ds → run r (parts s w (Some f) None) (ds ++ ys) ≡ run r (parts s w (Some (f ++ ds)) None) ys
run_fraction r s w f [] ys h = rw (append-nil f) refl
run_fraction r s w f (d ∷ ds) ys h =
    rw (digit_true r d h.0) (run_fraction r s w (f ++ d ∷ []) ds ys h.1 ∙ rw (append_assoc f (d ∷ []) ds) refl)

value_after_append : (n : ℕ) (xs ys : List ℕ) → digits_value_after 10 n (xs ++ ys) ≡ digits_value_after 10 (digits_value_after 10 n xs) ys
value_after_append n [] ys = refl
value_after_append n (x ∷ xs) ys = value_after_append (n * 10 + digit_value x) xs ys

value_after_ge : (n : ℕ) (ys : List ℕ) → n ≤ digits_value_after 10 n ys
value_after_ge n [] = le_refl n
value_after_ge n (y ∷ ys) = omega (arith, value_after_ge (n * 10 + digit_value y) ys)

value_prefix : (xs ys : List ℕ) → digits_value 10 xs ≤ digits_value 10 (xs ++ ys)
value_prefix xs ys = omega (arith, value_after_append 0 xs ys, value_after_ge (digits_value 10 xs) ys)

in_range_prefix : (t : Option ℕ) (m n : ℕ) → m ≤ n → is_in_range t n ≡ true → is_in_range t m ≡ true
in_range_prefix t m n l h = initial (is_minus t) h
  where
    initial : (c : Bool) → cond c (nat_lt n (2 ^ 31 + 1)) (nat_lt n (2 ^ 31)) ≡ true → cond c (nat_lt m (2 ^ 31 + 1)) (nat_lt m (2 ^ 31)) ≡ true
    initial true h = lt-ltb _ _ (omega (arith, ltb-true _ _ h))
    initial false h = lt-ltb _ _ (omega (arith, ltb-true _ _ h))

run_exponent : (r : Radix) (s : Option ℕ) (w : List ℕ) (f : Option (List ℕ)) (k : ℕ) (t : Option ℕ) (es ds : List ℕ) → AllDigits 10 ds → is_in_range t (digits_value 10 (es ++ ds)) ≡ true → run r (parts s w f (Some (exponent k t es))) ds ≡ Some (parts s w f (Some (exponent k t (es ++ ds))))
run_exponent r s w f k t es [] h i = rw (append-nil es) refl
run_exponent r s w f k t es (d ∷ ds) h i =
    let whole : (es ++ d ∷ []) ++ ds ≡ es ++ d ∷ ds = append_assoc es (d ∷ []) ds in
    let i' : is_in_range t (digits_value 10 ((es ++ d ∷ []) ++ ds)) ≡ true = rw whole i in
    let fits : is_in_range t (digits_value 10 (es ++ d ∷ [])) ≡ true = in_range_prefix t _ _ (value_prefix (es ++ d ∷ []) ds) i' in
    rw (digit_true Dec d h.0, fits) (run_exponent r s w f k t (es ++ d ∷ []) ds h.1 i' ∙ rw whole refl)

in_range_from_fits : (t : Option ℕ) (n : ℕ) → FitsSigned w32 (signed t n) → is_in_range t n ≡ true
in_range_from_fits t n h = by_sign (is_minus t) h
  where
    by_sign : (c : Bool) → FitsSigned w32 (cond c (neg_ℤ (pos n)) (pos n)) → cond c (nat_lt n (2 ^ 31 + 1)) (nat_lt n (2 ^ 31)) ≡ true
    by_sign true h = lt-ltb _ _ (omega (arith, ints))
    by_sign false h = lt-ltb _ _ (omega (arith, ints))

run_opened : (r : Radix) (s : Option ℕ) (w : List ℕ) (f : Option (List ℕ)) (k : ℕ) (t : Option ℕ) (ds : List ℕ) → IfSome t (λ b. IsTrue (is_sign b)) → AllDigits 10 ds → is_in_range t (digits_value 10 ds) ≡ true → run r (parts s w f (Some (exponent k None []))) (option_to_list t ++ ds) ≡ Some (parts s w f (Some (exponent k t ds)))
run_opened r s w f k None ds z h i = run_exponent r s w f k None [] ds h i
run_opened r s w f k (Some b) ds z h i =
    rw ((plain_sign Dec b z).no_digit, z) (run_exponent r s w f k (Some b) [] ds h i)

run_end : (r : Radix) (s : Option ℕ) (w : List ℕ) (f : Option (List ℕ)) (x : Option Exponent) → IfSome x (IsExponentOf r) → run r (parts s w f None) (exponent_text x) ≡ Some (parts s w f x)
run_end r s w f None h = refl
run_end r s w None (Some e) h =
    let plain = separator_no_digit r e.separator h.separator in
    let sep : is_separator r e.separator ≡ true = h.separator in
    rw (plain, sep) (run_opened r s w None e.separator e.sign e.digits h.sign h.digits (in_range_from_fits e.sign (digits_value 10 e.digits) h.in_range))
run_end r s w (Some ds) (Some e) h =
    let plain = separator_no_digit r e.separator h.separator in
    let sep : is_separator r e.separator ≡ true = h.separator in
    rw (plain, sep) (run_opened r s w (Some ds) e.separator e.sign e.digits h.sign h.digits (in_range_from_fits e.sign (digits_value 10 e.digits) h.in_range))

run_after : (r : Radix) (s : Option ℕ) (w : List ℕ) (f : Option (List ℕ)) (x : Option Exponent) → IfSome f (AllDigits (base r)) → IfSome x (IsExponentOf r) → run r (parts s w None None) (fraction_text f ++ exponent_text x) ≡ Some (parts s w f x)
run_after r s w None x g h = run_end r s w None x h
run_after r s w (Some ds) x g h =
    rw ((point_is_none r).0, (point_is_none r).1) (run_fraction r s w [] ds (exponent_text x) g ∙ run_end r s w (Some ds) x h)

run_from_sign : (r : Radix) (s : Option ℕ) (ys : List ℕ) → IfSome s (λ b. IsTrue (is_sign b)) → run r nothing (option_to_list s ++ ys) ≡ run r (parts s [] None None) ys
run_from_sign r None ys h = refl
run_from_sign r (Some b) ys h =
    let plain = plain_sign r b h in
    rw (plain.no_digit, plain.no_separator, plain.no_point, h) refl

-- a run over the text of some parts finds them
pub run_text : (r : Radix) (p : Parts) → IsPartsOf r p → run r nothing (text_of p) ≡ Some p
run_text r p h = run_from_sign r p.sign _ h.sign ∙ run_whole r p.sign [] p.whole _ h.whole ∙ run_after r p.sign p.whole p.fraction p.exponent h.fraction h.exponent

-- the bytes determine the parts
pub parts_unique : (r : Radix) (bs : List ℕ) (p q : Parts) → HasParts r bs p → HasParts r bs q → p ≡ q
parts_unique r bs p q g h =
    let a : run r nothing bs ≡ Some p = rw g.text (run_text r p g.parts) in
    let b : run r nothing bs ≡ Some q = rw h.text (run_text r q h.parts) in
    cc

and_then_some : (o : Option Parts) → option_and_then (λ q. Some q) o ≡ o
and_then_some None = refl
and_then_some (Some q) = refl

-- a beginning that is one byte longer is one step further
pub step_from_longer : (r : Radix) (bs : List ℕ) (b : ℕ) (p q : Parts) → HasParts r bs p → HasParts r (bs ++ b ∷ []) q → step r p b ≡ Some q
step_from_longer r bs b p q g h =
    let a : run r nothing bs ≡ Some p = rw g.text (run_text r p g.parts) in
    let c : run r nothing (bs ++ b ∷ []) ≡ Some q = rw h.text (run_text r q h.parts) in
    sym (rw a (and_then_some (step r p b))) ∙ sym (run_append r nothing bs (b ∷ [])) ∙ c

-- ---- one more byte

digits_more_than : (r : Radix) (ds : List ℕ) (b : ℕ) → AllDigits (base r) ds → is_digit r b ≡ true → AllDigits (base r) (ds ++ b ∷ [])
digits_more_than r ds b h d = digits_push (base r) ds b h (ltb-true _ _ d)

pub more_whole : (r : Radix) (bs : List ℕ) (s : Option ℕ) (w : List ℕ) (b : ℕ) → is_digit r b ≡ true → HasParts r bs (parts s w None None) → HasParts r (bs ++ b ∷ []) (parts s (w ++ b ∷ []) None None)
more_whole r bs s w b d h = record {
  parts = record { sign = h.parts.sign; whole = digits_more_than r w b h.parts.whole d; fraction = tt; exponent = tt };
  text = rw h.text (simp (append_assoc, append-nil));
}

pub more_fraction : (r : Radix) (bs : List ℕ) (s : Option ℕ) (w f : List ℕ) (b : ℕ) → is_digit r b ≡ true → HasParts r bs (parts s w (Some f) None) → HasParts r (bs ++ b ∷ []) (parts s w (Some (f ++ b ∷ [])) None)
more_fraction r bs s w f b d h = record {
  parts = record { sign = h.parts.sign; whole = h.parts.whole; fraction = digits_more_than r f b h.parts.fraction d; exponent = tt };
  text = rw h.text (simp (append_assoc, append-nil));
}

pub more_point : (r : Radix) (bs : List ℕ) (s : Option ℕ) (w : List ℕ) (b : ℕ) → (b == point) ≡ true → HasParts r bs (parts s w None None) → HasParts r (bs ++ b ∷ []) (parts s w (Some []) None)
more_point r bs s w b d h =
    record {
      parts = record { sign = h.parts.sign; whole = h.parts.whole; fraction = tt; exponent = tt };
      text = rw (h.text, (eqb-true b point d)) (simp (append_assoc, append-nil));
    }

pub more_separator : (r : Radix) (bs : List ℕ) (s : Option ℕ) (w : List ℕ) (f : Option (List ℕ)) (b : ℕ) → is_separator r b ≡ true → HasParts r bs (parts s w f None) → HasParts r (bs ++ b ∷ []) (parts s w f (Some (exponent b None [])))
more_separator r bs s w f b d h = record {
  parts = record { sign = h.parts.sign; whole = h.parts.whole; fraction = h.parts.fraction; exponent = record { separator = d; sign = tt; digits = tt; in_range = omega (arith, ints) } };
  text = rw h.text (simp (append_assoc, append-nil));
}

pub more_sign : (r : Radix) (b : ℕ) → is_sign b ≡ true → HasParts r (b ∷ []) (parts (Some b) [] None None)
more_sign r b d = record { parts = record { sign = d; whole = tt; fraction = tt; exponent = tt }; text = refl }

fits_from_in_range : (t : Option ℕ) (n : ℕ) → is_in_range t n ≡ true → FitsSigned w32 (signed t n)
fits_from_in_range t n h = by_sign (is_minus t) h
  where
    by_sign : (c : Bool) → cond c (nat_lt n (2 ^ 31 + 1)) (nat_lt n (2 ^ 31)) ≡ true → FitsSigned w32 (cond c (neg_ℤ (pos n)) (pos n))
    by_sign true h = let k = ltb-true _ _ h in omega (arith, ints)
    by_sign false h = let k = ltb-true _ _ h in omega (arith, ints)

pub more_exponent : (r : Radix) (bs : List ℕ) (s : Option ℕ) (w : List ℕ) (f : Option (List ℕ)) (e : Exponent) (b : ℕ) → is_digit Dec b ≡ true → is_in_range e.sign (digits_value 10 (e.digits ++ b ∷ [])) ≡ true → HasParts r bs (parts s w f (Some e)) → HasParts r (bs ++ b ∷ []) (parts s w f (Some (exponent e.separator e.sign (e.digits ++ b ∷ []))))
more_exponent r bs s w f e b d i h = record {
  parts = record {
    sign = h.parts.sign;
    whole = h.parts.whole;
    fraction = h.parts.fraction;
    exponent = record {
      separator = h.parts.exponent.separator;
      sign = h.parts.exponent.sign;
      digits = digits_push 10 e.digits b h.parts.exponent.digits (ltb-true _ _ d);
      in_range = fits_from_in_range e.sign _ i;
    };
  };
  text = rw h.text (simp (append_assoc, append-nil));
}

pub more_exponent_sign : (r : Radix) (bs : List ℕ) (s : Option ℕ) (w : List ℕ) (f : Option (List ℕ)) (k b : ℕ) → is_sign b ≡ true → HasParts r bs (parts s w f (Some (exponent k None []))) → HasParts r (bs ++ b ∷ []) (parts s w f (Some (exponent k (Some b) [])))
more_exponent_sign r bs s w f k b d h = record {
  parts = record {
    sign = h.parts.sign;
    whole = h.parts.whole;
    fraction = h.parts.fraction;
    exponent = record {
      separator = h.parts.exponent.separator;
      sign = d;
      digits = tt;
      in_range = fits_from_in_range (Some b) 0 (by_sign (is_minus (Some b)));
    };
  };
  text = rw h.text (simp (append_assoc, append-nil));
}
  where
    by_sign : (c : Bool) → cond c (nat_lt 0 (2 ^ 31 + 1)) (nat_lt 0 (2 ^ 31)) ≡ true
    by_sign true = refl
    by_sign false = refl

taken : {G : Type 0} → (c : Bool) (x y : Option Parts) (q : Parts) → cond c x y ≡ Some q → (c ≡ true → x ≡ Some q → G) → (c ≡ false → y ≡ Some q → G) → G
taken true x y q e f g = f refl e
taken false x y q e f g = g refl e

same_parts : (r : Radix) (bs : List ℕ) (a q : Parts) → Some a ≡ Some q → HasParts r bs a → HasParts r bs q
same_parts r bs a q e h = let k : a ≡ q = cc in subst (HasParts r bs) k h

none_taken : {G : Type 0} → (q : Parts) → None ≡ Some q → G
none_taken q e = absurd (cc)

pub and_true : (x y : Bool) → (x && y) ≡ true → (x ≡ true) × (y ≡ true)
and_true true y h = (refl, h)
and_true false y h = absurd (cc)

pub only_nothing : (r : Radix) (bs : List ℕ) (s : Option ℕ) (w : List ℕ) → (is_none s && is_nil w) ≡ true → HasParts r bs (parts s w None None) → bs ≡ []
only_nothing r bs None [] t h = h.text
only_nothing r bs x w t h = absurd (cc)

one_more_end : (r : Radix) (bs : List ℕ) (s : Option ℕ) (w : List ℕ) (f : Option (List ℕ)) (k : ℕ) (t : Option ℕ) (ds : List ℕ) (b : ℕ) (q : Parts) → HasParts r bs (parts s w f (Some (exponent k t ds))) → step_exponent s w f k t ds b ≡ Some q → HasParts r (bs ++ b ∷ []) q
one_more_end r bs s w f k t ds b q h e = taken (is_digit Dec b) _ _ q e
    (λ d e'. taken (is_in_range t (digits_value 10 (ds ++ b ∷ []))) _ _ q e'
    (λ i e''. same_parts r _ _ q e'' (more_exponent r bs s w f (exponent k t ds) b d i h))
    (λ i e''. none_taken q e''))
    (λ d e'. taken (is_sign b && (is_none t && is_nil ds)) _ _ q e'
    (λ i e''. let two = and_true (is_sign b) _ i in same_parts r _ _ q e'' (opened t ds two.0 two.1 h))
    (λ i e''. none_taken q e''))
  where
    opened : (t : Option ℕ) (ds : List ℕ) → is_sign b ≡ true → (is_none t && is_nil ds) ≡ true → HasParts r bs (parts s w f (Some (exponent k t ds))) → HasParts r (bs ++ b ∷ []) (parts s w f (Some (exponent k (Some b) [])))
    opened None [] d z h = more_exponent_sign r bs s w f k b d h
    opened None (x ∷ ds) d z h = absurd (cc)
    opened (Some c) ds d z h = absurd (cc)

one_more_at : (r : Radix) (bs : List ℕ) (s : Option ℕ) (w : List ℕ) (f : Option (List ℕ)) (x : Option Exponent) (b : ℕ) (q : Parts) → HasParts r bs (parts s w f x) → step_at r s w f x b ≡ Some q → HasParts r (bs ++ b ∷ []) q
one_more_at r bs s w f (Some e) b q h k = one_more_end r bs s w f e.separator e.sign e.digits b q h k
one_more_at r bs s w (Some ds) None b q h k = taken (is_digit r b) _ _ q k
    (λ d e. same_parts r _ _ q e (more_fraction r bs s w ds b d h))
    (λ d e. taken (is_separator r b) _ _ q e
    (λ z e'. same_parts r _ _ q e' (more_separator r bs s w (Some ds) b z h))
    (λ z e'. none_taken q e'))
one_more_at r bs s w None None b q h k = taken (is_digit r b) _ _ q k
    (λ d e. same_parts r _ _ q e (more_whole r bs s w b d h))
    (λ d e. taken (is_separator r b) _ _ q e
    (λ z e'. same_parts r _ _ q e' (more_separator r bs s w None b z h))
    (λ z e'. taken (b == point) _ _ q e'
    (λ y e''. same_parts r _ _ q e'' (more_point r bs s w b y h))
    (λ y e''. taken (is_sign b && (is_none s && is_nil w)) _ _ q e''
    (λ i e3. let two = and_true (is_sign b) _ i in let none = only_nothing r bs s w two.1 h in same_parts r _ _ q e3 (rw none (more_sign r b two.0)))
    (λ i e3. none_taken q e3))))

-- one step from a beginning leads to a beginning
pub one_more : (r : Radix) (bs : List ℕ) (b : ℕ) (p q : Parts) → HasParts r bs p → step r p b ≡ Some q → HasParts r (bs ++ b ∷ []) q
one_more r bs b p q h e = one_more_at r bs p.sign p.whole p.fraction p.exponent b q h e

more_taken : (r : Radix) (p : Parts) (b : ℕ) (ys : List ℕ) (q : Parts) → option_and_then (λ m. run r m ys) (step r p b) ≡ Some q → (m : Parts) × (step r p b ≡ Some m) × (run r m ys ≡ Some q)
more_taken r p b ys q e = by_step (step r p b) refl e
  where
    by_step : (o : Option Parts) → step r p b ≡ o → option_and_then (λ m. run r m ys) o ≡ Some q → (m : Parts) × (step r p b ≡ Some m) × (run r m ys ≡ Some q)
    by_step None s e = none_taken q e
    by_step (Some m) s e = (m, s, e)

run_sound : (r : Radix) (bs ys : List ℕ) (p q : Parts) → HasParts r bs p → run r p ys ≡ Some q → HasParts r (bs ++ ys) q
run_sound r bs [] p q h e = rw (append-nil bs) (same_parts r bs p q e h)
run_sound r bs (y ∷ ys) p q h e =
    let (m, s, e') = more_taken r p y ys q e in
    rw (append_assoc bs (y ∷ []) ys) at (run_sound r (bs ++ y ∷ []) ys m q (one_more r bs y p m h s) e')

-- a prefix of a beginning is a beginning
pub beginning_prefix : (r : Radix) (xs ys : List ℕ) → IsBeginning r (xs ++ ys) → IsBeginning r xs
beginning_prefix r xs ys (q, h) =
    by_run (run r nothing xs) refl (sym (run_append r nothing xs ys) ∙ (rw h.text (run_text r q h.parts)))
  where
    by_run : (o : Option Parts) → run r nothing xs ≡ o → option_and_then (λ m. run r m ys) o ≡ Some q → IsBeginning r xs
    by_run None s e = none_taken q e
    by_run (Some m) s e = (m, run_sound r [] xs nothing m (record { parts = record { sign = tt; whole = tt; fraction = tt; exponent = tt }; text = refl }) s)
