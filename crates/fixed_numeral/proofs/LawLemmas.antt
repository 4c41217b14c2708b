-- A text is a numeral or has just one cause of refusal.
use Rattle.std.proofs.Common.{◌≡◌, ℕ, ◌⊎◌, Bool, true, false, List, [], ◌∷◌, ◌++◌, length, take, get_or, Option, Some, None, refl, sym, ap, ◌∙◌, inl, inr, arith, append_assoc, append-nil, length-append}
use Rattle.std.proofs.lemmas.List.{take_at}
use Rattle.fixed_numeral.specs.declared.radix.Radix.{Radix}
use Rattle.fixed_numeral.specs.declared.error.ParseErrorKind.{ParseErrorKind}
use Rattle.fixed_numeral.specs.declared.error.ParseErrorKind.TheVariants.{NoDigits, ExpNoDigits}
use Rattle.fixed_numeral.specs.Numeral.{Parts, Exponent, HasParts, IsNumeral, mantissa}
use Rattle.fixed_numeral.specs.Cause.{HasCause, is_nil, kind_of}
use Rattle.fixed_numeral.specs.Literal.{HasLiteral, IsLiteral, HasLiteralCause, literal_radix, literal_rest, without_underscores}
use Rattle.fixed_numeral.specs.Inner.Scan.{CannotExtend}
use Rattle.fixed_numeral.proofs.NumeralLemmas.{parts, nothing, step, one_more, parts_unique}
use Rattle.fixed_numeral.proofs.ScanLemmas.{stuck, stuck_cause, end_cause, nil_length, length_nil}
use Rattle.fixed_numeral.proofs.LiteralScanLemmas.{no_literal}

-- ---- at most one cause, and one literal
pub one_cause : (r : Radix) (bs : List ℕ) (kind other : ParseErrorKind) → HasCause r bs kind → HasCause r bs other → kind ≡ other
one_cause r bs kind other g h =
    let count : g.count ≡ h.count = omega (arith, g.prefix.longest h.count h.prefix.within (h.parts, h.prefix.beginning), h.prefix.longest g.count g.prefix.within (g.parts, g.prefix.beginning)) in
    let same : g.parts ≡ h.parts = parts_unique r (take h.count bs) g.parts h.parts (rw count at g.prefix.beginning) h.prefix.beginning in
    g.is_kind ∙ rw (count, same) (sym h.is_kind)

pub one_literal_cause : (s : Bool) (bs : List ℕ) (kind other : ParseErrorKind) → HasLiteralCause s bs kind → (HasLiteralCause s bs other → kind ≡ other) × (IsLiteral s bs → ⊥)
one_literal_cause s bs kind other g = (
  λ h.
      let count : g.count ≡ h.count = omega (arith, g.prefix.longest h.count h.prefix.within (h.parts, h.prefix.beginning), h.prefix.longest g.count g.prefix.within (g.parts, g.prefix.beginning)) in
      let same : g.parts ≡ h.parts = parts_unique (literal_radix s bs) (without_underscores (take h.count (literal_rest s bs))) g.parts h.parts (rw count at g.prefix.beginning.beginning) h.prefix.beginning.beginning in
      g.is_kind ∙ rw (count, same) (sym h.is_kind),
  no_literal s bs kind g,
)

pub one_literal : (s : Bool) (bs : List ℕ) (p q : Parts) → HasLiteral s bs p → HasLiteral s bs q → p ≡ q
one_literal s bs p q g h =
    let same : record p { sign = None } ≡ record q { sign = None } = parts_unique (literal_radix s bs) (without_underscores (literal_rest s bs)) (record p { sign = None }) (record q { sign = None }) g.rest.numeral.beginning h.rest.numeral.beginning in
    let sign : p.sign ≡ q.sign = g.sign ∙ sym h.sign in
    ap (λ (o : Option ℕ). record p { sign = o }) sign ∙ ap (λ (x : Parts). record x { sign = q.sign }) same

-- ---- a numeral or a cause
missing_mantissa : (r : Radix) (bs : List ℕ) (p : Parts) → HasParts r bs p → is_nil (mantissa p) ≡ true → IsNumeral r bs → ⊥
missing_mantissa r bs p h e (q, g) =
    let same = parts_unique r bs q p g.beginning h in
    let some = nil_length (mantissa q) g.mantissa in
    cc

missing_exponent : (r : Radix) (bs : List ℕ) (s : Option ℕ) (w : List ℕ) (f : Option (List ℕ)) (y : Exponent) → HasParts r bs (parts s w f (Some y)) → is_nil y.digits ≡ true → IsNumeral r bs → ⊥
missing_exponent r bs s w f y h e (q, g) =
    let same = parts_unique r bs q (parts s w f (Some y)) g.beginning h in
    let some = nil_length y.digits (rw same at g).exponent in
    cc

by_exponent : (r : Radix) (bs : List ℕ) (s : Option ℕ) (w : List ℕ) (f : Option (List ℕ)) (x : Option Exponent) → HasParts r bs (parts s w f x) → is_nil (mantissa (parts s w f x)) ≡ false → IsNumeral r bs ⊎ ((kind : ParseErrorKind) × HasCause r bs kind)
by_exponent r bs s w f None h e = inl (parts s w f None, record { beginning = h; mantissa = length_nil _ e; exponent = tt })
by_exponent r bs s w f (Some y) h e = by_digits (is_nil y.digits) refl
  where
    by_digits : (c : Bool) → is_nil y.digits ≡ c → IsNumeral r bs ⊎ ((kind : ParseErrorKind) × HasCause r bs kind)
    by_digits true k = inr (ExpNoDigits, end_cause r bs (parts s w f (Some y)) ExpNoDigits h (rw e refl) (missing_exponent r bs s w f y h k))
    by_digits false k = inl (parts s w f (Some y), record { beginning = h; mantissa = length_nil _ e; exponent = length_nil _ k })

at_end : (r : Radix) (bs : List ℕ) (p : Parts) → HasParts r bs p → IsNumeral r bs ⊎ ((kind : ParseErrorKind) × HasCause r bs kind)
at_end r bs p h = by_mantissa (is_nil (mantissa p)) refl
  where
    by_mantissa : (c : Bool) → is_nil (mantissa p) ≡ c → IsNumeral r bs ⊎ ((kind : ParseErrorKind) × HasCause r bs kind)
    by_mantissa true e = inr (NoDigits, end_cause r bs p NoDigits h (rw e refl) (missing_mantissa r bs p h e))
    by_mantissa false e = by_exponent r bs p.sign p.whole p.fraction p.exponent h e

at_byte : (r : Radix) (xs : List ℕ) (y : ℕ) (ys : List ℕ) (p : Parts) → HasParts r xs p → step r p y ≡ None → HasCause r (xs ++ y ∷ ys) (kind_of r p (Some y))
at_byte r xs y ys p h e =
    let initial : take (length xs) (xs ++ y ∷ ys) ≡ xs = take_at xs (y ∷ ys) (length xs) refl in
    let there : get_or (xs ++ y ∷ ys) (length xs) 0 ≡ y = byte_at xs in
    let none : CannotExtend r xs p y (kind_of r p (Some y)) = record { none = stuck r xs p y h e; is_kind = refl } in
    stuck_cause r (xs ++ y ∷ ys) (length xs) p (kind_of r p (Some y)) (omega (arith, length-append xs (y ∷ ys))) (rw initial h) (rw (initial, there) none)
  where
    byte_at : (xs : List ℕ) → get_or (xs ++ y ∷ ys) (length xs) 0 ≡ y
    byte_at [] = refl
    byte_at (x ∷ xs) = byte_at xs

abbrev Decided : Radix → List ℕ → Type 0
Decided r bs = IsNumeral r bs ⊎ ((kind : ParseErrorKind) × HasCause r bs kind)

by_step : (r : Radix) (xs : List ℕ) (y : ℕ) (ys : List ℕ) (p : Parts) → HasParts r xs p → ((q : Parts) → HasParts r (xs ++ y ∷ []) q → Decided r ((xs ++ y ∷ []) ++ ys)) → (o : Option Parts) → step r p y ≡ o → Decided r (xs ++ y ∷ ys)
by_step r xs y ys p h more None e = inr (kind_of r p (Some y), at_byte r xs y ys p h e)
by_step r xs y ys p h more (Some q) e = let next = more q (one_more r xs y p q h e) in rw (append_assoc xs (y ∷ []) ys) at next

later : (r : Radix) (xs ys : List ℕ) (p : Parts) → HasParts r xs p → Decided r (xs ++ ys)
later r xs [] p h = rw (append-nil xs) (at_end r xs p h)
later r xs (y ∷ ys) p h = by_step r xs y ys p h (λ q g. later r (xs ++ y ∷ []) ys q g) (step r p y) refl

pub numeral_or_cause : (r : Radix) (bs : List ℕ) → IsNumeral r bs ⊎ ((kind : ParseErrorKind) × HasCause r bs kind)
numeral_or_cause r bs = later r [] bs nothing (record { parts = record { sign = tt; whole = tt; fraction = tt; exponent = tt }; text = refl })
