-- The scanner's state after one more byte of a literal.
use Rattle.std.proofs.Common.{◌≡◌, ℕ, ◌+◌, ◌<◌, ◌≤◌, ◌⊎◌, Bool, true, false, cond, not, ◌&&◌, ◌==◌, List, [], ◌∷◌, ◌++◌, length, take, drop, get_or, Option, Some, None, IfSome, IsTrue, refl, sym, ap, subst, ◌∙◌, inl, inr, ⊎_elim, arith, append-nil, length-take}
use Rattle.std.proofs.lemmas.List.{take_more, take_all}
use Rattle.std.specs.Prelude.{Result, Ok, Err, MatchResult}
use Rattle.std.proofs.lemmas.Option.{slice_get-get_or}
use Rattle.fixed_numeral.specs.declared.radix.Radix.{Radix}
use Rattle.fixed_numeral.specs.declared.error.ParseErrorKind.{ParseErrorKind}
use Rattle.fixed_numeral.specs.declared.error.ParseErrorKind.TheVariants.{MisplacedSign, MisplacedUnderscore}
use Rattle.fixed_numeral.specs.declared.scanner.State.{State}
use Rattle.fixed_numeral.specs.Numeral.{Parts, Exponent, HasParts, IsPartsOf, IsNumeral, is_sign, minus, fractional_digits}
use Rattle.fixed_numeral.specs.Cause.{is_nil, kind_of}
use Rattle.fixed_numeral.proofs.NumeralLemmas.{parts_unique, beginning_prefix, parts}
use Rattle.fixed_numeral.specs.Inner.Scan.{Agrees, Extends, CannotExtend, IsAfter, IsComplete, IsIncomplete, max_magnitude}
use Rattle.fixed_numeral.specs.Literal.{underscore, without_underscores, begins_signed, last_part, HasLiteralParts, IsLiteralBeginning, HasRestCause, HasRest, HasLiteral, IsLiteral, HasLiteralCause, sign_of, literal_radix, literal_rest}
use Rattle.fixed_numeral.specs.Digits.{digits_in}
use Rattle.fixed_numeral.proofs.MagnitudeLemmas.{whole_count, after_count}
use Rattle.fixed_numeral.proofs.LiteralLemmas.{literal_whole, literal_fraction}
use Rattle.fixed_numeral.proofs.ScanLemmas.{prefix_stuck, whole_fits, has_numeral, slice_get_past, incomplete_cause, kind_at_end}
use Rattle.fixed_numeral.specs.Inner.LiteralScan.{LiteralExtends, LiteralCannotExtend, IsLiteralAfter}

some_inside : (xs ys : List ℕ) (c : ℕ) → [] ≡ xs ++ c ∷ ys → ⊥
some_inside [] ys c e = absurd (cc)
some_inside (x ∷ xs) ys c e = absurd (cc)

-- a byte of a list that grew by one byte is that byte or stands before it
push_cases : (bs xs ys : List ℕ) (b c : ℕ) → bs ++ b ∷ [] ≡ xs ++ c ∷ ys → ((bs ≡ xs) × (b ≡ c)) ⊎ ((zs : List ℕ) × (bs ≡ xs ++ c ∷ zs))
push_cases [] [] ys b c e = inl (refl, cc)
push_cases [] (x ∷ xs) ys b c e = let k : [] ≡ xs ++ c ∷ ys = cc in absurd (some_inside xs ys c k)
push_cases (a ∷ bs) [] ys b c e = let k : a ≡ c = cc in inr (bs, ap (λ x. x ∷ bs) k)
push_cases (a ∷ bs) (x ∷ xs) ys b c e =
    let k : bs ++ b ∷ [] ≡ xs ++ c ∷ ys = cc in
    ⊎_elim (λ (t : (bs ≡ xs) × (b ≡ c)). let t0 = t.0 in let s : a ∷ bs ≡ x ∷ xs = cc in inl (s, t.1)) (λ (t : (zs : List ℕ) × (bs ≡ xs ++ c ∷ zs)). let t1 = t.1 in let s : a ∷ bs ≡ x ∷ (xs ++ c ∷ t.0) = cc in inr (t.0, s)) (push_cases bs xs ys b c k)

cond_prefix : (c : Bool) (x : ℕ) (xs ys : List ℕ) → cond c xs (x ∷ xs) ++ ys ≡ cond c (xs ++ ys) (x ∷ (xs ++ ys))
cond_prefix true x xs ys = refl
cond_prefix false x xs ys = refl

pub without_append : (xs ys : List ℕ) → without_underscores (xs ++ ys) ≡ without_underscores xs ++ without_underscores ys
without_append [] ys = refl
without_append (x ∷ xs) ys = rw (without_append xs ys) (sym (cond_prefix (x == underscore) x (without_underscores xs) (without_underscores ys)))

push_other : (bs : List ℕ) (b : ℕ) → (b == underscore) ≡ false → without_underscores (bs ++ b ∷ []) ≡ without_underscores bs ++ b ∷ []
push_other bs b e = without_append bs (b ∷ []) ∙ rw e refl

push_underscore : (bs : List ℕ) (b : ℕ) → (b == underscore) ≡ true → without_underscores (bs ++ b ∷ []) ≡ without_underscores bs
push_underscore bs b e = without_append bs (b ∷ []) ∙ (rw e (append-nil (without_underscores bs)))

-- ---- an underscore
pub underscore_passed : (r : Radix) (bs : List ℕ) (p : Parts) (st : State) (b : ℕ) → HasLiteralParts r bs p → Agrees r st p → st.magnitude ≤ max_magnitude true → b ≡ underscore → is_nil (last_part p) ≡ false → LiteralExtends r bs b st
underscore_passed r bs p st b h a m e n =
    let same = push_underscore bs b (rw e refl) in
    record {
      parts = p;
      beginning = record {
        beginning = rw same h.beginning;
        unsigned = rw same h.unsigned;
        underscores = λ xs ys k q g. ⊎_elim
            (λ (t : (bs ≡ xs) × (b ≡ underscore)). let u = parts_unique r (without_underscores xs) q p g (rw t.0 at h.beginning) in rw u n)
            (λ (t : (zs : List ℕ) × (bs ≡ xs ++ underscore ∷ zs)). h.underscores xs t.0 t.1 q g)
            (push_cases bs xs ys b underscore k);
      };
      agrees = a;
      room = m;
    }

pub underscore_stuck : (r : Radix) (bs : List ℕ) (p : Parts) (b : ℕ) → HasLiteralParts r bs p → b ≡ underscore → is_nil (last_part p) ≡ true → LiteralCannotExtend r bs p b MisplacedUnderscore
underscore_stuck r bs p b h e n = record {
  none = λ (q, g). let s : bs ++ b ∷ [] ≡ bs ++ underscore ∷ [] = ap (λ x. bs ++ x ∷ []) e in
      let no = g.underscores bs [] s p h.beginning in
      cc;
  is_kind = rw e refl;
}

-- ---- a byte that the scanner of numerals reads
signed_push : (ws : List ℕ) (b : ℕ) → begins_signed ws ≡ false → (is_sign b ≡ false) ⊎ (0 < length ws) → begins_signed (ws ++ b ∷ []) ≡ false
signed_push [] b h k = ⊎_elim (λ e. e) (λ (l : 0 < 0). absurd (omega arith)) k
signed_push (w ∷ ws) b h k = h

other_goes_on : (r : Radix) (bs : List ℕ) (p : Parts) (b : ℕ) (next : State) → HasLiteralParts r bs p → (b ≡ underscore → ⊥) → (b == underscore) ≡ false → (is_sign b ≡ false) ⊎ (0 < length (without_underscores bs)) → Extends r (without_underscores bs) b next → LiteralExtends r bs b next
other_goes_on r bs p b next h ne e k g =
    let same = push_other bs b e in
    record {
      parts = g.parts;
      beginning = record {
        beginning = rw same g.beginning;
        unsigned = rw same (signed_push (without_underscores bs) b h.unsigned k);
        underscores = λ xs ys k q f. ⊎_elim
            (λ (t : (bs ≡ xs) × (b ≡ underscore)). absurd (ne t.1))
            (λ (t : (zs : List ℕ) × (bs ≡ xs ++ underscore ∷ zs)). h.underscores xs t.0 t.1 q f)
            (push_cases bs xs ys b underscore k);
      };
      agrees = g.agrees;
      room = g.room;
    }

other_stuck : (r : Radix) (bs : List ℕ) (p : Parts) (b : ℕ) (kind : ParseErrorKind) → (b == underscore) ≡ false → CannotExtend r (without_underscores bs) p b kind → LiteralCannotExtend r bs p b kind
other_stuck r bs p b kind e s = record {
  none = λ (q, g). s.none (q, rw (push_other bs b e) at g.beginning);
  is_kind = rw e s.is_kind;
}

-- ---- prefixes
signed_prefix : (xs ys : List ℕ) → begins_signed (xs ++ ys) ≡ false → begins_signed xs ≡ false
signed_prefix [] ys h = refl
signed_prefix (x ∷ xs) ys h = h

append_inside : (xs ys us vs : List ℕ) (c : ℕ) → xs ≡ us ++ c ∷ vs → xs ++ ys ≡ us ++ c ∷ (vs ++ ys)
append_inside xs ys us vs c e = ap (λ zs. zs ++ ys) e ∙ over us
  where
    over : (us : List ℕ) → (us ++ c ∷ vs) ++ ys ≡ us ++ c ∷ (vs ++ ys)
    over [] = refl
    over (u ∷ us) = ap (λ zs. u ∷ zs) (over us)

literal_prefix : (r : Radix) (xs ys : List ℕ) → IsLiteralBeginning r (xs ++ ys) → IsLiteralBeginning r xs
literal_prefix r xs ys (q, h) =
    let cut = without_append xs ys in
    let (p, g) = beginning_prefix r (without_underscores xs) (without_underscores ys) (q, rw cut at h.beginning) in (
      p,
      record {
        beginning = g;
        unsigned = signed_prefix (without_underscores xs) (without_underscores ys) (rw cut at h.unsigned);
        underscores = λ us vs e f k. h.underscores us (vs ++ ys) (append_inside xs ys us vs underscore e) f k;
      },
    )

-- a state that allows a sign and has no separator was reached without a byte; any other state was not
prefix_nil : (r : Radix) (ws : List ℕ) (st : State) (s : Option ℕ) (w : List ℕ) (f : Option (List ℕ)) (x : Option Exponent) → HasParts r ws (parts s w f x) → Agrees r st (parts s w f x) → st.sign_allowed ≡ true → st.has_separator ≡ false → ws ≡ []
prefix_nil r ws st s w f (Some e) h a t k = let clash = a.separator in absurd (cc)
prefix_nil r ws st None [] None None h a t k = h.text
prefix_nil r ws st s w f None h a t k = let clash = a.fresh in absurd (cc)

rest_of_prefix : (r : Radix) (ws : List ℕ) (st : State) (s : Option ℕ) (w : List ℕ) (f : Option (List ℕ)) (x : Option Exponent) → HasParts r ws (parts s w f x) → Agrees r st (parts s w f x) → (st.sign_allowed ≡ false) ⊎ (st.has_separator ≡ true) → 0 < length ws
rest_of_prefix r ws st None [] None None h a k = ⊎_elim (λ t. let clash = a.fresh in absurd (cc)) (λ t. let clash = a.separator in absurd (cc)) k
rest_of_prefix r ws st x w f y h a k = omega (arith, ap length h.text)

not_leading : (x y z : Bool) → (x && (y && not z)) ≡ false → (x ≡ false) ⊎ ((y ≡ false) ⊎ (z ≡ true))
not_leading false y z e = inl refl
not_leading true false z e = inr (inl refl)
not_leading true true true e = inr (inr refl)
not_leading true true false e = absurd (cc)

leading : (x y z : Bool) → (x && (y && not z)) ≡ true → (x ≡ true) × (y ≡ true) × (z ≡ false)
leading true true false e = (refl, refl, refl)
leading x y z e = absurd (cc)

pub sign_in_prefix : (r : Radix) (bs : List ℕ) (p : Parts) (st : State) (b : ℕ) → HasLiteralParts r bs p → Agrees r st p → (b == underscore) ≡ false → (is_sign b && (st.sign_allowed && not st.has_separator)) ≡ true → LiteralCannotExtend r bs p b MisplacedSign
sign_in_prefix r bs p st b h a e l =
    let t = leading (is_sign b) st.sign_allowed st.has_separator l in
    let sign : is_sign b ≡ true = t.0 in
    let none : without_underscores bs ≡ [] = prefix_nil r (without_underscores bs) st p.sign p.whole p.fraction p.exponent h.beginning a t.1 t.2 in
    record {
      none = λ (q, g). let u : is_sign b ≡ false = rw (push_other bs b e ∙ ap (λ ws. ws ++ b ∷ []) none) at g.unsigned in cc;
      is_kind = rw (e, sym a.separator ∙ t.2, sign) refl;
    }

step_goes_on : (r : Radix) (bs : List ℕ) (p : Parts) (st next : State) (b : ℕ) → HasLiteralParts r bs p → Agrees r st p → (b ≡ underscore → ⊥) → (b == underscore) ≡ false → (is_sign b && (st.sign_allowed && not st.has_separator)) ≡ false → Extends r (without_underscores bs) b next → LiteralExtends r bs b next
step_goes_on r bs p st next b h a ne e l g =
    let t = not_leading (is_sign b) st.sign_allowed st.has_separator l in
    other_goes_on r bs p b next h ne e (⊎_elim (λ s. inl s) (λ s. inr (rest_of_prefix r (without_underscores bs) st p.sign p.whole p.fraction p.exponent h.beginning a s)) t) g

-- ---- the whole rest
pub literal_nothing : (r : Radix) (st : State) → ((r' : Radix) → IsAfter r' [] st) → IsLiteralAfter r [] st
literal_nothing r st start =
    let a = start r in
    record { parts = a.parts; beginning = record { beginning = a.beginning; unsigned = refl; underscores = λ xs ys e q g. absurd (some_inside xs ys underscore e) }; agrees = a.agrees; room = a.room }

pub literal_more : (r : Radix) (bs : List ℕ) (i : ℕ) (st : State) → i < length bs → LiteralExtends r (take i bs) (get_or bs i 0) st → IsLiteralAfter r (take (i + 1) bs) st
literal_more r bs i st l g = rw (take_more bs i 0 l) g

pub literal_all : (r : Radix) (bs : List ℕ) (i : ℕ) (st : State) → length bs ≤ i → IsLiteralAfter r (take i bs) st → IsLiteralAfter r bs st
literal_all r bs i st l a = rw (take_all i bs l) at a

abbrev pub as_after : (r : Radix) (bs : List ℕ) (st : State) → IsLiteralAfter r bs st → IsAfter r (without_underscores bs) st
as_after r bs st a = record { parts = a.parts; beginning = a.beginning.beginning; agrees = a.agrees; room = a.room }

pub without_shorter : (bs : List ℕ) → length (without_underscores bs) ≤ length bs
without_shorter [] = omega arith
without_shorter (b ∷ bs) = by_test (b == underscore) (without_shorter bs)
  where
    by_test : (c : Bool) → length (without_underscores bs) ≤ length bs → length (cond c (without_underscores bs) (b ∷ without_underscores bs)) ≤ length (b ∷ bs)
    by_test true h = omega arith
    by_test false h = omega arith

pub literal_fits : (r : Radix) (bs : List ℕ) (st : State) → IsLiteralAfter r bs st → st.sign_len + st.whole_len + st.fraction_len ≤ length bs
literal_fits r bs st a = omega (arith, whole_fits r (without_underscores bs) st (as_after r bs st a), without_shorter bs)

pub literal_fits_at : (r : Radix) (bs : List ℕ) (i : ℕ) (st : State) → i < length bs → IsLiteralAfter r (take i bs) st → st.whole_len + st.fraction_len ≤ i
literal_fits_at r bs i st l a = omega (arith, literal_fits r (take i bs) st a, length-take i bs)

pub stuck_rest : (r : Radix) (bs : List ℕ) (n : ℕ) (p : Parts) (kind : ParseErrorKind) → n < length bs → HasLiteralParts r (take n bs) p → LiteralCannotExtend r (take n bs) p (get_or bs n 0) kind → HasRestCause r bs kind
stuck_rest r bs n p kind l h g = record {
  none = λ q k.
      omega (arith, prefix_stuck (IsLiteralBeginning r) (literal_prefix r) bs n l g.none (length bs) (q, rw (take_all (length bs) bs (omega arith)) k.literal));
  count = n;
  parts = p;
  prefix = record { within = omega arith; beginning = h; longest = λ m ml b. prefix_stuck (IsLiteralBeginning r) (literal_prefix r) bs n l g.none m b };
  is_kind = rw (slice_get-get_or bs n 0 l) g.is_kind;
}

end_rest : (r : Radix) (bs : List ℕ) (p : Parts) (kind : ParseErrorKind) → HasLiteralParts r bs p → kind ≡ kind_of r p None → (IsNumeral r (without_underscores bs) → ⊥) → HasRestCause r bs kind
end_rest r bs p kind h k none = record {
  none = λ q g. none (q, g.numeral);
  count = length bs;
  parts = p;
  prefix = record { within = omega arith; beginning = rw (take_all (length bs) bs (omega arith)) h; longest = λ m ml b. ml };
  is_kind = rw (slice_get_past bs) k;
}

-- a rest that ends too early has the cause that it has without its underscores
pub incomplete_rest : (r : Radix) (bs : List ℕ) (st : State) (kind : ParseErrorKind) → IsLiteralAfter r bs st → IsIncomplete st kind → HasRestCause r bs kind
incomplete_rest r bs st kind a i =
    end_rest r bs a.parts kind a.beginning (kind_at_end r (without_underscores bs) st kind (as_after r bs st a) i) (incomplete_cause r (without_underscores bs) st kind (as_after r bs st a) i).none

pub has_rest : (r : Radix) (bs : List ℕ) (st : State) (a : IsLiteralAfter r bs st) → IsComplete st → HasRest r bs a.parts
has_rest r bs st a k = record { literal = a.beginning; numeral = has_numeral r (without_underscores bs) st (as_after r bs st a) k.digits k.exponent }

-- a text that does not begin with a sign has no sign
pub no_sign : (r : Radix) (ws : List ℕ) (s : Option ℕ) (w : List ℕ) (f : Option (List ℕ)) (x : Option Exponent) → HasParts r ws (parts s w f x) → begins_signed ws ≡ false → s ≡ None
no_sign r ws None w f x h u = refl
no_sign r ws (Some c) w f x h u =
    absurd (cc)

pub unsigned_parts : (r : Radix) (bs : List ℕ) (st : State) (a : IsLiteralAfter r bs st) → a.parts.sign ≡ None
unsigned_parts r bs st a = no_sign r (without_underscores bs) a.parts.sign a.parts.whole a.parts.fraction a.parts.exponent a.beginning.beginning a.beginning.unsigned

pub prefix_whole : (r : Radix) (bs : List ℕ) (st : State) (a : IsLiteralAfter r bs st) → take st.whole_len (digits_in bs) ≡ digits_in a.parts.whole
prefix_whole r bs st a = literal_whole r bs a.parts st.whole_len a.beginning.beginning (unsigned_parts r bs st a) a.agrees.whole

pub prefix_fraction : (r : Radix) (bs : List ℕ) (st : State) (a : IsLiteralAfter r bs st) → take st.fraction_len (drop st.whole_len (digits_in bs)) ≡ digits_in (fractional_digits a.parts.fraction)
prefix_fraction r bs st a = literal_fraction r bs a.parts st.whole_len st.fraction_len a.beginning.beginning (unsigned_parts r bs st a) a.agrees.whole a.agrees.fraction

-- a state counts at most the digits of the text
pub prefix_fits : (r : Radix) (bs : List ℕ) (st : State) (a : IsLiteralAfter r bs st) → st.whole_len ≤ length (digits_in bs)
prefix_fits r bs st a = omega (arith, ap length (prefix_whole r bs st a), whole_count r a.parts a.beginning.beginning.parts, a.agrees.whole, length-take st.whole_len (digits_in bs))

pub back_fits : (r : Radix) (bs : List ℕ) (st : State) (a : IsLiteralAfter r bs st) → st.fraction_len ≤ length (drop st.whole_len (digits_in bs))
back_fits r bs st a = omega (arith, ap length (prefix_fraction r bs st a), after_count r a.parts a.beginning.beginning.parts, a.agrees.fraction, length-take st.fraction_len (drop st.whole_len (digits_in bs)))

-- the parts in the state, with the sign that was taken first, are the parts of the literal
pub parts_of_rest : (r : Radix) (bs : List ℕ) (st : State) (a : IsLiteralAfter r bs st) (p : Parts) → HasRest r bs (record p { sign = None }) → record a.parts { sign = p.sign } ≡ p
parts_of_rest r bs st a p h = let same = parts_unique r (without_underscores bs) a.parts (record p { sign = None }) a.beginning.beginning h.numeral.beginning in ap (λ (q : Parts). record q { sign = p.sign }) same

-- ---- restated for the goals
pub step_result : (r : Radix) (bs : List ℕ) (p : Parts) (st : State) (b : ℕ) (o : Result State ParseErrorKind) → HasLiteralParts r bs p → Agrees r st p → (b ≡ underscore → ⊥) → (b == underscore) ≡ false → (is_sign b && (st.sign_allowed && not st.has_separator)) ≡ false → MatchResult o (λ next. Extends r (without_underscores bs) b next) (λ kind. CannotExtend r (without_underscores bs) p b kind) → MatchResult o (λ next. LiteralExtends r bs b next) (λ kind. LiteralCannotExtend r bs p b kind)
step_result r bs p st b (Ok next) h a ne e l m = step_goes_on r bs p st next b h a ne e l m
step_result r bs p st b (Err kind) h a ne e l m = other_stuck r bs p b kind e m

-- the parts of a numeral stay valid with a sign before them
pub signed_parts : (r : Radix) (p : Parts) (s : Option ℕ) → IfSome s (λ b. IsTrue (is_sign b)) → IsPartsOf r p → IsPartsOf r (record p { sign = s })
signed_parts r p s k h = record { sign = k; whole = h.whole; fraction = h.fraction; exponent = h.exponent }

pub sign_is_one : (of_signed : Bool) (bs : List ℕ) → IfSome (sign_of of_signed bs) (λ b. IsTrue (is_sign b))
sign_is_one of_signed [] = tt
sign_is_one of_signed (b ∷ bs) = by_test (of_signed && (b == minus))
  where
    by_test : (c : Bool) → IfSome (cond c (Some minus) None) (λ x. IsTrue (is_sign x))
    by_test true = refl
    by_test false = tt

-- ---- the whole literal
pub literal_cause : (s : Bool) (bs : List ℕ) (r : Radix) (rest : List ℕ) (kind : ParseErrorKind) → r ≡ literal_radix s bs → rest ≡ literal_rest s bs → HasRestCause r rest kind → HasLiteralCause s bs kind
literal_cause s bs r rest kind er eb k = rw (er, eb) at k

pub no_literal : (s : Bool) (bs : List ℕ) (kind : ParseErrorKind) → HasLiteralCause s bs kind → IsLiteral s bs → ⊥
no_literal s bs kind k (p, h) = k.none (record p { sign = None }) h.rest

pub is_literal : (s : Bool) (bs : List ℕ) (r : Radix) (rest : List ℕ) (st : State) → r ≡ literal_radix s bs → rest ≡ literal_rest s bs → IsLiteralAfter r rest st → IsComplete st → IsLiteral s bs
is_literal s bs r rest st er eb a k =
    let same : a.parts ≡ record a.parts { sign = None } = ap (λ (o : Option ℕ). record a.parts { sign = o }) (unsigned_parts r rest st a) in
    let here : HasRest r rest (record a.parts { sign = None }) = subst (HasRest r rest) same (has_rest r rest st a k) in
    (record a.parts { sign = sign_of s bs }, record { sign = refl; rest = rw (er, eb) at here })

pub literal_rest_of : (s : Bool) (bs : List ℕ) (r : Radix) (rest : List ℕ) (p : Parts) → r ≡ literal_radix s bs → rest ≡ literal_rest s bs → HasLiteral s bs p → HasRest r rest (record p { sign = None })
literal_rest_of s bs r rest p er eb h = rw (er, eb) h.rest
