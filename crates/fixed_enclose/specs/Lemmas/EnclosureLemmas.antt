-- The enclosure from one reading in mode Floor, and its uniqueness.
use Rattle.std.proofs.Common.{◌≡◌, ℕ, ◌*◌, ◌^◌, ◌≤◌, ◌<◌, ◌↔◌, Bool, true, false, IsTrue, List, take, slice_get, refl}
use Rattle.std.proofs.Common.{sym, ap, ◌∙◌, subst, arith, inl, inr, ⊎_elim, ℤ, pos, neg_ℤ, ◌+ℤ◌, ◌*ℤ◌, ◌≤ℤ◌}
use Rattle.std.specs.Prelude.{if◌then◌else◌, ◌-ℤ◌, ◌<ℤ◌}
use Rattle.std.proofs.lemmas.Bool.{cases_lt, false≢true}
use Rattle.std.proofs.lemmas.Int.{ints}
use Rattle.fixed_bits.specs.Formats.{FormatParts}
use Rattle.fixed_bits.specs.Ranges.{IsInRange, IsOutOfRange}
use Rattle.fixed_bits.specs.Rounded.{IsRounded}
use Rattle.fixed_bits.specs.declared.mode.ReadMode.TheVariants.{Floor, TowardsZero, Ceil}
use Rattle.fixed_bits.proofs.Integers.{lt_cancel, neg_times, next_times}
use Rattle.fixed_bits.proofs.Public.{range_decided, rounded_unique}
use Rattle.fixed_numeral.specs.Cause.{HasCause, kind_of}
use Rattle.fixed_numeral.specs.Numeral.{Parts, HasNumeral, is_minus}
use Rattle.fixed_numeral.specs.Value.{magnitude}
use Rattle.fixed_numeral.specs.declared.error.ParseErrorKind.{ParseErrorKind}
use Rattle.fixed_numeral.specs.declared.radix.Radix.{Radix}
use Rattle.fixed_numeral.proofs.Public.{parts_unique, magnitude_pos}
use Rattle.fixed_bits.specs.Numbers.{with_sign}
use Rattle.fixed_read.specs.Reading.{IsReadNumber, IsWholeUlps, IsMultipleOf}
use Rattle.fixed_enclose.specs.Enclosure.{Encloses, in_ulps, IsEnclosed, IsRefusal}
use Rattle.fixed_enclose.specs.Laws.{NoneIsTighter, ExactWhereEqual, PairIsTheOne}

-- ---- one ulp down
pub before_times : (a : ℤ) (m : ℕ) → (a -ℤ pos 1) *ℤ pos m ≡ (a *ℤ pos m) -ℤ pos m
before_times a m =
    let b : ℤ = a -ℤ pos 1 in
    let e : b +ℤ pos 1 ≡ a = omega (arith, ints) in
    let n : (b +ℤ pos 1) *ℤ pos m ≡ (b *ℤ pos m) +ℤ pos m = next_times b m in
    let s : a *ℤ pos m ≡ (b *ℤ pos m) +ℤ pos m = rw e at n in
    omega (arith, ints, s)

-- ---- from one reading in mode Floor
-- rounding in either direction takes a multiple of the denominator to its factor
down_exact : (m den q k : ℕ) → 0 < den → IsRounded TowardsZero false m den q → m ≡ k * den → m ≡ q * den
down_exact m den q k some h e =
    let itself : IsRounded TowardsZero false m den k = record
    { at_most = omega (arith, e); next = omega (arith, e, some) } in
    e ∙ ap (λ x. x * den) (rounded_unique TowardsZero false m den k q some itself h)

up_exact : (m den q k : ℕ) → 0 < den → IsRounded Ceil false m den q → m ≡ k * den → m ≡ q * den
up_exact m den q k some h e =
    let itself : IsRounded Ceil false m den k = record {
      at_least = omega (arith, e);
      before = omega (arith, e, some);
    } in
    e ∙ ap (λ x. x * den) (rounded_unique Ceil false m den k q some itself h)

-- hi is lo if the value is whole, else the next number
abbrev pub upper : Bool → ℤ → ℤ
upper whole lo = if whole then lo else (lo +ℤ pos 1)

around : (minus : Bool) (m den q : ℕ) (whole : Bool) → 0 < den → IsRounded Floor minus m den q
    → (IsTrue whole ↔ IsMultipleOf den m) → Encloses (with_sign minus m) den (with_sign minus q)
    (upper whole (with_sign minus q))
around false m den q true some h w =
    let k = w.0 refl in
    let e : m ≡ q * den = down_exact m den q k.0 some h k.1 in
    record {
      low = omega (arith, ints, e);
      low_next = omega (arith, ints, next_times (pos q) den, e, some);
      high_before = omega (arith, ints, before_times (pos q) den, e, some);
      high = omega (arith, ints, e);
    }
around false m den q false some h w =
    let past : q * den < m =
    ⊎_elim
    (λ (less : q * den < m). less)
    (λ (more : m ≤ q * den). absurd (let e : m ≡ q * den = omega (arith, more, h.at_most) in false≢true (w.1 (q, e))))
    (cases_lt (q * den) m) in
    let same : ((pos q +ℤ pos 1) -ℤ pos 1) ≡ pos q = omega (arith, ints) in
    record {
      low = omega (arith, ints, h.at_most);
      low_next = omega (arith, ints, next_times (pos q) den, h.next);
      high_before = rw same (omega (arith, ints, past));
      high = omega (arith, ints, next_times (pos q) den, h.next);
    }
around true m den q true some h w =
    let k = w.0 refl in
    let e : m ≡ q * den = up_exact m den q k.0 some h k.1 in
    record {
      low = omega (arith, ints, neg_times q den, e);
      low_next = omega (arith, ints, next_times (neg_ℤ (pos q)) den, neg_times q den, e, some);
      high_before = omega (arith, ints, before_times (neg_ℤ (pos q)) den, neg_times q den, e, some);
      high = omega (arith, ints, neg_times q den, e);
    }
around true m den q false some h w =
    let past : m < q * den =
    ⊎_elim
    (λ (less : m < q * den). less)
    (λ (more : q * den ≤ m). absurd (let e : m ≡ q * den = omega (arith, more, h.at_least) in false≢true (w.1 (q, e))))
    (cases_lt m (q * den)) in
    let same : ((neg_ℤ (pos q) +ℤ pos 1) -ℤ pos 1) ≡ neg_ℤ (pos q) = omega (arith, ints) in
    record {
      low = omega (arith, ints, neg_times q den, h.at_least);
      low_next = omega (arith, ints, next_times (neg_ℤ (pos q)) den, neg_times q den, h.before);
      high_before = rw same (omega (arith, ints, neg_times q den, past));
      high = omega (arith, ints, next_times (neg_ℤ (pos q)) den, neg_times q den, h.before);
    }

pub encloses_of : (r : Radix) (p : Parts) (f : ℕ) (lo : ℤ) (whole : Bool) → IsReadNumber Floor r p f lo
    → (IsTrue whole ↔ IsWholeUlps r p f) → Encloses (in_ulps r p f) (magnitude r p).den lo (upper whole lo)
encloses_of r p f lo whole read is =
    let E : ℤ → Type 0 = λ v. Encloses (in_ulps r p f) (magnitude r p).den v (upper whole v) in
    subst E (sym read.value) (around (is_minus p.sign) ((magnitude r p).num * 2 ^ f)
    (magnitude r p).den read.ulps whole (magnitude_pos r p) read.rounded is)

pub parts_one : (r : Radix) (bytes : List ℕ) (p q : Parts) → HasNumeral r bytes p → HasNumeral r bytes q → p ≡ q
parts_one r bytes p q a b = parts_unique r bytes p q a.beginning b.beginning

-- ---- no enclosure is tighter, and there is only one
pub not_past : (y : ℤ) (den : ℕ) (a b : ℤ) → (a *ℤ pos den) ≤ℤ y → y <ℤ ((b +ℤ pos 1) *ℤ pos den) → a ≤ℤ b
not_past y den a b low next =
    let mid : (a *ℤ pos den) <ℤ ((b +ℤ pos 1) *ℤ pos den) = omega (arith, ints) in
    let s = lt_cancel a (b +ℤ pos 1) den mid in
    omega (arith, ints)

pub not_before : (y : ℤ) (den : ℕ) (a b : ℤ) → ((a -ℤ pos 1) *ℤ pos den) <ℤ y → y ≤ℤ (b *ℤ pos den) → a ≤ℤ b
not_before y den a b before high =
    let mid : ((a -ℤ pos 1) *ℤ pos den) <ℤ (b *ℤ pos den) = omega (arith, ints) in
    let s = lt_cancel (a -ℤ pos 1) b den mid in
    omega (arith, ints)

pub tightest : NoneIsTighter
tightest y den lo hi a b h low high = (not_past y den a lo low h.low_next, not_before y den hi b h.high_before high)

both : (a b : ℤ) → a ≤ℤ b → b ≤ℤ a → a ≡ b
both a b h k = omega (arith, ints, h, k)

pub encloses_one : (y : ℤ) (den : ℕ) (lo hi a b : ℤ) → Encloses y den lo hi → Encloses y den a b → (lo ≡ a) × (hi ≡ b)
encloses_one y den lo hi a b h k =
    let one = tightest y den lo hi a b h k.low k.high in
    let two = tightest y den a b lo hi k h.low h.high in
    (both lo a two.0 one.0, both hi b one.1 two.1)

pub in_order : (y : ℤ) (den : ℕ) (lo hi : ℤ) → Encloses y den lo hi → lo ≤ℤ hi
in_order y den lo hi h =
    let next : y <ℤ ((hi +ℤ pos 1) *ℤ pos den) = omega (
      arith,
      ints,
      next_times lo den,
      next_times hi den,
      h.low,
      h.low_next,
      h.high,
    ) in
    not_past y den lo hi h.low next

pub exact : ExactWhereEqual
exact y den lo hi h = (to, back)
  where
    to : lo ≡ hi → y ≡ lo *ℤ pos den
    to e =
        let high : y ≤ℤ (lo *ℤ pos den) = rw e h.high in
        let low : (lo *ℤ pos den) ≤ℤ y = h.low in
        omega (arith, ints, high, low)

    back : y ≡ lo *ℤ pos den → lo ≡ hi
    back e =
        let high : y ≤ℤ (lo *ℤ pos den) = omega (arith, ints, e) in
        both lo hi (in_order y den lo hi h) (tightest y den lo hi lo lo h h.low high).1

-- ---- the enclosure of bytes, whose parts are determined
pub enclosed_one : (r : Radix) (bytes : List ℕ) (format : FormatParts) (lo hi a b : ℤ) → IsEnclosed r bytes format lo hi
    → IsEnclosed r bytes format a b → (lo ≡ a) × (hi ≡ b)
enclosed_one r bytes format lo hi a b x y =
    let p = parts_one r bytes x.parts y.parts x.numeral y.numeral in
    let first : Encloses (in_ulps r y.parts format.frac) (magnitude r y.parts).den lo hi = rw p at x.encloses in
    encloses_one (in_ulps r y.parts format.frac) (magnitude r y.parts).den lo hi a b first y.encloses

in_not_out : (s : Bool) (n : ℕ) (v : ℤ) → IsInRange s n v → IsOutOfRange s n v → ⊥
in_not_out s n v i o = (range_decided s n v).1 o i

pub refusal_none : (r : Radix) (bytes : List ℕ) (format : FormatParts) (lo hi : ℤ) (kind : ParseErrorKind)
    → IsEnclosed r bytes format lo hi → IsRefusal r bytes format kind → ⊥
refusal_none r bytes format lo hi kind x (inl h) = h.none (x.parts, x.numeral)
refusal_none r bytes format lo hi kind x (inr (is, h)) =
    let p = parts_one r bytes x.parts h.parts x.numeral h.numeral in
    let first : Encloses (in_ulps r h.parts format.frac) (magnitude r h.parts).den lo hi = rw p at x.encloses in
    let one = encloses_one (in_ulps r h.parts format.frac) (magnitude r h.parts).den lo hi h.lo h.hi first h.encloses in
    let low : IsInRange format.signed format.width h.lo = rw one.0 at x.low in
    let high : IsInRange format.signed format.width h.hi = rw one.1 at x.high in
    ⊎_elim (λ o. in_not_out format.signed format.width h.lo low o)
    (λ o. in_not_out format.signed format.width h.hi high o) h.out

pub pair_one : PairIsTheOne
pair_one r bytes format lo hi x = (
  (λ a b y. enclosed_one r bytes format lo hi a b x y),
  (λ kind h. refusal_none r bytes format lo hi kind x h),
)

cause_one : (r : Radix) (bytes : List ℕ) (k l : ParseErrorKind) → HasCause r bytes k → HasCause r bytes l → k ≡ l
cause_one r bytes k l x y =
    let longest : x.count ≡ y.count =
    let a = y.prefix.longest x.count x.prefix.within (x.parts, x.prefix.beginning) in
    let b = x.prefix.longest y.count y.prefix.within (y.parts, y.prefix.beginning) in
    omega (arith, a, b) in
    let p : x.parts ≡ y.parts = parts_unique r (take y.count bytes) x.parts y.parts
    (rw longest at x.prefix.beginning) y.prefix.beginning in
    x.is_kind ∙ ap (λ n. kind_of r x.parts (slice_get bytes n)) longest ∙ ap
    (λ q. kind_of r q (slice_get bytes y.count)) p ∙ sym y.is_kind

pub refusal_one : (r : Radix) (bytes : List ℕ) (format : FormatParts) (k l : ParseErrorKind)
    → IsRefusal r bytes format k → IsRefusal r bytes format l → k ≡ l
refusal_one r bytes format k l (inl a) (inl b) = cause_one r bytes k l a b
refusal_one r bytes format k l (inl a) (inr b) = absurd (a.none (b.1.parts, b.1.numeral))
refusal_one r bytes format k l (inr a) (inl b) = absurd (b.none (a.1.parts, a.1.numeral))
refusal_one r bytes format k l (inr a) (inr b) = a.0 ∙ sym b.0
