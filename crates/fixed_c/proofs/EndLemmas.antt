-- Why a call has at most one end: one result, one refusal and one code.
use Rattle.std.proofs.Common.{◌==◌, if◌then◌else◌, ◌≡◌, ◌⊎◌, ◌↔◌, ◌∙◌, ℕ, ℤ, Bool, true, false, IsTrue, ◌+◌, ◌≤◌, List, [], ◌∷◌, ◌++◌, length, drop, Result, Ok, Err, MatchResult, inl, inr, refl, sym, ap, subst, arith, FitsSigned}
use Rattle.std.specs.Int.{w64}
use Rattle.std.proofs.lemmas.Int.{ints}
use Rattle.std.proofs.lemmas.List.{take-append-drop}
use Rattle.fixed_bits.specs.Formats.{FormatParts, IsFormat}
use Rattle.fixed_bits.specs.Ranges.{IsInRange}
use Rattle.fixed_bits.specs.Images.{IsImage, IsOutOfRangeBy}
use Rattle.fixed_bits.specs.declared.format.Policy.{Policy}
use Rattle.fixed_bits.specs.declared.format.Policy.TheVariants.{Checked, Saturating, Wrapping, Symmetric}
use Rattle.fixed_bits.specs.declared.mode.ReadMode.{ReadMode}
use Rattle.fixed_bits.specs.declared.mode.ReadMode.TheVariants.{NearestEven, Floor, Ceil, TowardsZero}
use Rattle.fixed_bits.specs.declared.mode.ReadMode.TheVariants.{NearestAway, NearestZero, NearestUp, NearestDown}
use Rattle.fixed_bits.specs.declared.mode.ReadMode.TheVariants.{AwayFromZero}
use Rattle.fixed_bits.proofs.Public.{image_one, range_decided}
use Rattle.fixed_numeral.specs.Numeral.{base}
use Rattle.fixed_numeral.specs.declared.error.ParseErrorKind.{ParseErrorKind}
use Rattle.fixed_numeral.specs.declared.radix.Radix.{Radix}
use Rattle.fixed_numeral.specs.declared.radix.Radix.TheVariants.{Bin, Oct, Dec, Hex}
use Rattle.fixed_c.specs.Codes.{mode_code, policy_code, refusal_code}
use Rattle.fixed_c.specs.Numbers.{AreBitsOf, flag_of, has_bits, IsBrought, IsNotBrought}
use Rattle.fixed_c.specs.Outcome.{EndsWith, ForKind, HandsOver, Unless}
use Rattle.fixed_c.specs.Texts.{IsPlaced, PutsText, TextEnds}
use Rattle.fixed_c.specs.declared.number.FixedNumber.{FixedNumber}
use Rattle.fixed_c.specs.declared.refusal.Refusal.{Refusal}
use Rattle.fixed_c.specs.declared.refusal.Refusal.TheVariants.{Numeral, NoRoom}

-- ---- ends of a call
pub end_one : {T : Type 0} (Right : T → Type 0) (Refused : Refusal → Type 0) (old a b : T) (code other : ℕ)
    → (Right a → Right b → a ≡ b) → ((x : T) (r : Refusal) → Right x → Refused r → ⊥) → ((r s : Refusal) → Refused r → Refused s → r ≡ s)
    → EndsWith Right Refused old a code → EndsWith Right Refused old b other → (code ≡ other) × (a ≡ b)
end_one Right Refused old a b code other same none one (inl p) (inl q) = (p.0 ∙ sym q.0, same p.1 q.1)
end_one Right Refused old a b code other same none one (inl p) (inr q) = absurd (none a q.0 p.1 q.2)
end_one Right Refused old a b code other same none one (inr p) (inl q) = absurd (none b p.0 q.1 p.2)
end_one Right Refused old a b code other same none one (inr p) (inr q) = (p.1 ∙ ap refusal_code (one p.0 q.0 p.2 q.2) ∙ sym q.1, p.3 ∙ sym q.3)

-- the call handed over an answer that is right, or a refusal for its cause
pub handed : {T : Type 0} (answer : Result T Refusal) (Right : T → Type 0) (Refused : Refusal → Type 0) (old new : T) (code : ℕ)
    → MatchResult answer Right Refused → HandsOver answer old new code → EndsWith Right Refused old new code
handed (Ok given) Right Refused old new code h e = inl (e.0, subst Right (sym e.1) h)
handed (Err refusal) Right Refused old new code h e = inr (refusal, e.0, h, e.1)

-- weaker properties of an answer or refusal follow from stronger ones
pub carried : {T : Type 0} (answer : Result T Refusal) (P Right : T → Type 0) (Q Refused : Refusal → Type 0)
    → ((x : T) → P x → Right x) → ((r : Refusal) → Q r → Refused r) → MatchResult answer P Q → MatchResult answer Right Refused
carried (Ok x) P Right Q Refused right refused h = right x h
carried (Err r) P Right Q Refused right refused h = refused r h

-- ---- refusals
pub unless_one : (Holds : Type 0) (bad : Refusal) (Others : Refusal → Type 0) (r s : Refusal) → (Others r → Others s → r ≡ s)
    → Unless Holds bad Others r → Unless Holds bad Others s → r ≡ s
unless_one Holds bad Others r s one (inl p) (inl q) = p.1 ∙ sym q.1
unless_one Holds bad Others r s one (inl p) (inr q) = absurd (p.0 q.0)
unless_one Holds bad Others r s one (inr p) (inl q) = absurd (q.0 p.0)
unless_one Holds bad Others r s one (inr p) (inr q) = one p.1 q.1

pub unless_none : (Holds : Type 0) (bad : Refusal) (Others : Refusal → Type 0) (r : Refusal) → Holds → (Others r → ⊥) → Unless Holds bad Others r → ⊥
unless_none Holds bad Others r h none (inl p) = p.0 h
unless_none Holds bad Others r h none (inr p) = none p.1

pub kind_one : (Why : ParseErrorKind → Type 0) (r s : Refusal) → ((k l : ParseErrorKind) → Why k → Why l → k ≡ l) → ForKind Why r → ForKind Why s → r ≡ s
kind_one Why r s one p q = p.1 ∙ ap Numeral (one p.0 q.0 p.2 q.2) ∙ sym q.1

-- ---- what a code of an option means
pub radix_one : (r s : Radix) (n : ℕ) → n ≡ base r → n ≡ base s → r ≡ s
radix_one Bin Bin n e g = refl
radix_one Oct Oct n e g = refl
radix_one Dec Dec n e g = refl
radix_one Hex Hex n e g = refl
radix_one Bin Oct n e g = absurd (omega arith)
radix_one Bin Dec n e g = absurd (omega arith)
radix_one Bin Hex n e g = absurd (omega arith)
radix_one Oct Bin n e g = absurd (omega arith)
radix_one Oct Dec n e g = absurd (omega arith)
radix_one Oct Hex n e g = absurd (omega arith)
radix_one Dec Bin n e g = absurd (omega arith)
radix_one Dec Oct n e g = absurd (omega arith)
radix_one Dec Hex n e g = absurd (omega arith)
radix_one Hex Bin n e g = absurd (omega arith)
radix_one Hex Oct n e g = absurd (omega arith)
radix_one Hex Dec n e g = absurd (omega arith)

policy_at : ℕ → Policy
policy_at n = if n == 0 then Checked else (if n == 1 then Saturating else (if n == 2 then Wrapping else Symmetric))

policy_is : (p : Policy) → p ≡ policy_at (policy_code p)
unfolding policy_at
policy_is Checked = refl
policy_is Saturating = refl
policy_is Wrapping = refl
policy_is Symmetric = refl

pub policy_one : (p q : Policy) (n : ℕ) → n ≡ policy_code p → n ≡ policy_code q → p ≡ q
policy_one p q n e g = policy_is p ∙ (ap policy_at (sym e ∙ g) ∙ sym (policy_is q))

mode_at : ℕ → ReadMode
mode_at n = if n == 0 then NearestEven else (if n == 1 then Floor else (if n == 2 then Ceil else (if n == 3 then TowardsZero else (if n == 4 then NearestAway else (if n == 5 then NearestZero else (if n == 6 then NearestUp else (if n == 7 then NearestDown else AwayFromZero)))))))

mode_is : (m : ReadMode) → m ≡ mode_at (mode_code m)
unfolding mode_at
mode_is NearestEven = refl
mode_is Floor = refl
mode_is Ceil = refl
mode_is TowardsZero = refl
mode_is NearestAway = refl
mode_is NearestZero = refl
mode_is NearestUp = refl
mode_is NearestDown = refl
mode_is AwayFromZero = refl

pub mode_one : (a b : ReadMode) (n : ℕ) → n ≡ mode_code a → n ≡ mode_code b → a ≡ b
mode_one a b n e g = mode_is a ∙ ap mode_at (sym e ∙ g) ∙ sym (mode_is b)

-- ---- bits
-- 64 bits stand for one number
pub number_of_bits : (sign : Bool) (bits n m : ℤ) → FitsSigned w64 bits → has_bits sign bits n → has_bits sign bits m → n ≡ m
number_of_bits true bits n m fits p q = p ∙ sym q
number_of_bits false bits n m fits (a, b, inl e) (c, d, inl g) = e ∙ sym g
number_of_bits false bits n m fits (a, b, inl e) (c, d, inr g) = absurd (omega (arith, ints))
number_of_bits false bits n m fits (a, b, inr e) (c, d, inl g) = absurd (omega (arith, ints))
number_of_bits false bits n m fits (a, b, inr e) (c, d, inr g) = e ∙ sym g

-- a number has one pattern of 64 bits
pub bits_of_number : (sign : Bool) (a b n : ℤ) → FitsSigned w64 a → FitsSigned w64 b → has_bits sign a n → has_bits sign b n → a ≡ b
bits_of_number true a b n x y p q = sym p ∙ q
bits_of_number false a b n x y (s, t, inl e) (u, v, inl g) = sym e ∙ g
bits_of_number false a b n x y (s, t, inl e) (u, v, inr g) = absurd (omega (arith, ints))
bits_of_number false a b n x y (s, t, inr e) (u, v, inl g) = absurd (omega (arith, ints))
bits_of_number false a b n x y (s, t, inr e) (u, v, inr g) = omega (arith, ints)

pub bits_one : (f : FormatParts) (bits n m : ℤ) → FitsSigned w64 bits → AreBitsOf f bits n → AreBitsOf f bits m → n ≡ m
bits_one f bits n m fits p q = number_of_bits f.signed bits n m fits p.bits_are q.bits_are

-- ---- flags
pub flag_one : (P : Type 0) (a b : Bool) → (IsTrue a ↔ P) → (IsTrue b ↔ P) → a ≡ b
flag_one P true true p q = refl
flag_one P false false p q = refl
flag_one P true false p q = absurd (let e : false ≡ true = q.1 (p.0 refl) in cc)
flag_one P false true p q = absurd (let e : false ≡ true = p.1 (q.0 refl) in cc)

-- ---- images
pub brought_one : (f : FormatParts) (p : Policy) (v a b : ℤ) (x y : ℕ) → IsFormat f.width f.frac → FitsSigned w64 a → FitsSigned w64 b
    → IsBrought f p v a x → IsBrought f p v b y → (a ≡ b) × (x ≡ y)
brought_one f p v a b x y format fa fb g h =
    let image : g.image ≡ h.image = image_one p f.signed f.width v g.image h.image format.is_width g.image_is h.image_is in
    let bits : has_bits f.signed b g.image = subst (λ (z : ℤ). has_bits f.signed b z) (sym image) h.bits_are in
    let flag : g.overflowed ≡ h.overflowed = flag_one (IsOutOfRangeBy p f.signed f.width v) g.overflowed h.overflowed g.overflowed_is h.overflowed_is in
    (bits_of_number f.signed a b g.image fa fb g.bits_are bits, g.flag_is ∙ ap flag_of flag ∙ sym h.flag_is)

checked_in : (f : FormatParts) (p : Policy) (v c : ℤ) → p ≡ Checked → IsImage p f.signed f.width v c → IsInRange f.signed f.width v
checked_in f Checked v c e h = h.in_range
checked_in f Saturating v c e h = absurd (cc)
checked_in f Wrapping v c e h = absurd (cc)
checked_in f Symmetric v c e h = absurd (cc)

pub brought_none : (f : FormatParts) (p : Policy) (v a : ℤ) (x : ℕ) → IsBrought f p v a x → IsNotBrought f p v → ⊥
brought_none f p v a x g h = (range_decided f.signed f.width v).1 h.out (checked_in f p v g.image h.checked g.image_is)

pub number_same : (a b : FixedNumber) → (a.bits ≡ b.bits) × (a.overflowed ≡ b.overflowed) → a ≡ b
number_same a b (p, q) =
    let made : ℤ → ℕ → FixedNumber = λ x y. record { bits = x; overflowed = y } in
    ap (λ x. made x a.overflowed) p ∙ ap (λ y. made b.bits y) q

-- ---- texts
placed_is : (text old new : List ℕ) → IsPlaced text old new → new ≡ (text ++ 0 ∷ []) ++ drop (length text + 1) old
placed_is text old new p =
    sym (take-append-drop (length text + 1) new) ∙ ap (λ x. x ++ drop (length text + 1) new) p.text_is ∙ ap (λ x. (text ++ 0 ∷ []) ++ x) p.rest_is

-- the text was placed, or it did not fit
abbrev Placing : List ℕ → List ℕ → List ℕ → ℕ → Type 0
Placing text old new code = ((code ≡ 0) × IsPlaced text old new) ⊎ ((code ≡ refusal_code NoRoom) × (length old ≤ length text) × (new ≡ old))

placing_one : (text old a b : List ℕ) (code other : ℕ) → Placing text old a code → Placing text old b other → (code ≡ other) × (a ≡ b)
placing_one text old a b code other (inl p) (inl q) = (p.0 ∙ sym q.0, placed_is text old a p.1 ∙ sym (placed_is text old b q.1))
placing_one text old a b code other (inl p) (inr q) = absurd (let h = p.1.fits in let g = q.1 in omega arith)
placing_one text old a b code other (inr p) (inl q) = absurd (let h = q.1.fits in let g = p.1 in omega arith)
placing_one text old a b code other (inr p) (inr q) = (p.0 ∙ sym q.0, p.2 ∙ sym q.2)

pub puts_one : (text old a b : List ℕ) (m n code other : ℕ) → PutsText text old a m code → PutsText text old b n other → (code ≡ other) × (a ≡ b) × (m ≡ n)
puts_one text old a b m n code other p q =
    let both = placing_one text old a b code other p.placed q.placed in
    (both.0, both.1, p.len_is ∙ sym q.len_is)

pub text_one : (IsRight : List ℕ → Type 0) (Refused : Refusal → Type 0) (old a b : List ℕ) (len m n code other : ℕ)
    → ((s t : List ℕ) → IsRight s → IsRight t → s ≡ t) → ((t : List ℕ) (r : Refusal) → IsRight t → Refused r → ⊥) → ((r s : Refusal) → Refused r → Refused s → r ≡ s)
    → TextEnds IsRight Refused old a len m code → TextEnds IsRight Refused old b len n other → (code ≡ other) × (a ≡ b) × (m ≡ n)
text_one IsRight Refused old a b len m n code other same none one (inl p) (inl q) =
    puts_one p.0 old a b m n code other p.2 (subst (λ (t : List ℕ). PutsText t old b n other) (same q.0 p.0 q.1 p.1) q.2)
text_one IsRight Refused old a b len m n code other same none one (inl p) (inr q) = absurd (none p.0 q.0 p.1 q.2)
text_one IsRight Refused old a b len m n code other same none one (inr p) (inl q) = absurd (none q.0 p.0 q.1 p.2)
text_one IsRight Refused old a b len m n code other same none one (inr p) (inr q) = (p.1 ∙ ap refusal_code (one p.0 q.0 p.2 q.2) ∙ sym q.1, p.3 ∙ sym q.3, p.4 ∙ sym q.4)
