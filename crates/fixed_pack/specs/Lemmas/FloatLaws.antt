-- A float becomes one word, and a word one float, or it is refused for one cause.
use Rattle.std.proofs.Common.{◌≡◌, ◌∙◌, ◌+◌, ◌-◌, ◌*◌, ◌^◌, ◌<◌, ℕ, ℤ, pos, negsuc, Bool, true, false, List, refl}
use Rattle.std.proofs.Common.{sym, ap, subst, arith, Option}
use Rattle.std.specs.Prelude.{is_some}
use Rattle.std.proofs.lemmas.Int.{ints}
use Rattle.std.proofs.lemmas.Nat.{pow-add}
use Rattle.fixed_bits.proofs.Public.{has_none, image_one}
use Rattle.fixed_bits.specs.Images.{IsImage}
use Rattle.fixed_bits.specs.Ranges.{IsInRange, IsWidth}
use Rattle.fixed_bits.specs.declared.format.Policy.TheVariants.{Checked}
use Rattle.fixed_command.proofs.Public.{word_fits}
use Rattle.fixed_command.specs.Hex.{word_of}
use Rattle.fixed_float.proofs.Public.{nearest_float_is_the_one, read_float_unique}
use Rattle.fixed_float.specs.Floats.{bits_of_float}
use Rattle.fixed_float.specs.Nearest.{IsNearestFloat}
use Rattle.fixed_float.specs.declared.layout.FloatLayout.{FloatLayout}
use Rattle.fixed_float.specs.declared.layout.FloatLayout.TheVariants.{Binary32, Binary64}
use Rattle.fixed_pack.specs.Floats.{AreFloatBits, IsFloatRefused, IsFloatWord, IsWordFloat, IsWordNot, IsWordRefused}
use Rattle.fixed_pack.specs.Floats.{float_size}
use Rattle.fixed_pack.specs.Word.{bytes_of, number_of, word_bytes}
use Rattle.fixed_pack.specs.declared.float_words.FloatWords.{FloatWords}
use Rattle.fixed_pack.specs.declared.float_words.WordRefusal.{WordRefusal}
use Rattle.fixed_pack.specs.declared.float_words.WordRefusal.TheVariants.{NotFinite, Overflow, TooWide}
use Rattle.fixed_pack.specs.declared.word_floats.WordFloats.{WordFloats}

pub float_word_one : (s : FloatWords) (bytes a b : List ℕ) (c d : Option WordRefusal) → IsFloatWord s bytes a c
    → IsFloatWord s bytes b d → (a ≡ b) × (is_some c ≡ is_some d)
float_word_one s bytes a b c d p q =
    let number : p.are.number ≡ q.are.number = read_float_unique s.mode s.layout (number_of s.endian bytes)
    s.format.frac p.are.number q.are.number p.are.read q.are.read in
    let bits : p.bits ≡ q.bits = image_one s.policy s.format.signed s.format.width q.are.number p.bits q.bits q.width
    (subst (λ v. IsImage s.policy s.format.signed s.format.width v p.bits) number p.are.image) q.are.image in
    (p.word_is ∙ (ap (word_bytes s.endian s.format) bits ∙ sym q.word_is), ap is_some (p.clean ∙ sym q.clean))

refused_by : (s : FloatWords) (float : ℕ) (k l : WordRefusal) → IsFloatRefused s float k → IsFloatRefused s float l
    → k ≡ l
refused_by s float NotFinite NotFinite p q = refl
refused_by s float NotFinite Overflow p q = absurd (p q.finite)
refused_by s float NotFinite TooWide p q = absurd q
refused_by s float Overflow NotFinite p q = absurd (q p.finite)
refused_by s float Overflow Overflow p q = refl
refused_by s float Overflow TooWide p q = absurd q
refused_by s float TooWide l p q = absurd p

pub refusal_one : (s : FloatWords) (bytes : List ℕ) (k l : WordRefusal) → IsWordNot s bytes k → IsWordNot s bytes l
    → k ≡ l
refusal_one s bytes k l p q = refused_by s (number_of s.endian bytes) k l p q

has_bits_or_not : (s : FloatWords) (float : ℕ) (bits : ℤ) (k : WordRefusal) → AreFloatBits s float bits
    → IsFloatRefused s float k → ⊥
has_bits_or_not s float bits NotFinite p q = q p.finite
has_bits_or_not s float bits Overflow p q =
    let number : p.number ≡ q.number = read_float_unique s.mode s.layout float s.format.frac p.number q.number p.read
    q.read in
    let image : IsImage Checked s.format.signed s.format.width p.number bits =
    subst (λ policy. IsImage policy s.format.signed s.format.width p.number bits) q.checked p.image in
    has_none s.format.signed s.format.width q.number bits q.out
    (subst (λ v. IsImage Checked s.format.signed s.format.width v bits) number image)
has_bits_or_not s float bits TooWide p q = q

pub float_never : (s : FloatWords) (bytes made : List ℕ) (c : Option WordRefusal) (k : WordRefusal)
    → IsFloatWord s bytes made c → IsWordNot s bytes k → ⊥
float_never s bytes made c k p q = has_bits_or_not s (number_of s.endian bytes) p.bits k p.are q

-- ---- words
-- numbers in range with the same word are the same number
pub same_word : (signed : Bool) (n : ℕ) (a b : ℤ) → IsWidth n → IsInRange signed n a → IsInRange signed n b
    → word_of n a ≡ word_of n b → a ≡ b
same_word signed n a b width p q e = by signed a b p q e
  where
    twice : 2 ^ n ≡ 2 ^ (n - 1) * 2
    twice = let all : n ≡ (n - 1) + 1 = omega (arith, width.some) in ap (λ i. 2 ^ i) all ∙ pow-add 2 (n - 1) 1

    by : (s : Bool) (x y : ℤ) → IsInRange s n x → IsInRange s n y → word_of n x ≡ word_of n y → x ≡ y
    by s (pos x) (pos y) l m same = ap pos same
    by true (pos x) (negsuc y) l m same = absurd (omega (arith, ints, l.high, m.low, twice, same))
    by false (pos x) (negsuc y) l m same = absurd (omega (arith, ints, m.low))
    by true (negsuc x) (pos y) l m same = absurd (omega (arith, ints, l.low, m.high, twice, same))
    by false (negsuc x) (pos y) l m same = absurd (omega (arith, ints, l.low))
    by true (negsuc x) (negsuc y) l m same = ap negsuc (omega (arith, ints, l.low, m.low, twice, same))
    by false (negsuc x) (negsuc y) l m same = absurd (omega (arith, ints, l.low))

few_bits : (layout : FloatLayout) (float : ℕ) → float < 256 ^ float_size layout → float < 2 ^ bits_of_float layout
few_bits Binary32 float few = omega (arith, few)
few_bits Binary64 float few = omega (arith, few)

pub word_float_one : (s : WordFloats) (bytes a b : List ℕ) (c d : Option WordRefusal) → IsWordFloat s bytes a c
    → IsWordFloat s bytes b d → (a ≡ b) × (is_some c ≡ is_some d)
word_float_one s bytes a b c d p q =
    let bits : p.bits ≡ q.bits = same_word s.format.signed s.format.width p.bits q.bits p.are.width p.are.in_range
    q.are.in_range (p.are.word_is ∙ sym q.are.word_is) in
    let float : p.float ≡ q.float = nearest_float_is_the_one s.layout q.bits s.format.frac p.float q.float
    (few_bits s.layout p.float p.few) (few_bits s.layout q.float q.few)
    (subst (λ v. IsNearestFloat s.layout v s.format.frac p.float) bits p.nearest) q.nearest in (
      p.float_is ∙ (ap (bytes_of s.endian (float_size s.layout)) float ∙ sym q.float_is),
      ap is_some (p.clean ∙ sym q.clean),
    )

pub width_one : (s : WordFloats) (bytes : List ℕ) (k l : WordRefusal) → IsWordRefused s bytes k
    → IsWordRefused s bytes l → k ≡ l
width_one s bytes NotFinite l p q = absurd p
width_one s bytes Overflow l p q = absurd p
width_one s bytes TooWide NotFinite p q = absurd q
width_one s bytes TooWide Overflow p q = absurd q
width_one s bytes TooWide TooWide p q = refl

pub word_never : (s : WordFloats) (bytes made : List ℕ) (c : Option WordRefusal) (k : WordRefusal)
    → IsWordFloat s bytes made c → IsWordRefused s bytes k → ⊥
word_never s bytes made c NotFinite p q = q
word_never s bytes made c Overflow p q = q
word_never s bytes made c TooWide p q =
    omega (arith, word_fits s.format p.bits p.are.width p.are.in_range, p.are.word_is, q)
