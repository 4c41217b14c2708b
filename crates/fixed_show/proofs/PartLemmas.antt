-- A text has just one part or one fault, and bytes reversed twice are the same.
use Rattle.std.proofs.Common.{◌≡◌, ◌∙◌, ℕ, zero, suc, ◌+◌, ◌-◌, ◌*◌, ◌/◌, ◌%◌, ◌^◌, ◌<◌, ◌≤◌, ℤ, pos, List, [], ◌∷◌, Bool, Option, Some, None, true, false, length, refl, sym, ap, subst, arith, inl, true≢false, mod-eq_of_lt, get_or, take, length-append}
use Rattle.std.proofs.Math.Nat.{div-eq_of_lt, mul-le-mul_left, mul-le-mul_right, one-le-pow, pow-le-pow_right, pow-succ', pow-zero}
use Rattle.std.proofs.lemmas.Int.{ints}
use Rattle.fixed_bits.proofs.Public.{image_one}
use Rattle.fixed_bits.specs.Formats.{FormatParts}
use Rattle.fixed_bits.specs.Images.{IsWrapped}
use Rattle.fixed_bits.specs.Ranges.{IsWidth}
use Rattle.fixed_bits.specs.declared.format.Policy.TheVariants.{Wrapping}
use Rattle.fixed_numeral.specs.declared.radix.Radix.{Radix}
use Rattle.fixed_numeral.specs.declared.radix.Radix.TheVariants.{Bin, Oct, Dec, Hex}
use Rattle.fixed_numeral.specs.Literal.{without_underscores}
use Rattle.fixed_show.specs.BitsBlock.{AreValues}
use Rattle.fixed_show.specs.Forms.{refusal}
use Rattle.fixed_show.specs.JsonText.{object_text}
use Rattle.fixed_show.specs.declared.form.Form.{Form}
use Rattle.fixed_show.specs.declared.form.Form.TheVariants.{Lines, Members}
use Rattle.fixed_show.specs.PartLaws.{PartBlockIsTheOne, PartFaultIsTheOne, PartHasNoFault, PartIsTheOne, PartObjectIsTheOne, ReversedTwice, WholeFieldIsTheWord, WholeIsTheWord}
use Rattle.fixed_show.specs.PartText.{AreBits, ArePartFacts, IsLongWord, IsOrdered, WritesBytes, longest, part_message, reach_of, reversed_bytes}
use Rattle.fixed_show.specs.WordText.{HasWordFault, word_digits, word_radix}
use Rattle.fixed_show.specs.declared.parts.Part.{Part}
use Rattle.fixed_show.specs.declared.parts.PartFault.TheVariants.{Signed, NoWord, NotBytes, TooWide}
use Rattle.fixed_show.specs.declared.words.WordFault.{WordFault}
use Rattle.fixed_show.proofs.BlockLawLemmas.{values_one}
use Rattle.fixed_show.proofs.WordLawLemmas.{fault_one, no_fault}
use Rattle.fixed_show.proofs.WordLemmas.{without_more_other}

-- ---- a text has one word, one order and one field
word_same : (bare : Radix) (text : List ℕ) (a b : ℕ) → IsLongWord bare text a → IsLongWord bare text b → a ≡ b
word_same bare text a b x y = x.spells.number ∙ sym y.spells.number

bytes_one : (r : Radix) (d a b : ℕ) → WritesBytes r d a → WritesBytes r d b → a ≡ b
bytes_one Bin d a b x y = omega (arith, x, y)
bytes_one Oct d a b x y = absurd x
bytes_one Dec d a b x y = absurd x
bytes_one Hex d a b x y = omega (arith, x, y)

ordered_one : (o : Bool) (bare : Radix) (text : List ℕ) (reach n a b : ℕ) → IsOrdered o bare text reach n a → IsOrdered o bare text reach n b → a ≡ b
ordered_one false bare text reach n a b x y = x ∙ sym y
ordered_one true bare text reach n a b x y =
    let count : x.count ≡ y.count = bytes_one (word_radix bare text) (length (word_digits bare text)) x.count y.count x.bytes y.bytes in
    x.number ∙ ap (λ c. reversed_bytes c n) count ∙ sym y.number

bits_one : (low : Option ℕ) (w n a b : ℕ) → AreBits low w n a → AreBits low w n b → a ≡ b
bits_one None w n a b x y = x.0 ∙ sym y.0
bits_one (Some low) w n a b x y = x ∙ sym y

pub part_one : PartIsTheOne
part_one bare part f text v w width x y =
    let word : x.word ≡ y.word = word_same bare text x.word y.word x.is_word y.is_word in
    let ordered : x.ordered ≡ y.ordered = ordered_one part.is_reversed bare text (reach_of part f) y.word x.ordered y.ordered (subst (λ n. IsOrdered part.is_reversed bare text (reach_of part f) n x.ordered) word x.is_ordered) y.is_ordered in
    let bits : x.bits ≡ y.bits = bits_one part.low f.width y.ordered x.bits y.bits (subst (λ n. AreBits part.low f.width n x.bits) ordered x.are_bits) y.are_bits in
    image_one Wrapping f.signed f.width (pos y.bits) v w width (subst (λ n. IsWrapped f.signed f.width (pos n) v) bits x.is) y.is

-- ---- a text has one fault
both : (b : Bool) → b ≡ false → b ≡ true → ⊥
both b off on = absurd (true≢false (sym on ∙ off))

own_image : (n : ℕ) → n < 2 ^ 64 → IsWrapped false 64 (pos n) (pos n)
own_image n small = record { in_range = record { low = omega (arith, ints); high = omega (arith, ints, small) }; near = (0, 0, refl) }

long_or_fault : (bare : Radix) (text : List ℕ) (n : ℕ) (fault : WordFault) → IsLongWord bare text n → HasWordFault bare longest text fault → ⊥
long_or_fault bare text n fault x y = no_fault bare longest text fault (pos n) y (inl (record { plain = x.plain; word = n; spells = x.spells; fits = x.fits; is = own_image n x.fits }))

moved_word : (bare : Radix) (part : Part) (f : FormatParts) (text : List ℕ) (n m o : ℕ) → IsLongWord bare text n → IsLongWord bare text m → IsOrdered part.is_reversed bare text (reach_of part f) n o → IsOrdered part.is_reversed bare text (reach_of part f) m o
moved_word bare part f text n m o x y is = subst (λ k. IsOrdered part.is_reversed bare text (reach_of part f) k o) (word_same bare text n m x y) is

pub part_fault_one : PartFaultIsTheOne
part_fault_one bare part f text Signed Signed x y = refl
part_fault_one bare part f text Signed (NoWord g) x y = absurd (both _ y.0 x)
part_fault_one bare part f text Signed NotBytes x y = absurd (both _ y.is_word.plain x)
part_fault_one bare part f text Signed TooWide x y = absurd (both _ y.is_word.plain x)
part_fault_one bare part f text (NoWord g) Signed x y = absurd (both _ x.0 y)
part_fault_one bare part f text (NoWord g) (NoWord h) x y = ap NoWord (fault_one bare longest text g h x.1 y.1)
part_fault_one bare part f text (NoWord g) NotBytes x y = absurd (long_or_fault bare text y.word g y.is_word x.1)
part_fault_one bare part f text (NoWord g) TooWide x y = absurd (long_or_fault bare text y.word g y.is_word x.1)
part_fault_one bare part f text NotBytes Signed x y = absurd (both _ x.is_word.plain y)
part_fault_one bare part f text NotBytes (NoWord g) x y = absurd (long_or_fault bare text x.word g x.is_word y.1)
part_fault_one bare part f text NotBytes NotBytes x y = refl
part_fault_one bare part f text NotBytes TooWide x y = absurd (x.none y.ordered (moved_word bare part f text y.word x.word y.ordered y.is_word x.is_word y.is_ordered))
part_fault_one bare part f text TooWide Signed x y = absurd (both _ x.is_word.plain y)
part_fault_one bare part f text TooWide (NoWord g) x y = absurd (long_or_fault bare text x.word g x.is_word y.1)
part_fault_one bare part f text TooWide NotBytes x y = absurd (y.none x.ordered (moved_word bare part f text x.word y.word x.ordered x.is_word y.is_word x.is_ordered))
part_fault_one bare part f text TooWide TooWide x y = refl

pub part_no_fault : PartHasNoFault
part_no_fault bare part f text Signed v x y = both _ y.is_word.plain x
part_no_fault bare part f text (NoWord g) v x y = long_or_fault bare text y.word g y.is_word x.1
part_no_fault bare part f text NotBytes v x y = x.none y.ordered (moved_word bare part f text y.word x.word y.ordered y.is_word x.is_word y.is_ordered)
part_no_fault bare part f text TooWide v x y =
    let ordered : y.ordered ≡ x.ordered = ordered_one part.is_reversed bare text (reach_of part f) x.word y.ordered x.ordered (moved_word bare part f text y.word x.word y.ordered y.is_word x.is_word y.is_ordered) x.is_ordered in
    x.none y.bits (subst (λ n. AreBits part.low f.width n y.bits) ordered y.are_bits)

-- ---- a text has one block
part_facts_one : (form : Form) (bare : Radix) (part : Part) (f : FormatParts) (text : List ℕ) (o p : Bool) (a b : List ℕ) → IsWidth f.width → ArePartFacts form bare part f text o a → ArePartFacts form bare part f text p b → (o ≡ p) × (a ≡ b)
part_facts_one form bare part f text true true a b width x y =
    (refl, x.facts_are ∙ ap (λ w. refusal form (part_message w)) (part_fault_one bare part f text x.fault y.fault x.is_fault y.is_fault) ∙ sym y.facts_are)
part_facts_one form bare part f text true false a b width x y = absurd (part_no_fault bare part f text x.fault y.bits x.is_fault y.is_part)
part_facts_one form bare part f text false true a b width x y = absurd (part_no_fault bare part f text y.fault x.bits y.is_fault x.is_part)
part_facts_one form bare part f text false false a b width x y =
    let bits : x.bits ≡ y.bits = part_one bare part f text x.bits y.bits width x.is_part y.is_part in
    (refl, values_one form f y.bits a b width (subst (λ (v : ℤ). AreValues form f v a) bits x.values) y.values)

pub part_block_one : PartBlockIsTheOne
part_block_one bare part f text o p a b width x y = part_facts_one Lines bare part f text o p a b width x y

pub part_object_one : PartObjectIsTheOne
part_object_one bare part f text o p a b width x y =
    let same = part_facts_one Members bare part f text o p x.members y.members width x.are_facts y.are_facts in
    (same.0, x.object_is ∙ ap (object_text text) same.1 ∙ sym y.object_is)

-- ---- the whole word
within_long : (n w : ℕ) → w ≤ 64 → n < 2 ^ w → n < 2 ^ 64
within_long n w most small = let m : 2 ^ w ≤ 2 ^ 64 = pow-le-pow_right {n = 2} (omega arith) {i = w} {j = 64} most in omega (arith, m, small)

pub whole_is_word : WholeIsTheWord
whole_is_word bare f text v width = (
  (λ x. record {
    plain = x.is_word.plain;
    word = x.word;
    spells = x.is_word.spells;
    fits = omega (arith, x.is_ordered, x.are_bits.1);
    is = subst (λ n. IsWrapped f.signed f.width (pos n) v) (x.are_bits.0 ∙ x.is_ordered) x.is;
  }),
  (λ y. record {
    word = y.word;
    is_word = record { plain = y.plain; spells = y.spells; fits = within_long y.word f.width width.most y.fits };
    ordered = y.word;
    is_ordered = refl;
    bits = y.word;
    are_bits = (refl, y.fits);
    is = y.is;
  }),
)

rest_of_less : (n m : ℕ) → n < m → n ≡ n / 2 ^ 0 % m
rest_of_less n m small =
    let whole : n / 2 ^ 0 ≡ n = rw (pow-zero 2) (omega arith) in
    sym (ap (λ k. k % m) whole ∙ mod-eq_of_lt small)

pub field_is_word : WholeFieldIsTheWord
field_is_word bare f text v width y = record {
  word = y.word;
  is_word = record { plain = y.plain; spells = y.spells; fits = within_long y.word f.width width.most y.fits };
  ordered = y.word;
  is_ordered = refl;
  bits = y.word;
  are_bits = rest_of_less y.word (2 ^ f.width) y.fits;
  is = y.is;
}

-- ---- bytes in reverse
some_power : (c : ℕ) → 0 < 256 ^ c
some_power c = one-le-pow c 256 (omega arith)

reversed_more : (c n : ℕ) → reversed_bytes (suc c) n ≡ n % 256 * 256 ^ c + reversed_bytes c (n / 256)
unfolding reversed_bytes
reversed_more c n = refl

reversed_none : (n : ℕ) → reversed_bytes 0 n ≡ 0
unfolding reversed_bytes
reversed_none n = refl

pub reversed_small : (c n : ℕ) → reversed_bytes c n < 256 ^ c
reversed_small zero n = omega (arith, reversed_none n)
reversed_small (suc c) n =
    let rest = reversed_small c (n / 256) in
    let byte : n % 256 + 1 ≤ 256 = omega arith in
    let most : (n % 256 + 1) * 256 ^ c ≤ 256 * 256 ^ c = mul_most (n % 256 + 1) 256 (256 ^ c) byte in
    omega (arith, reversed_more c n, rest, most)
  where
    mul_most : (a b t : ℕ) → a ≤ b → a * t ≤ b * t
    mul_most a b t h = grind (arith, h)

more_up : (a c : ℕ) → a * 256 ^ suc c ≡ a * 256 ^ c * 256
more_up a c = ap (λ t. a * t) (pow-succ' 256 c) ∙ by_parts a (256 ^ c)
  where
    by_parts : (x t : ℕ) → x * (256 * t) ≡ x * t * 256
    by_parts x t = omega arith

-- the highest byte becomes the lowest one
onto_top : (c a m : ℕ) → a < 256 → m < 256 ^ c → reversed_bytes (suc c) (a * 256 ^ c + m) ≡ reversed_bytes c m * 256 + a
onto_top zero a m byte small =
    let none : m ≡ 0 = omega (arith, small) in
    let is : a * 256 ^ 0 + m ≡ a = omega (arith, none) in
    ap (λ n. reversed_bytes 1 n) is ∙ reversed_more 0 a ∙ omega (arith, byte, reversed_none (a / 256), reversed_none m)
onto_top (suc c) a m byte small =
    let n : ℕ = a * 256 ^ suc c + m in
    let up : a * 256 ^ suc c ≡ a * 256 ^ c * 256 = more_up a c in
    let low : n % 256 ≡ m % 256 = low_byte (a * 256 ^ c) m n (omega (arith, up)) in
    let high : n / 256 ≡ a * 256 ^ c + m / 256 = high_bytes (a * 256 ^ c) m n (omega (arith, up)) in
    let less : m / 256 < 256 ^ c = omega (arith, small) in
    let rest = onto_top c a (m / 256) byte less in
    let first : reversed_bytes (suc (suc c)) n ≡ m % 256 * 256 ^ suc c + reversed_bytes (suc c) (a * 256 ^ c + m / 256) = reversed_more (suc c) n ∙ (rw (low, high) refl) in
    first ∙ omega (arith, rest, reversed_more c m, more_up (m % 256) c)
  where
    low_byte : (x m n : ℕ) → n ≡ x * 256 + m → n % 256 ≡ m % 256
    low_byte x m n e = omega (arith, e)

    high_bytes : (x m n : ℕ) → n ≡ x * 256 + m → n / 256 ≡ x + m / 256
    high_bytes x m n e = omega (arith, e)

pub twice : ReversedTwice
twice zero n small = reversed_none (reversed_bytes 0 n) ∙ omega (arith, small)
twice (suc c) n small =
    let less : n / 256 < 256 ^ c = omega (arith, small) in
    let byte : n % 256 < 256 = omega arith in
    ap (λ k. reversed_bytes (suc c) k) (reversed_more c n) ∙ onto_top c (n % 256) (reversed_bytes c (n / 256)) byte (reversed_small c (n / 256))
    ∙ ap (λ k. k * 256 + n % 256) (twice c (n / 256) less) ∙ omega arith

-- ---- steps of the code
-- one more byte
step_is : (number rest c : ℕ) → (number * 256 + rest % 256) * 256 ^ c + reversed_bytes c (rest / 256) ≡ number * 256 ^ suc c + reversed_bytes (suc c) rest
step_is number rest c = omega (arith, reversed_more c rest, more_up number c, apart number (rest % 256) (256 ^ c))
  where
    apart : (a b t : ℕ) → (a * 256 + b) * t ≡ a * t * 256 + b * t
    apart a b t = omega arith

pub one_byte_more : (number rest count : ℕ) → ¬ (count ≡ 0) → (number * 256 + rest % 256) * 256 ^ (count - 1) + reversed_bytes (count - 1) (rest / 256) ≡ number * 256 ^ count + reversed_bytes count rest
one_byte_more number rest zero some = absurd (some refl)
one_byte_more number rest (suc c) some = let e : suc c - 1 ≡ c = omega arith in rw e (step_is number rest c)

pub no_byte_more : (number rest count : ℕ) → count ≡ 0 → number ≡ number * 256 ^ count + reversed_bytes count rest
no_byte_more number rest zero none = omega (arith, reversed_none rest)
no_byte_more number rest (suc c) none = absurd (omega (arith, none))

-- there is room for the next byte
less_room : (number rest c l : ℕ) → (number + 1) * 256 ^ suc c ≤ l → (number * 256 + rest % 256 + 1) * 256 ^ c ≤ l
less_room number rest c l room =
    let most : (number * 256 + rest % 256 + 1) * 256 ^ c ≤ (number + 1) * 256 * 256 ^ c = mul-le-mul_right (256 ^ c) (let m : number * 256 + rest % 256 + 1 ≤ (number + 1) * 256 = omega arith in m) in
    omega (arith, most, more_up (number + 1) c, room, apart (number + 1) (256 ^ c))
  where
    apart : (a t : ℕ) → a * 256 * t ≡ a * t * 256
    apart a t = omega arith

pub room_less : (number rest count l : ℕ) → ¬ (count ≡ 0) → (number + 1) * 256 ^ count ≤ l → (number * 256 + rest % 256 + 1) * 256 ^ (count - 1) ≤ l
room_less number rest zero l some room = absurd (some refl)
room_less number rest (suc c) l some room = let e : suc c - 1 ≡ c = omega arith in rw e (less_room number rest c l room)

pub room_some : (number rest count l : ℕ) → ¬ (count ≡ 0) → (number + 1) * 256 ^ count ≤ l → number * 256 + rest % 256 + 1 ≤ l
room_some number rest count l some room =
    let less = room_less number rest count l some room in
    let most : (number * 256 + rest % 256 + 1) * 1 ≤ (number * 256 + rest % 256 + 1) * 256 ^ (count - 1) = mul-le-mul_left (number * 256 + rest % 256 + 1) (some_power (count - 1)) in
    omega (arith, most, less)

-- at most 8 bytes fit 64 bits
pub room_for_bytes : (count : ℕ) → count ≤ 8 → 1 * 256 ^ count ≤ 18446744073709551616
room_for_bytes count most = let p : 256 ^ count ≤ 256 ^ 8 = pow-le-pow_right {n = 256} (omega arith) {i = count} {j = 8} most in omega (arith, p)

pub one_digit_more : (bs : List ℕ) (i n : ℕ) → i < length bs → (get_or bs i 0 ≡ 95 → ⊥) → n ≡ length (without_underscores (take i bs)) → n + 1 ≡ length (without_underscores (take (i + 1) bs))
one_digit_more bs i n h u e = omega (arith, e, ap length (without_more_other bs i h u), length-append (without_underscores (take i bs)) (get_or bs i 0 ∷ []))

-- a word below 2^64 has only zeros from bit 64 on
pub none_above : (word low m : ℕ) → word < 2 ^ 64 → 64 ≤ low → 0 ≡ word / 2 ^ low % m
none_above word low m small high =
    let p : 2 ^ 64 ≤ 2 ^ low = pow-le-pow_right {n = 2} (omega arith) {i = 64} {j = low} high in
    let none : word / 2 ^ low ≡ 0 = div-eq_of_lt (let less : word < 2 ^ low = omega (arith, p, small) in less) in
    let zero_rest : 0 % m ≡ 0 = omega arith in
    sym (ap (λ k. k % m) none ∙ zero_rest)
