-- Lemmas for the proofs of dependent crates.
use Rattle.std.specs.Prelude.{◌≡◌, ℕ, suc, ◌+◌, ◌-◌, ◌*◌, ◌/◌, ◌%◌, ◌^◌, ◌<◌, ◌≤◌, Bool, false, List, [], ◌∷◌, ◌++◌, length, replicate, ℤ, unsigned_abs}
use Rattle.std.specs.Fmt.{decimal, digit_glyph}
use Rattle.fixed_bits.specs.Nearest.{IsEven}
use Rattle.fixed_bits.specs.Ranges.{IsWide}
use Rattle.fixed_write.specs.Laws.{PairIsNearest, PairIsTheOne, TextIsTheOne}
use Rattle.fixed_bits.specs.declared.mode.ReadMode.TheVariants.{NearestEven}
use Rattle.fixed_write.specs.Places.{IsExactText, exact_text, rounded_text}
use Rattle.fixed_write.specs.Shortest.{IsShortest}
use Rattle.fixed_write.specs.Texts.{IsShortestText, shortest_text, whole_digits, last_digits, fraction_part, point, zero_digit}
use Rattle.fixed_write.proofs.DigitLemmas
use Rattle.fixed_write.proofs.IntegerLemmas
use Rattle.fixed_write.proofs.LeadingLemmas
use Rattle.fixed_write.proofs.PassLemmas
use Rattle.fixed_write.proofs.PlacesLemmas
use Rattle.fixed_write.proofs.ShortestLemmas
use Rattle.fixed_write.proofs.StyledLemmas
use Rattle.fixed_write.proofs.TextLemmas

-- ---- the shortest decimal
pub shortest_exists : (c g : ℕ) → (n : ℕ) × (k : ℕ) × IsShortest c g n k
shortest_exists = PassLemmas.shortest_exists

pub shortest_unique : PairIsTheOne
shortest_unique = ShortestLemmas.shortest_unique

pub shortest_is_nearest : PairIsNearest
shortest_is_nearest = ShortestLemmas.shortest_is_nearest

-- a shortest decimal has at most g digits, and at most 20 if g is at most 64
pub shortest_at_most : (c g n k : ℕ) → IsShortest c g n k → (k ≤ g) × (g ≤ 64 → k ≤ 20)
shortest_at_most = ShortestLemmas.shortest_at_most

-- ---- texts
pub shortest_text_is : (c : ℤ) (g : ℕ) → IsShortestText c g (shortest_text c g)
shortest_text_is = TextLemmas.shortest_text_is

pub shortest_text_unique : TextIsTheOne
shortest_text_unique = TextLemmas.shortest_text_unique

pub exact_text_unique : (base : ℕ) (upper : Bool) (c : ℤ) (g : ℕ) (a b : List ℕ) → IsExactText base upper c g a → IsExactText base upper c g b → a ≡ b
exact_text_unique = PlacesLemmas.exact_text_unique

pub exact_text_is : (base : ℕ) (upper : Bool) (c : ℤ) (g : ℕ) → IsEven base → IsExactText base upper c g (exact_text base upper c g)
exact_text_is = PlacesLemmas.exact_text_is

-- a value with more than 64 places ends in zeros
pub rounded_zeros : (z : ℕ) (c : ℤ) (g : ℕ) → g ≤ 64 → rounded_text NearestEven 10 false (64 + z) c g ≡ rounded_text NearestEven 10 false 64 c g ++ replicate z zero_digit
rounded_zeros = StyledLemmas.rounded_zeros

-- ---- numbers
pub wide_magnitude : (v : ℤ) → IsWide v → unsigned_abs v < 2 ^ 64
wide_magnitude = PlacesLemmas.wide_magnitude

-- the decimal digits are those that std writes
pub decimal_is : (n : ℕ) → n < 2 ^ 64 → decimal n ≡ whole_digits 10 false n
decimal_is = IntegerLemmas.decimal_is

-- ---- the last digits of a number
pub last_digits_none : (b : ℕ) (u : Bool) (n : ℕ) → last_digits b u 0 n ≡ []
last_digits_none = DigitLemmas.last_digits_none

pub last_digits_suc : (b : ℕ) (u : Bool) (k n : ℕ) → last_digits b u (suc k) n ≡ last_digits b u k (n / b) ++ digit_glyph u (n % b) ∷ []
last_digits_suc = DigitLemmas.last_digits_suc

pub last_digits_more : (b : ℕ) (u : Bool) (k n : ℕ) → 0 < k → last_digits b u k n ≡ last_digits b u (k - 1) (n / b) ++ digit_glyph u (n % b) ∷ []
last_digits_more = DigitLemmas.last_digits_more

pub last_digits_length : (b : ℕ) (u : Bool) (k n : ℕ) → length (last_digits b u k n) ≡ k
last_digits_length = DigitLemmas.last_digits_length

pub fraction_some : (b : ℕ) (u : Bool) (k n : ℕ) → 0 < k → fraction_part b u k n ≡ point ∷ last_digits b u k n
fraction_some = DigitLemmas.fraction_some

-- ---- all digits of a number
pub whole_digits_digit : (b : ℕ) (u : Bool) (n : ℕ) → 2 ≤ b → n < b → whole_digits b u n ≡ digit_glyph u n ∷ []
whole_digits_digit = DigitLemmas.whole_digits_digit

pub whole_digits_more : (b : ℕ) (u : Bool) (n : ℕ) → 2 ≤ b → b ≤ n → whole_digits b u n ≡ whole_digits b u (n / b) ++ digit_glyph u (n % b) ∷ []
whole_digits_more = DigitLemmas.whole_digits_more

pub whole_digits_short : (b : ℕ) (u : Bool) (k n : ℕ) → 2 ≤ b → 0 < k → n < b ^ k → length (whole_digits b u n) ≤ k
whole_digits_short = DigitLemmas.whole_digits_short

-- a number of k + 1 digits is its last k + 1 digits
pub whole_digits_full : (b : ℕ) (u : Bool) (k n : ℕ) → 2 ≤ b → b ^ k ≤ n → n < b ^ suc k → whole_digits b u n ≡ last_digits b u (suc k) n
whole_digits_full = DigitLemmas.whole_digits_full

-- a number times a power of ten has zeros after its digits
pub whole_zeros : (n z : ℕ) → 0 < n → whole_digits 10 false (n * 10 ^ z) ≡ whole_digits 10 false n ++ replicate z zero_digit
whole_zeros = LeadingLemmas.whole_zeros
