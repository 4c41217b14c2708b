-- The bytes of words, and the number that they spell.
use Rattle.std.proofs.Common.{◌≡◌, ◌∙◌, ◌+◌, ◌-◌, ◌*◌, ◌/◌, ◌%◌, ◌^◌, ◌<◌, ◌≤◌, ℕ, zero, suc, List, [], ◌∷◌, ◌++◌, length, take, drop, get_or, reverse, refl, sym, ap, arith, append-nil, append_assoc, pow-suc}
use Rattle.std.proofs.Math.Nat.{div-div-eq-div-mul, div-one, pow-le-pow_right}
use Rattle.std.proofs.Math.Seq.{drop-append_seam, take-append_seam}
use Rattle.std.proofs.lemmas.Grind.{reverse_onto}
use Rattle.std.proofs.lemmas.List.{length-drop, length-reverse, reverse-append, reverse-reverse, take_all, take_more, take_rest}
use Rattle.std.proofs.lemmas.Nat.{be_bytes_2, be_bytes_4, be_bytes_8, le_bytes_2, le_bytes_4, le_bytes_8}
use Rattle.std.specs.Int.{byte_at, bytes_low_first, from_be_bytes, from_le_bytes, to_be_bytes, to_le_bytes, w16, w32, w64}
use Rattle.fixed_pack.specs.Laws.{WordReadsBack}
use Rattle.fixed_pack.specs.Word.{bytes_of, low_bytes, low_number, number_of}
use Rattle.fixed_pack.specs.declared.endian.Endian.{Endian}
use Rattle.fixed_pack.specs.declared.endian.Endian.TheVariants.{Big, Little}

pub low_none : (n : ℕ) → low_bytes zero n ≡ []
unfolding low_bytes
low_none n = refl

pub low_more : (k n : ℕ) → low_bytes (suc k) n ≡ n % 256 ∷ low_bytes k (n / 256)
unfolding low_bytes
low_more k n = refl

pub number_none : low_number [] ≡ 0
unfolding low_number
number_none = refl

pub number_more : (b : ℕ) (bs : List ℕ) → low_number (b ∷ bs) ≡ b + 256 * low_number bs
unfolding low_number
number_more b bs = refl

pub reverse_more : (b : ℕ) (bs : List ℕ) → reverse (b ∷ bs) ≡ reverse bs ++ b ∷ []
reverse_more b bs = reverse_onto bs b []

pub low_length : (k n : ℕ) → length (low_bytes k n) ≡ k
low_length zero n = ap length (low_none n)
low_length (suc k) n = ap length (low_more k n) ∙ omega (arith, low_length k (n / 256))

pub bytes_length : (endian : Endian) (k n : ℕ) → length (bytes_of endian k n) ≡ k
bytes_length Little k n = low_length k n
bytes_length Big k n = length-reverse (low_bytes k n) ∙ low_length k n

-- ---- appended one by one
pub none_pushed_high : (old : List ℕ) (count n : ℕ) → count ≡ 0 → old ≡ old ++ reverse (low_bytes count n)
none_pushed_high old count n none = sym (append-nil old) ∙ ap (λ l. old ++ reverse l) (sym (ap (λ k. low_bytes k n) none ∙ low_none n))

pub high_pushed : (old mid new : List ℕ) (count n : ℕ) → 0 < count → mid ≡ old ++ reverse (low_bytes (count - 1) (n / 256)) → new ≡ mid ++ (n % 256) ∷ [] → new ≡ old ++ reverse (low_bytes count n)
high_pushed old mid new zero n some first rest = absurd (omega (arith, some))
high_pushed old mid new (suc k) n some first rest =
    let one : suc k - 1 ≡ k = omega arith in
    let byte : List ℕ = n % 256 ∷ [] in
    let high : List ℕ = reverse (low_bytes k (n / 256)) in
    rest ∙ ap (λ l. l ++ byte) (first ∙ ap (λ j. old ++ reverse (low_bytes j (n / 256))) one)
    ∙ append_assoc old high byte ∙ ap (λ l. old ++ l) (sym (reverse_more (n % 256) (low_bytes k (n / 256)))) ∙ ap (λ l. old ++ reverse l) (sym (low_more k n))

-- ---- the number that the bytes spell
pub low_back : (k n : ℕ) → n < 256 ^ k → low_number (low_bytes k n) ≡ n
low_back zero n fits = ap low_number (low_none n) ∙ (number_none ∙ omega (arith, fits))
low_back (suc k) n fits =
    let less : n / 256 < 256 ^ k = omega (arith, fits, pow-suc 256 k) in
    ap low_number (low_more k n) ∙ (number_more (n % 256) (low_bytes k (n / 256)) ∙ omega (arith, low_back k (n / 256) less))

pub word_back : WordReadsBack
word_back Little k n fits = low_back k n fits
word_back Big k n fits = ap low_number (reverse-reverse (low_bytes k n)) ∙ low_back k n fits

-- ---- the number, byte by byte
pub none_number : (bytes : List ℕ) → length bytes < 1 → 0 ≡ low_number bytes
none_number [] none = sym number_none
none_number (b ∷ bs) none = absurd (omega (arith, none))

pub none_reversed : (bytes : List ℕ) → length bytes < 1 → 0 ≡ low_number (reverse bytes)
none_reversed bytes none = none_number (reverse bytes) (omega (arith, none, length-reverse bytes))

first_number : (bytes : List ℕ) → 0 < length bytes → get_or bytes 0 0 + 256 * low_number (drop 1 bytes) ≡ low_number bytes
first_number [] some = absurd (omega (arith, some))
first_number (b ∷ bs) some = sym (number_more b bs)

pub low_cut : (bytes : List ℕ) (b n : ℕ) → 1 ≤ length bytes → b ≡ get_or bytes 0 0 → n ≡ low_number (take (length bytes - 1) (drop 1 bytes)) → b + 256 * n ≡ low_number bytes
low_cut bytes b n some first rest =
    let same : n ≡ low_number (drop 1 bytes) = rest ∙ ap low_number (take_rest bytes 1) in
    omega (arith, first, same, first_number bytes (omega (arith, some)))

pub high_cut : (bytes : List ℕ) (b n : ℕ) → 1 ≤ length bytes → b ≡ get_or bytes (length bytes - 1) 0 → n ≡ low_number (reverse (take (length bytes - 1) bytes)) → b + 256 * n ≡ low_number (reverse bytes)
high_cut bytes b n some last rest =
    let k : ℕ = length bytes - 1 in
    let c : ℕ = get_or bytes k 0 in
    let whole : bytes ≡ take k bytes ++ c ∷ [] = sym (take_all (k + 1) bytes (omega (arith, some))) ∙ take_more bytes k 0 (omega (arith, some)) in
    let turned : reverse bytes ≡ c ∷ reverse (take k bytes) = ap reverse whole ∙ reverse-append (take k bytes) (c ∷ []) in
    omega (arith, last, rest, ap low_number turned ∙ number_more c (reverse (take k bytes)))

pub low_room : (bytes : List ℕ) (n : ℕ) → length bytes ≤ 8 → 1 ≤ length bytes → n < 256 ^ length (take (length bytes - 1) (drop 1 bytes)) → 256 * n + 255 < 2 ^ 64
low_room bytes n few some below =
    let size : length (take (length bytes - 1) (drop 1 bytes)) ≡ length bytes - 1 = ap length (take_rest bytes 1) ∙ length-drop 1 bytes in
    let seven : length (take (length bytes - 1) (drop 1 bytes)) ≤ 7 = omega (arith, size, few) in
    let most : 256 ^ length (take (length bytes - 1) (drop 1 bytes)) ≤ 256 ^ 7 = pow-le-pow_right {n = 256} (omega arith) seven in
    omega (arith, below, most)

-- ---- bytes appended in a loop
pub pushed_none : (old : List ℕ) (count n : ℕ) → old ++ low_bytes count n ≡ old ++ low_bytes (count - 0) n
pushed_none old count n = let same : count ≡ count - 0 = omega arith in ap (λ k. old ++ low_bytes k n) same

pub pushed_more : (start old new : List ℕ) (count n i rest : ℕ) → i < count → start ++ low_bytes count n ≡ old ++ low_bytes (count - i) rest → new ≡ old ++ (rest % 256) ∷ [] → start ++ low_bytes count n ≡ new ++ low_bytes (count - (i + 1)) (rest / 256)
pushed_more start old new count n i rest less before one =
    let k : ℕ = count - (i + 1) in
    let next : count - i ≡ suc k = omega (arith, less) in
    before ∙ (ap (λ j. old ++ low_bytes j rest) next ∙ (ap (λ l. old ++ l) (low_more k rest) ∙ (sym (append_assoc old (rest % 256 ∷ []) (low_bytes k (rest / 256))) ∙ ap (λ l. l ++ low_bytes k (rest / 256)) (sym one))))

pub pushed_all : (start old : List ℕ) (count n i rest : ℕ) → count ≤ i → start ++ low_bytes count n ≡ old ++ low_bytes (count - i) rest → old ≡ start ++ low_bytes count n
pushed_all start old count n i rest past before =
    let none : count - i ≡ 0 = omega (arith, past) in
    sym (before ∙ (ap (λ j. old ++ low_bytes j rest) none ∙ (ap (λ l. old ++ l) (low_none rest) ∙ append-nil old)))

-- ---- eight bytes at once
byte_is : (i n : ℕ) → n / 256 ^ i % 256 ≡ byte_at i n
byte_is zero n = ap (λ m. m % 256) (div-one n)
byte_is (suc i) n = refl

next_byte : (i n : ℕ) → n / 256 ^ i / 256 ≡ n / 256 ^ suc i
next_byte i n = div-div-eq-div-mul n (256 ^ i) 256 ∙ ap (λ d. n / d) (let power : 256 ^ i * 256 ≡ 256 ^ suc i = omega (arith, pow-suc 256 i) in power)

low_is : (i k n : ℕ) → low_bytes k (n / 256 ^ i) ≡ bytes_low_first i k n
low_is i zero n = low_none (n / 256 ^ i)
low_is i (suc k) n =
    low_more k (n / 256 ^ i) ∙ (ap (λ b. b ∷ low_bytes k (n / 256 ^ i / 256)) (byte_is i n)
    ∙ ap (λ l. byte_at i n ∷ l) (ap (low_bytes k) (next_byte i n) ∙ low_is (suc i) k n))

eight_low : (n : ℕ) → to_le_bytes w64 n ≡ low_bytes 8 n
eight_low n = sym (low_is 0 8 n) ∙ ap (low_bytes 8) (div-one n)

four_low : (n : ℕ) → to_le_bytes w32 n ≡ low_bytes 4 n
four_low n = sym (low_is 0 4 n) ∙ ap (low_bytes 4) (div-one n)

two_low : (n : ℕ) → to_le_bytes w16 n ≡ low_bytes 2 n
two_low n = sym (low_is 0 2 n) ∙ ap (low_bytes 2) (div-one n)

-- the bytes of a number spell that number
number_back : (endian : Endian) (k n : ℕ) (bytes : List ℕ) → n < 256 ^ k → bytes_of endian k n ≡ bytes → n ≡ number_of endian bytes
number_back endian k n bytes fits are = sym (word_back endian k n fits) ∙ ap (number_of endian) are

module _ (bytes : List ℕ) (n : ℕ) (small : (i : ℕ) → get_or bytes i 0 < 256) where
  pub two_little : length bytes ≡ 2 → n < 2 ^ 16 → n ≡ from_le_bytes w16 bytes → n ≡ low_number bytes
  two_little whole fits is = number_back Little 2 n bytes (omega (arith, fits)) (sym (two_low n) ∙ le_bytes_2 bytes n whole small is)

  pub two_big : length bytes ≡ 2 → n < 2 ^ 16 → n ≡ from_be_bytes w16 bytes → n ≡ low_number (reverse bytes)
  two_big whole fits is = number_back Big 2 n bytes (omega (arith, fits)) (ap reverse (sym (two_low n)) ∙ be_bytes_2 bytes n whole small is)

  pub four_little : length bytes ≡ 4 → n < 2 ^ 32 → n ≡ from_le_bytes w32 bytes → n ≡ low_number bytes
  four_little whole fits is = number_back Little 4 n bytes (omega (arith, fits)) (sym (four_low n) ∙ le_bytes_4 bytes n whole small is)

  pub four_big : length bytes ≡ 4 → n < 2 ^ 32 → n ≡ from_be_bytes w32 bytes → n ≡ low_number (reverse bytes)
  four_big whole fits is = number_back Big 4 n bytes (omega (arith, fits)) (ap reverse (sym (four_low n)) ∙ be_bytes_4 bytes n whole small is)

  pub eight_little : length bytes ≡ 8 → n < 2 ^ 64 → n ≡ from_le_bytes w64 bytes → n ≡ low_number bytes
  eight_little whole fits is = number_back Little 8 n bytes (omega (arith, fits)) (sym (eight_low n) ∙ le_bytes_8 bytes n whole small is)

  pub eight_big : length bytes ≡ 8 → n < 2 ^ 64 → n ≡ from_be_bytes w64 bytes → n ≡ low_number (reverse bytes)
  eight_big whole fits is = number_back Big 8 n bytes (omega (arith, fits)) (ap reverse (sym (eight_low n)) ∙ be_bytes_8 bytes n whole small is)

-- the low bytes of a number start with fewer of them
split_low : (j k n : ℕ) → j ≤ k → (rest : List ℕ) × (low_bytes k n ≡ low_bytes j n ++ rest) × (length rest ≡ k - j)
split_low zero k n few = (low_bytes k n, ap (λ l. l ++ low_bytes k n) (sym (low_none n)), omega (arith, low_length k n))
split_low (suc j) zero n few = absurd (omega (arith, few))
split_low (suc j) (suc k) n few =
    let found = split_low j k (n / 256) (omega (arith, few)) in (
      found.0,
      low_more k n ∙ (ap (λ l. n % 256 ∷ l) found.1 ∙ ap (λ l. l ++ found.0) (sym (low_more j n))),
      omega (arith, found.2),
    )

pub few_little : (count n : ℕ) → count ≤ 8 → take count (to_le_bytes w64 n) ≡ low_bytes count n
few_little count n few =
    let found = split_low count 8 n few in
    ap (take count) (eight_low n ∙ found.1) ∙ (ap (λ k. take k (low_bytes count n ++ found.0)) (sym (low_length count n)) ∙ take-append_seam (low_bytes count n) found.0)

last_few : (count n : ℕ) → count ≤ 8 → drop (8 - count) (to_be_bytes w64 n) ≡ reverse (low_bytes count n)
last_few count n few =
    let found = split_low count 8 n few in
    let turned : to_be_bytes w64 n ≡ reverse found.0 ++ reverse (low_bytes count n) = ap reverse (eight_low n ∙ found.1) ∙ reverse-append (low_bytes count n) found.0 in
    let before : 8 - count ≡ length (reverse found.0) = omega (arith, found.2, length-reverse found.0) in
    ap (drop (8 - count)) turned ∙ (ap (λ k. drop k (reverse found.0 ++ reverse (low_bytes count n))) before ∙ drop-append_seam (reverse found.0) (reverse (low_bytes count n)))

pub few_big : (count n : ℕ) → count ≤ 8 → take (8 - (8 - count)) (drop (8 - count) (to_be_bytes w64 n)) ≡ reverse (low_bytes count n)
few_big count n few = take_all (8 - (8 - count)) (drop (8 - count) (to_be_bytes w64 n)) (omega (arith, ap length (last_few count n few), length-reverse (low_bytes count n), low_length count n, few)) ∙ last_few count n few
