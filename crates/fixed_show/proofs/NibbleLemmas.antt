-- Digits of radix 16 in the lanes of a vector.
use Rattle.std.proofs.Common.{pow-suc, ◌≡◌, ◌∙◌, ℕ, zero, suc, ◌+◌, ◌-◌, ◌*◌, ◌/◌, ◌%◌, ◌^◌, ◌<◌, ◌≤◌, List, [], ◌∷◌, ◌++◌, ap, append-nil, append_assoc, arith, refl, cond, false, map, sym, take, ◌⊎◌, inl, inr}
use Rattle.fixed_numeral.proofs.Public.{pow-mul}
use Rattle.fixed_show.specs.Inner.Nibbles.{nibbles_of}
use Rattle.fixed_write.proofs.Public.{last_digits_length, last_digits_none, last_digits_suc}
use Rattle.fixed_write.specs.Texts.{last_digits}
use Rattle.std.proofs.Math.Nat.{div-div-eq-div-mul, mod-eq_of_lt, mul-div_cancel, pow-le-pow_right}
use Rattle.std.proofs.Math.Seq.{take-append_seam}
use Rattle.std.proofs.lemmas.Nat.{div-add-mod', mod-mul-add, mod_below, pow-add}
use Rattle.std.specs.Fmt.{digit_glyph}
use lib.Dec.{ltb}
use lib.Lanes.{top}

-- the character of a nibble
pub lane : (n : ℕ) → n < 16 → (n + cond (top 7 (cond (ltb 9 n) 255 0)) 87 48) % 256 ≡ digit_glyph false n
lane zero few = refl
lane (suc zero) few = refl
lane (suc (suc zero)) few = refl
lane (suc (suc (suc zero))) few = refl
lane (suc (suc (suc (suc zero)))) few = refl
lane (suc (suc (suc (suc (suc zero))))) few = refl
lane (suc (suc (suc (suc (suc (suc zero)))))) few = refl
lane (suc (suc (suc (suc (suc (suc (suc zero))))))) few = refl
lane (suc (suc (suc (suc (suc (suc (suc (suc zero)))))))) few = refl
lane (suc (suc (suc (suc (suc (suc (suc (suc (suc zero))))))))) few = refl
lane (suc (suc (suc (suc (suc (suc (suc (suc (suc (suc zero)))))))))) few = refl
lane (suc (suc (suc (suc (suc (suc (suc (suc (suc (suc (suc zero))))))))))) few = refl
lane (suc (suc (suc (suc (suc (suc (suc (suc (suc (suc (suc (suc zero)))))))))))) few = refl
lane (suc (suc (suc (suc (suc (suc (suc (suc (suc (suc (suc (suc (suc zero))))))))))))) few = refl
lane (suc (suc (suc (suc (suc (suc (suc (suc (suc (suc (suc (suc (suc (suc zero)))))))))))))) few = refl
lane (suc (suc (suc (suc (suc (suc (suc (suc (suc (suc (suc (suc (suc (suc (suc zero))))))))))))))) few = refl
lane (suc (suc (suc (suc (suc (suc (suc (suc (suc (suc (suc (suc (suc (suc (suc (suc n)))))))))))))))) few = absurd (omega (arith, few))

-- the sixteen digits of a word
pub sixteen_are : (w : ℕ) → map (digit_glyph false) (nibbles_of w) ≡ last_digits 16 false 16 w
unfolding last_digits
sixteen_are w =
    let d15 : w / 16 ^ 15 % 16 ≡ w / 16 / 16 / 16 / 16 / 16 / 16 / 16 / 16 / 16 / 16 / 16 / 16 / 16 / 16 / 16 % 16 = omega arith in
    let d14 : w / 16 ^ 14 % 16 ≡ w / 16 / 16 / 16 / 16 / 16 / 16 / 16 / 16 / 16 / 16 / 16 / 16 / 16 / 16 % 16 = omega arith in
    let d13 : w / 16 ^ 13 % 16 ≡ w / 16 / 16 / 16 / 16 / 16 / 16 / 16 / 16 / 16 / 16 / 16 / 16 / 16 % 16 = omega arith in
    let d12 : w / 16 ^ 12 % 16 ≡ w / 16 / 16 / 16 / 16 / 16 / 16 / 16 / 16 / 16 / 16 / 16 / 16 % 16 = omega arith in
    let d11 : w / 16 ^ 11 % 16 ≡ w / 16 / 16 / 16 / 16 / 16 / 16 / 16 / 16 / 16 / 16 / 16 % 16 = omega arith in
    let d10 : w / 16 ^ 10 % 16 ≡ w / 16 / 16 / 16 / 16 / 16 / 16 / 16 / 16 / 16 / 16 % 16 = omega arith in
    let d9 : w / 16 ^ 9 % 16 ≡ w / 16 / 16 / 16 / 16 / 16 / 16 / 16 / 16 / 16 % 16 = omega arith in
    let d8 : w / 16 ^ 8 % 16 ≡ w / 16 / 16 / 16 / 16 / 16 / 16 / 16 / 16 % 16 = omega arith in
    let d7 : w / 16 ^ 7 % 16 ≡ w / 16 / 16 / 16 / 16 / 16 / 16 / 16 % 16 = omega arith in
    let d6 : w / 16 ^ 6 % 16 ≡ w / 16 / 16 / 16 / 16 / 16 / 16 % 16 = omega arith in
    let d5 : w / 16 ^ 5 % 16 ≡ w / 16 / 16 / 16 / 16 / 16 % 16 = omega arith in
    let d4 : w / 16 ^ 4 % 16 ≡ w / 16 / 16 / 16 / 16 % 16 = omega arith in
    let d3 : w / 16 ^ 3 % 16 ≡ w / 16 / 16 / 16 % 16 = omega arith in
    let d2 : w / 16 ^ 2 % 16 ≡ w / 16 / 16 % 16 = omega arith in
    λ i. digit_glyph false (d15 i) ∷ digit_glyph false (d14 i) ∷ digit_glyph false (d13 i) ∷ digit_glyph false (d12 i) ∷ digit_glyph false (d11 i) ∷ digit_glyph false (d10 i) ∷ digit_glyph false (d9 i) ∷ digit_glyph false (d8 i) ∷ digit_glyph false (d7 i) ∷ digit_glyph false (d6 i) ∷ digit_glyph false (d5 i) ∷ digit_glyph false (d4 i) ∷ digit_glyph false (d3 i) ∷ digit_glyph false (d2 i) ∷ digit_glyph false (w / 16 % 16) ∷ digit_glyph false (w % 16) ∷ []

-- ---- powers of sixteen
pow_pos16 : (k : ℕ) → 0 < 16 ^ k
pow_pos16 zero = omega arith
pow_pos16 (suc k) = omega (arith, pow-suc 16 k, pow_pos16 k)

rest_moved : (w a b : ℕ) → 0 < a → 0 < b → w * b % (a * b) ≡ w % a * b
rest_moved w a b some more =
    let whole : w / a * a + w % a ≡ w = div-add-mod' w a in
    let low : w % a < a = mod_below w a some in
    let spread : w * b ≡ w / a * (a * b) + w % a * b = ap (λ n. n * b) (sym whole) ∙ spread_out (w / a) a (w % a) b in
    let below : w % a * b < a * b = grind (arith, low, more) in
    ap (λ n. n % (a * b)) spread ∙ mod-mul-add (w / a) (a * b) (w % a * b) below
  where
    spread_out : (q a r b : ℕ) → (q * a + r) * b ≡ q * (a * b) + r * b
    spread_out q a r b = omega arith

-- ---- the last digits of a word that is moved up
commuted : (a : ℕ) → 16 * a ≡ a * 16
commuted a = omega arith

split_digits : (j k n : ℕ) → last_digits 16 false (j + k) n ≡ last_digits 16 false j (n / 16 ^ k) ++ last_digits 16 false k n
split_digits j zero n =
    let a : j + 0 ≡ j = omega arith in
    let b : n / 16 ^ 0 ≡ n = omega arith in
    ap (λ i. last_digits 16 false i n) a ∙ (ap (last_digits 16 false j) (sym b) ∙ (sym (append-nil (last_digits 16 false j (n / 16 ^ 0))) ∙ ap (λ l. last_digits 16 false j (n / 16 ^ 0) ++ l) (sym (last_digits_none 16 false n))))
split_digits j (suc k) n =
    let a : j + suc k ≡ suc (j + k) = omega arith in
    let b : n / 16 / 16 ^ k ≡ n / 16 ^ suc k = div-div-eq-div-mul n 16 (16 ^ k) ∙ ap (λ m. n / m) (commuted (16 ^ k) ∙ sym (pow-suc 16 k)) in
    ap (λ i. last_digits 16 false i n) a ∙ (last_digits_suc 16 false (j + k) n ∙ (ap (λ l. l ++ digit_glyph false (n % 16) ∷ []) (split_digits j k (n / 16) ∙ ap (λ m. last_digits 16 false j m ++ last_digits 16 false k (n / 16)) b)
    ∙ (append_assoc (last_digits 16 false j (n / 16 ^ suc k)) (last_digits 16 false k (n / 16)) (digit_glyph false (n % 16) ∷ []) ∙ ap (λ l. last_digits 16 false j (n / 16 ^ suc k) ++ l) (sym (last_digits_suc 16 false k n)))))

times : (q a : ℕ) → q * (a * 16) ≡ 16 * (q * a)
times q a = omega arith

same_digits : (k n q : ℕ) → last_digits 16 false k (q * 16 ^ k + n) ≡ last_digits 16 false k n
same_digits zero n q = last_digits_none 16 false (q * 16 ^ 0 + n) ∙ sym (last_digits_none 16 false n)
same_digits (suc k) n q =
    let p : q * 16 ^ suc k ≡ 16 * (q * 16 ^ k) = ap (λ m. q * m) (pow-suc 16 k) ∙ times q (16 ^ k) in
    let a : (q * 16 ^ suc k + n) / 16 ≡ q * 16 ^ k + n / 16 = omega (arith, p) in
    let b : (q * 16 ^ suc k + n) % 16 ≡ n % 16 = omega (arith, p) in
    last_digits_suc 16 false k (q * 16 ^ suc k + n) ∙ (ap (λ m. last_digits 16 false k m ++ digit_glyph false ((q * 16 ^ suc k + n) % 16) ∷ []) a ∙ (ap (λ d. last_digits 16 false k (q * 16 ^ k + n / 16) ++ digit_glyph false d ∷ []) b
    ∙ (ap (λ l. l ++ digit_glyph false (n % 16) ∷ []) (same_digits k (n / 16) q) ∙ sym (last_digits_suc 16 false k n))))

pub moved_digits : (w count shift : ℕ) → count ≤ 16 → shift ≡ 64 - 4 * count → take count (last_digits 16 false 16 (w * 2 ^ shift % 2 ^ 64)) ≡ last_digits 16 false count w
moved_digits w c shift few is =
    let p = 16 - c in
    let unit : 0 < 16 ^ p = pow_pos16 p in
    let up : 2 ^ shift ≡ 16 ^ p = ap (λ k. 2 ^ k) (omega (arith, is, few)) ∙ sym (pow-mul 2 4 p) in
    let sum : c + p ≡ 16 = omega (arith, few) in
    let all : 2 ^ 64 ≡ 16 ^ c * 16 ^ p = ap (λ k. 16 ^ k) (sym sum) ∙ pow-add 16 c p in
    let cut : w * 2 ^ shift % 2 ^ 64 ≡ w % 16 ^ c * 16 ^ p = ap (λ u. w * u % 2 ^ 64) up ∙ (ap (λ m. w * 16 ^ p % m) all ∙ rest_moved w (16 ^ c) (16 ^ p) (pow_pos16 c) unit) in
    let low : w * 2 ^ shift % 2 ^ 64 / 16 ^ p ≡ w % 16 ^ c = ap (λ m. m / 16 ^ p) cut ∙ mul-div_cancel (w % 16 ^ c) unit in
    let m = w * 2 ^ shift % 2 ^ 64 in
    let whole : w / 16 ^ c * 16 ^ c + w % 16 ^ c ≡ w = div-add-mod' w (16 ^ c) in
    let parts : last_digits 16 false 16 m ≡ last_digits 16 false c (m / 16 ^ p) ++ last_digits 16 false p m = ap (λ k. last_digits 16 false k m) (sym sum) ∙ split_digits c p m in
    let first = take-append_seam (last_digits 16 false c (m / 16 ^ p)) (last_digits 16 false p m) in
    ap (take c) parts ∙ (ap (λ k. take k (last_digits 16 false c (m / 16 ^ p) ++ last_digits 16 false p m)) (sym (last_digits_length 16 false c (m / 16 ^ p))) ∙ (first
    ∙ (ap (last_digits 16 false c) low ∙ (sym (same_digits c (w % 16 ^ c) (w / 16 ^ c)) ∙ ap (last_digits 16 false c) whole))))

-- a moved word, by way of 128 bits
pub moved_word : (w shift : ℕ) → w < 2 ^ 64 → shift ≤ 64 → w * 2 ^ shift % 2 ^ 128 % 2 ^ 64 ≡ w * 2 ^ shift % 2 ^ 64
moved_word w shift wide most =
    let up : 2 ^ shift ≤ 2 ^ 64 = pow-le-pow_right {n = 2} (omega arith) most in
    let fits : w * 2 ^ shift < 2 ^ 128 = grind (arith, wide, up) in
    ap (λ n. n % 2 ^ 64) (mod-eq_of_lt fits)

-- ---- leading zeros
digits_of_zero : (k : ℕ) → last_digits 16 false (suc k) 0 ≡ last_digits 16 false k 0 ++ 48 ∷ []
digits_of_zero k = last_digits_suc 16 false k 0

pub zeros_more : (old out new : List ℕ) (k j : ℕ) → j ≡ suc k → out ≡ old ++ last_digits 16 false k 0 → new ≡ out ++ 48 ∷ [] → new ≡ old ++ last_digits 16 false j 0
zeros_more old out new k j next e f =
    f ∙ (ap (λ l. l ++ 48 ∷ []) e ∙ (append_assoc old (last_digits 16 false k 0) (48 ∷ []) ∙ ap (λ l. old ++ l) (sym (digits_of_zero k) ∙ ap (λ i. last_digits 16 false i 0) (sym next))))

pub zeros_none : (old : List ℕ) (k : ℕ) → k ≡ 0 → old ≡ old ++ last_digits 16 false k 0
zeros_none old k none = sym (ap (λ i. old ++ last_digits 16 false i 0) none ∙ (ap (λ l. old ++ l) (last_digits_none 16 false 0) ∙ append-nil old))

-- zeros, and the last digits after them
pub zeros_before : (old out new : List ℕ) (count left w : ℕ) → w < 2 ^ 64 → (left ≡ count) ⊎ ((16 ≡ left) × (left ≤ count)) → out ≡ old ++ last_digits 16 false (count - left) 0 → new ≡ out ++ last_digits 16 false left w
    → new ≡ old ++ last_digits 16 false count w
zeros_before old out new count left w wide (inl all) e f =
    let none : count - left ≡ 0 = omega (arith, all) in
    f ∙ (ap (λ l. l ++ last_digits 16 false left w) (e ∙ sym (zeros_none old (count - left) none)) ∙ ap (λ k. old ++ last_digits 16 false k w) all)
zeros_before old out new count left w wide (inr some) e f =
    let sum : (count - left) + 16 ≡ count = omega (arith, some.0, some.1) in
    let none : w / 16 ^ 16 ≡ 0 = omega (arith, wide) in
    let split = split_digits (count - left) 16 w in
    f ∙ (ap (λ l. l ++ last_digits 16 false left w) e ∙ (append_assoc old (last_digits 16 false (count - left) 0) (last_digits 16 false left w)
    ∙ ap (λ l. old ++ l) (ap (λ k. last_digits 16 false (count - left) 0 ++ last_digits 16 false k w) (sym some.0) ∙ (ap (λ n. last_digits 16 false (count - left) n ++ last_digits 16 false 16 w) (sym none)
    ∙ (sym split ∙ ap (λ k. last_digits 16 false k w) sum)))))

pub sixteen_or_all : (left count : ℕ) → left ≤ 16 → left ≤ count → (left ≡ count) ⊎ (16 ≤ left) → (left ≡ count) ⊎ ((16 ≡ left) × (left ≤ count))
sixteen_or_all left count few within (inl all) = inl all
sixteen_or_all left count few within (inr many) = inr (omega (arith, few, many), within)
