-- The keys of words.
use Rattle.std.proofs.Common.{Bool, subst, ◌≡◌, ℕ, suc, ◌+◌, ◌-◌, ◌*◌, ◌/◌, ◌%◌, ◌^◌, ◌<◌, ◌≤◌, List, [], ◌∷◌, length, get_or, drop, refl, sym, ap, ◌∙◌, arith}
use Rattle.std.proofs.Math.Nat.{pow-succ', pow-le-pow_right}
use Rattle.std.specs.Int.Digits.{AllBelowBase}
use Rattle.std.specs.Simd.Lanes.{number_l}
use Rattle.fixed_bits.specs.Formats.{FormatParts, IsTypeFormat}
use Rattle.fixed_respell.proofs.TableLemmas.{entry_of}
use Rattle.fixed_respell.specs.Inner.FormatKeys.{counts_word, word_key}
use Rattle.fixed_respell.specs.Words.{IsFormatWord, format_text, sign_letter}

abbrev four : List ℕ → ℕ → ℕ
four word i = get_or word i 0 + 256 * get_or word (i + 1) 0 + 65536 * get_or word (i + 2) 0 + 16777216 * get_or word (i + 3) 0

-- the first four bytes and the last four bytes of a word give its number
pub word_sum : (word : List ℕ) (low last : ℕ) → 4 ≤ length word → length word ≤ 6 → AllBelowBase 256 word → low ≡ four word 0 → last ≡ four word (length word - 4) → low + last / 2 ^ (8 * (8 - length word)) * 4294967296 % 18446744073709551616 ≡ number_l 256 word
word_sum [] low last least most below e f = absurd (omega (arith, least))
word_sum (a ∷ []) low last least most below e f = absurd (omega (arith, least))
word_sum (a ∷ b ∷ []) low last least most below e f = absurd (omega (arith, least))
word_sum (a ∷ b ∷ c ∷ []) low last least most below e f = absurd (omega (arith, least))
word_sum (a ∷ b ∷ c ∷ d ∷ []) low last least most below e f = omega (arith, e, f, below.0, below.1.0, below.1.1.0, below.1.1.1.0)
word_sum (a ∷ b ∷ c ∷ d ∷ g ∷ []) low last least most below e f = omega (arith, e, f, below.0, below.1.0, below.1.1.0, below.1.1.1.0, below.1.1.1.1.0)
word_sum (a ∷ b ∷ c ∷ d ∷ g ∷ h ∷ []) low last least most below e f = omega (arith, e, f, below.0, below.1.0, below.1.1.0, below.1.1.1.0, below.1.1.1.1.0, below.1.1.1.1.1.0)
word_sum (a ∷ b ∷ c ∷ d ∷ g ∷ h ∷ i ∷ rest) low last least most below e f = absurd (omega (arith, most))

-- n bytes spell a number below 256^n
pub number_below : (xs : List ℕ) → AllBelowBase 256 xs → number_l 256 xs < 256 ^ length xs
number_below [] below = omega arith
number_below (x ∷ xs) below = omega (arith, number_below xs below.1, below.0, pow-succ' 256 (length xs))

-- bytes with the same count and number are equal
pub same_bytes : (xs ys : List ℕ) → AllBelowBase 256 xs → AllBelowBase 256 ys → length xs ≡ length ys → number_l 256 xs ≡ number_l 256 ys → xs ≡ ys
same_bytes [] [] p q l e = refl
same_bytes [] (y ∷ ys) p q l e = absurd (omega (arith, l))
same_bytes (x ∷ xs) [] p q l e = absurd (omega (arith, l))
same_bytes (x ∷ xs) (y ∷ ys) p q l e =
    let head : x ≡ y = omega (arith, e, p.0, q.0) in
    let tail : xs ≡ ys = same_bytes xs ys p.1 q.1 (omega (arith, l)) (omega (arith, e, head)) in
    cc

pub each_below : (xs : List ℕ) → ((k : ℕ) → get_or xs k 0 < 256) → AllBelowBase 256 xs
each_below [] t = tt
each_below (x ∷ xs) t = (t 0, each_below xs (λ k. t (suc k)))

-- at most five bytes spell a number below 2^40
rest_below : (xs : List ℕ) → AllBelowBase 256 xs → length xs ≤ 5 → number_l 256 xs < 2 ^ 40
rest_below xs below most =
    let p : 256 ^ length xs ≤ 256 ^ 5 = pow-le-pow_right {n = 256} (omega arith) most in
    omega (arith, number_below xs below, p)

pub key_is : (word : List ℕ) (number : ℕ) → 4 ≤ length word → length word ≤ 6 → number ≡ number_l 256 word → AllBelowBase 256 word → number / 256 + length word * 1099511627776 % 18446744073709551616 ≡ word_key word
key_is [] number least most e below = absurd (omega (arith, least))
key_is (x ∷ xs) number least most e below = omega (arith, e, below.0)

pub key_some : (word : List ℕ) → 4 ≤ length word → 0 < word_key word
key_some word least = omega (arith, least)

pub key_most : (word : List ℕ) → 4 ≤ length word → length word ≤ 6 → AllBelowBase 256 word → word_key word < 2 ^ 48
key_most [] least most below = absurd (omega (arith, least))
key_most (x ∷ xs) least most below = omega (arith, most, rest_below xs below.1 (omega (arith, most)))

-- words with the same key are equal after their first bytes
key_one : (xs ys : List ℕ) → 4 ≤ length xs → length xs ≤ 6 → AllBelowBase 256 xs → 4 ≤ length ys → length ys ≤ 6 → AllBelowBase 256 ys → word_key xs ≡ word_key ys → drop 1 xs ≡ drop 1 ys
key_one [] ys least most below least' most' below' e = absurd (omega (arith, least))
key_one (x ∷ xs) [] least most below least' most' below' e = absurd (omega (arith, least'))
key_one (x ∷ xs) (y ∷ ys) least most below least' most' below' e =
    let p = rest_below xs below.1 (omega (arith, most)) in
    let q = rest_below ys below'.1 (omega (arith, most')) in
    let count : length xs ≡ length ys = omega (arith, e, p, q) in
    same_bytes xs ys below.1 below'.1 count (omega (arith, e, p, q, count))

-- ---- words of formats
pub word_length : (word : List ℕ) (f : FormatParts) → IsFormatWord word f → (4 ≤ length word) × (length word ≤ 6)
word_length word f is =
    let has = entry_of f.width f.frac is.format in
    (omega (arith, ap length is.text, has.least), omega (arith, ap length is.text, has.most))

headed : (word rest : List ℕ) (b : ℕ) → 0 < length word → get_or word 0 0 ≡ b → drop 1 word ≡ rest → word ≡ b ∷ rest
headed [] rest b some e f = absurd (omega (arith, some))
headed (x ∷ xs) rest b some e f = cc

pub named : (word : List ℕ) (key : ℕ) (s : Bool) (w r : ℕ) → 4 ≤ length word → length word ≤ 6 → AllBelowBase 256 word → get_or word 0 0 ≡ sign_letter s → key ≡ word_key word → IsTypeFormat w r → key ≡ word_key (counts_word w r) → IsFormatWord word (record { signed = s; width = w; frac = r })
named word key s w r least most below first e is f =
    let has = entry_of w r is in
    let same = key_one word (counts_word w r) least most below has.least has.most has.below (sym e ∙ f) in
    record { format = is; text = headed word (drop 1 (counts_word w r)) (sign_letter s) (omega (arith, least)) first same }

pub made : (f : FormatParts) (word : List ℕ) (s : Bool) (w r : ℕ) → IsFormatWord word (record { signed = s; width = w; frac = r }) → f.signed ≡ s → f.width ≡ w → f.frac ≡ r → IsFormatWord word f
made f word s w r is signed width frac =
    let same : format_text (record { signed = s; width = w; frac = r }) ≡ format_text f = cc in
    record {
      format = subst (λ n. IsTypeFormat n f.frac) (sym width) (subst (λ n. IsTypeFormat w n) (sym frac) is.format);
      text = is.text ∙ same;
    }
