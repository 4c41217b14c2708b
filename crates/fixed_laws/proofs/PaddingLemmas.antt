-- The padding of a styled text.
use Rattle.std.proofs.Common.{◌≡◌, ℕ, ◌+◌, ◌-◌, ◌/◌, ◌==◌, Bool, true, false, not, List, [], ◌++◌, length, replicate, refl, sym, ap, ◌∙◌, arith, append-nil, append_assoc, length-append}
use Rattle.std.specs.Prelude.{if◌then◌else◌, bit_and}
use Rattle.std.specs.List.{repeat}
use Rattle.std.specs.Char.{encode_utf8}
use Rattle.std.specs.Fmt.{padded_integral, format_spec, char_count, sign_text_with}
use Rattle.fixed_write.specs.declared.style.Notation.{Notation}
use Rattle.fixed_write.specs.declared.style.Notation.TheVariants.{Dec, LowerExp, UpperExp, Bin, Oct, LowerHex, UpperHex}
use Rattle.fixed_write.specs.declared.style.Align.{Align}
use Rattle.fixed_write.specs.declared.style.Align.TheVariants.{Left, Center, Right}
use Rattle.fixed_write.specs.declared.style.Style.{Style}
use Rattle.fixed_write.specs.Styled.{padded_text, sign_and_prefix, prefix_of, fills_before}
use Rattle.fixed_laws.specs.Padding.{align_number, flags_number}

plus_bit : (a b c : Bool) → not (bit_and (flags_number a b c) 1 == 0) ≡ a
plus_bit true true true = refl
plus_bit true true false = refl
plus_bit true false true = refl
plus_bit true false false = refl
plus_bit false true true = refl
plus_bit false true false = refl
plus_bit false false true = refl
plus_bit false false false = refl

prefix_bit : (a b c : Bool) → not (bit_and (flags_number a b c) 2 == 0) ≡ b
prefix_bit true true true = refl
prefix_bit true true false = refl
prefix_bit true false true = refl
prefix_bit true false false = refl
prefix_bit false true true = refl
prefix_bit false true false = refl
prefix_bit false false true = refl
prefix_bit false false false = refl

zero_bit : (a b c : Bool) → not (bit_and (flags_number a b c) 4 == 0) ≡ c
zero_bit true true true = refl
zero_bit true true false = refl
zero_bit true false true = refl
zero_bit true false false = refl
zero_bit false true true = refl
zero_bit false true false = refl
zero_bit false false true = refl
zero_bit false false false = refl

-- a prefix has as many characters as bytes
prefix_chars : (n : Notation) (shown : Bool) → char_count (if shown then prefix_of n else []) ≡ length (if shown then prefix_of n else [])
unfolding char_count
prefix_chars n false = refl
prefix_chars Dec true = refl
prefix_chars LowerExp true = refl
prefix_chars UpperExp true = refl
prefix_chars Bin true = refl
prefix_chars Oct true = refl
prefix_chars LowerHex true = refl
prefix_chars UpperHex true = refl

abbrev before_number : ℕ → ℕ → ℕ
before_number align p = let a = if align == 0 then 3 else align in if a == 1 then 0 else (if a == 2 then p / 2 else p)

before_is : (a : Align) (p : ℕ) → before_number (align_number a) p ≡ fills_before a p
before_is Left p = refl
before_is Center p = refl
before_is Right p = refl

abbrev laid : Bool → ℕ → ℕ → List ℕ → List ℕ → List ℕ → List ℕ → List ℕ
laid zero before pad fill sign prefix body = repeat (if zero then 0 else before) fill ++ sign ++ prefix ++ replicate (if zero then pad else 0) 48 ++ (body ++ repeat (if zero then 0 else pad - before) fill)

laid_is : (zero : Bool) (before pad : ℕ) (fill sign prefix body : List ℕ) → laid zero before pad fill sign prefix body ≡ (if zero then (sign ++ prefix) ++ replicate pad 48 ++ body else repeat before fill ++ ((sign ++ prefix) ++ body) ++ repeat (pad - before) fill)
laid_is true before pad fill sign prefix body = rw (append-nil body) refl
laid_is false before pad fill sign prefix body = simp (append_assoc, append-nil)

pads_are : (w b s p : ℕ) → w - b - s - p ≡ w - ((s + p) + b)
pads_are w b s p = omega arith

abbrev shown_of : Style → List ℕ
shown_of s = if s.prefix then prefix_of s.notation else []

abbrev pad_of : Style → Bool → List ℕ → ℕ
pad_of s negative body = s.width - length body - length (sign_text_with s.plus negative) - char_count (shown_of s)

pad_is : (s : Style) (negative : Bool) (body : List ℕ) → pad_of s negative body ≡ s.width - (length (sign_and_prefix s negative) + length body)
pad_is s negative body =
    let chars : char_count (shown_of s) ≡ length (shown_of s) = prefix_chars s.notation s.prefix in
    let lead : length (sign_and_prefix s negative) ≡ length (sign_text_with s.plus negative) + length (shown_of s) = length-append (sign_text_with s.plus negative) (shown_of s) in
    ap (λ x. s.width - length body - length (sign_text_with s.plus negative) - x) chars ∙ (pads_are s.width (length body) (length (sign_text_with s.plus negative)) (length (shown_of s)) ∙ ap (λ x. s.width - (x + length body)) (sym lead))

padded_is : (s : Style) (negative : Bool) (body : List ℕ) → laid s.zero_pad (before_number (align_number s.align) (pad_of s negative body)) (pad_of s negative body) (encode_utf8 s.fill) (sign_text_with s.plus negative) (shown_of s) body ≡ padded_text s (sign_and_prefix s negative) body
unfolding padded_text
padded_is s negative body =
    ap (λ x. laid s.zero_pad (before_number (align_number s.align) x) x (encode_utf8 s.fill) (sign_text_with s.plus negative) (shown_of s) body) (pad_is s negative body) ∙
    (ap (λ b. laid s.zero_pad b (s.width - (length (sign_and_prefix s negative) + length body)) (encode_utf8 s.fill) (sign_text_with s.plus negative) (shown_of s) body) (before_is s.align (s.width - (length (sign_and_prefix s negative) + length body))) ∙
    laid_is s.zero_pad (fills_before s.align (s.width - (length (sign_and_prefix s negative) + length body))) (s.width - (length (sign_and_prefix s negative) + length body)) (encode_utf8 s.fill) (sign_text_with s.plus negative) (shown_of s) body)

pub padding_is : (s : Style) (precision : ℕ) (negative : Bool) (body : List ℕ) → padded_integral (format_spec s.fill (align_number s.align) (flags_number s.plus s.prefix s.zero_pad) s.width precision) negative (prefix_of s.notation) body ≡ padded_text s (sign_and_prefix s negative) body
unfolding padded_integral
padding_is s precision negative body =
    rw (plus_bit s.plus s.prefix s.zero_pad, prefix_bit s.plus s.prefix s.zero_pad, zero_bit s.plus s.prefix s.zero_pad) (padded_is s negative body)
