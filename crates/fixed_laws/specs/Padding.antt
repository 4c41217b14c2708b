-- The padding of a styled text is the toolchain's own.
use Rattle.std.specs.Prelude.{◌≡◌, ℕ, ◌+◌, Bool, if◌then◌else◌, List}
use Rattle.std.specs.Fmt.{padded_integral, format_spec}
use Rattle.fixed_write.specs.declared.style.Align.{Align}
use Rattle.fixed_write.specs.declared.style.Align.TheVariants.{Left, Center, Right}
use Rattle.fixed_write.specs.declared.style.Style.{Style}
use Rattle.fixed_write.specs.Styled.{padded_text, sign_and_prefix, prefix_of}

-- the toolchain's numbers for `<`, `^` and `>`
abbrev pub align_number : Align → ℕ
align_number Left = 1
align_number Center = 2
align_number Right = 3

-- the toolchain's number for the flags: 1 for `+`, 2 for `#` and 4 for `0`
abbrev pub flags_number : Bool → Bool → Bool → ℕ
flags_number plus prefix zero_pad = (if plus then 1 else 0) + (if prefix then 2 else 0) + (if zero_pad then 4 else 0)

-- the text that the toolchain's `pad_integral` writes for a sign, a prefix and a body under the options of a style
abbrev pub toolchain_text : Style → ℕ → Bool → List ℕ → List ℕ
toolchain_text s precision negative body = padded_integral (format_spec s.fill (align_number s.align)
    (flags_number s.plus s.prefix s.zero_pad) s.width precision) negative (prefix_of s.notation) body

-- the toolchain's text is the padded text of the style
abbrev pub PaddingIsTheToolchains : Type 0
PaddingIsTheToolchains = (s : Style) (precision : ℕ) (negative : Bool) (body : List ℕ)
    → toolchain_text s precision negative body ≡ padded_text s (sign_and_prefix s negative) body
