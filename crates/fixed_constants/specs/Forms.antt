-- Constants written in another form: as a C header, and as Rust.
use Rattle.std.specs.Prelude.{◌≡◌, ◌⊎◌, ◌+◌, ◌-◌, ◌^◌, ◌==◌, ◌≤◌, ◌<◌, ℕ, List, [], ◌∷◌, ◌++◌, ℤ, pos, unsigned_abs}
use Rattle.std.specs.Prelude.{codes, Bool, true, false, if◌then◌else◌}
use Rattle.std.specs.Fmt.{decimal}
use Rattle.std.specs.Int.{is_negative}
use Rattle.memchr.specs.Find.{OccursAt}
use Rattle.fixed_bits.specs.Formats.{FormatParts}
use Rattle.fixed_respell.specs.LineWords.{space}
use Rattle.fixed_respell.specs.Words.{format_text}
use Rattle.fixed_write.specs.Texts.{shortest_text}
use Rattle.line_engine.specs.AnswerText.{AnswerText}
use Rattle.line_engine.specs.Lines.{lines}
use Rattle.fixed_constants.specs.Answer.{IsWholeAnswer, fault_line}
use Rattle.fixed_constants.specs.Canonical.{entry_text, literal_text}
use Rattle.fixed_constants.specs.Constants.{ConstantParts, Fields, IsConstantsOf, IsFaultOf, IsName}
use Rattle.fixed_constants.specs.declared.fault.ConstantFault.{ConstantFault}
use Rattle.fixed_constants.specs.declared.fault.ConstantFault.TheVariants.{BadName}
use Rattle.fixed_constants.specs.declared.fault.ConstantsError.{ConstantsError}
use Rattle.fixed_constants.specs.declared.fault.ConstantsError.TheVariants.{Refused, NoMemory}
use Rattle.fixed_constants.specs.declared.form.Form.{Form}
use Rattle.fixed_constants.specs.declared.form.Form.TheVariants.{Canonical, C, Rust}

-- ---- names that a language reserves
-- the keywords of C, and the types and macros of <stdint.h>, each between two spaces
unfoldable pub c_words : List ℕ
c_words =
    codes " _Alignas _Alignof _Atomic _BitInt _Bool _Complex _Decimal128 _Decimal32 _Decimal64 _Generic" ++
    (codes " _Imaginary _Noreturn _Static_assert _Thread_local alignas alignof asm auto bool break case char" ++
    (codes " const constexpr continue default defined do double else enum extern false float for goto if inline" ++
    (codes " int long nullptr register restrict return short signed sizeof static static_assert struct switch" ++
    (codes " thread_local true typedef typeof typeof_unqual union unsigned void volatile while" ++
    (codes " int16_t int32_t int64_t int8_t int_fast16_t int_fast32_t int_fast64_t int_fast8_t int_least16_t" ++
    (codes " int_least32_t int_least64_t int_least8_t intmax_t intptr_t uint16_t uint32_t uint64_t uint8_t" ++
    (codes " uint_fast16_t uint_fast32_t uint_fast64_t uint_fast8_t uint_least16_t uint_least32_t uint_least64_t" ++
    (codes " uint_least8_t uintmax_t uintptr_t" ++
    (codes " INT16_C INT16_MAX INT16_MIN INT16_WIDTH INT32_C INT32_MAX INT32_MIN INT32_WIDTH INT64_C INT64_MAX" ++
    (codes " INT64_MIN INT64_WIDTH INT8_C INT8_MAX INT8_MIN INT8_WIDTH INTMAX_C INTMAX_MAX INTMAX_MIN" ++
    (codes " INTMAX_WIDTH INTPTR_MAX INTPTR_MIN INTPTR_WIDTH INT_FAST16_MAX INT_FAST16_MIN INT_FAST16_WIDTH" ++
    (codes " INT_FAST32_MAX INT_FAST32_MIN INT_FAST32_WIDTH INT_FAST64_MAX INT_FAST64_MIN INT_FAST64_WIDTH" ++
    (codes " INT_FAST8_MAX INT_FAST8_MIN INT_FAST8_WIDTH INT_LEAST16_MAX INT_LEAST16_MIN INT_LEAST16_WIDTH" ++
    (codes " INT_LEAST32_MAX INT_LEAST32_MIN INT_LEAST32_WIDTH INT_LEAST64_MAX INT_LEAST64_MIN INT_LEAST64_WIDTH" ++
    (codes " INT_LEAST8_MAX INT_LEAST8_MIN INT_LEAST8_WIDTH PTRDIFF_MAX PTRDIFF_MIN PTRDIFF_WIDTH SIG_ATOMIC_MAX" ++
    (codes " SIG_ATOMIC_MIN SIG_ATOMIC_WIDTH SIZE_MAX SIZE_WIDTH UINT16_C UINT16_MAX UINT16_WIDTH UINT32_C" ++
    (codes " UINT32_MAX UINT32_WIDTH UINT64_C UINT64_MAX UINT64_WIDTH UINT8_C UINT8_MAX UINT8_WIDTH UINTMAX_C" ++
    (codes " UINTMAX_MAX UINTMAX_WIDTH UINTPTR_MAX UINTPTR_WIDTH UINT_FAST16_MAX UINT_FAST16_WIDTH" ++
    (codes " UINT_FAST32_MAX UINT_FAST32_WIDTH UINT_FAST64_MAX UINT_FAST64_WIDTH UINT_FAST8_MAX UINT_FAST8_WIDTH" ++
    (codes " UINT_LEAST16_MAX UINT_LEAST16_WIDTH UINT_LEAST32_MAX UINT_LEAST32_WIDTH UINT_LEAST64_MAX" ++
    (codes " UINT_LEAST64_WIDTH UINT_LEAST8_MAX UINT_LEAST8_WIDTH WCHAR_MAX WCHAR_MIN WCHAR_WIDTH WINT_MAX" ++
    (codes " WINT_MIN WINT_WIDTH "))))))))))))))))))))))

-- the keywords of Rust, each between two spaces
unfoldable pub rust_words : List ℕ
rust_words =
    codes " Self _ abstract as async await become box break const continue crate do dyn else enum extern false" ++
    (codes " final fn for gen if impl in let loop macro match mod move mut override priv pub ref return self" ++
    (codes " static struct super trait true try type typeof unsafe unsized use virtual where while yield "))

abbrev pub words_in : Form → List ℕ
words_in Canonical = []
words_in C = c_words
words_in Rust = rust_words

-- the words contain this one between two spaces
abbrev pub IsAmong : List ℕ → List ℕ → Type 0
IsAmong words word = (place : ℕ) × OccursAt words (space ∷ (word ++ space ∷ [])) place

-- the name is a word of the language, or that of the header's guard
abbrev pub IsReserved : Form → List ℕ → List ℕ → Type 0
IsReserved form guard name = IsAmong (words_in form) name ⊎ (name ≡ guard)

-- the line has all fields, and its first word is a reserved name
pub record HasReserved (form : Form) (guard line : List ℕ) : Type 0 where
  pub fields : Fields line
  pub name : IsName fields.name
  pub reserved : IsReserved form guard fields.name

-- the first of the lines, numbered from `n` on, with a reserved name is line `p`
abbrev pub ReservedFrom : ℕ → Form → List ℕ → List (List ℕ) → ℕ → Type 0
ReservedFrom n form guard [] p = ⊥
ReservedFrom n form guard (line ∷ lines) p = (HasReserved form guard line × (p ≡ n))
    ⊎ ((¬ HasReserved form guard line) × ReservedFrom (n + 1) form guard lines p)

-- the first line of a text, from 1, with a reserved name is line `p`
abbrev pub IsReservedOn : Form → List ℕ → List ℕ → ℕ → Type 0
IsReservedOn form guard text p = ReservedFrom 1 form guard (lines text) p

-- the first fault of a text to be written in the form: a fault of its own or a reserved name, whichever is on the
-- earlier line; the name if both are on one line
abbrev pub IsFormFault : Form → List ℕ → List ℕ → ℕ → ConstantFault → Type 0
IsFormFault form guard text p fault = (IsFaultOf text p fault × ((q : ℕ) → IsReservedOn form guard text q → p < q))
    ⊎ ((fault ≡ BadName) × IsReservedOn form guard text p
    × ((q : ℕ) (other : ConstantFault) → IsFaultOf text q other → p ≤ q))

-- the meaning of an error of a text to be written in the form
abbrev pub IsFormError : Form → List ℕ → List ℕ → ConstantsError → Type 0
IsFormError form guard text (Refused p fault) = IsFormFault form guard text p fault
IsFormError form guard text NoMemory = Unit {0}

-- ---- a C header
-- the macro of <stdint.h> for constants of a width and a sign rule
abbrev pub macro_stem : Bool → List ℕ
macro_stem true = codes "INT"
macro_stem false = codes "UINT"

unfoldable pub c_macro : FormatParts → List ℕ
c_macro f = macro_stem f.signed ++ (decimal f.width ++ codes "_C")

-- the macro of <stdint.h> applied to a number in hexadecimal
unfoldable pub c_constant : FormatParts → ℕ → List ℕ
c_constant f m = c_macro f ++ (codes "(" ++ (literal_text (pos m) 0 ++ codes ")"))

-- a negative number by its magnitude; the lowest of its width is one below a number that the macro accepts
unfoldable pub c_minus : FormatParts → ℕ → List ℕ
c_minus f m = codes "(-" ++ (c_constant f m ++ codes ")")

unfoldable pub c_lowest : FormatParts → ℕ → List ℕ
c_lowest f above = codes "(-" ++ (c_constant f above ++ codes " - 1)")

unfoldable pub c_negative : FormatParts → ℕ → List ℕ
c_negative f m = if m == 2 ^ (f.width - 1) then c_lowest f (m - 1) else c_minus f m

unfoldable pub c_number : FormatParts → ℤ → List ℕ
c_number f bits = if is_negative bits then c_negative f (unsigned_abs bits) else c_constant f (unsigned_abs bits)

-- a comment with the format and the value, and the end of the line
unfoldable pub c_comment : FormatParts → ℤ → List ℕ
c_comment f bits = codes " /* " ++ (format_text f ++ (codes ", " ++ (shortest_text bits f.frac ++ codes " */\n")))

abbrev pub c_line : ConstantParts → List ℕ
c_line c = codes "#define " ++ (c.name ++ space ∷ (c_number c.format c.bits ++ c_comment c.format c.bits))

-- ---- Rust
-- the type of a format in the Rust crate fixed
unfoldable pub rust_type : FormatParts → List ℕ
rust_type f = codes "fixed::types::" ++ format_text f

unfoldable pub rust_value : FormatParts → ℤ → List ℕ
rust_value f bits = rust_type f ++ (codes "::from_bits(" ++ (literal_text bits 0 ++ codes ");\n"))

abbrev pub rust_line : ConstantParts → List ℕ
rust_line c = codes "pub const "
    ++ (c.name ++ (codes ": " ++ (rust_type c.format ++ (codes " = " ++ rust_value c.format c.bits))))

-- ---- a file
abbrev pub form_line : Form → ConstantParts → List ℕ
form_line Canonical c = entry_text c
form_line C c = c_line c
form_line Rust c = rust_line c

abbrev pub form_lines : Form → List ConstantParts → List ℕ
form_lines form [] = []
form_lines form (c ∷ constants) = form_line form c ++ form_lines form constants

-- the text before the lines: in a header the test of its guard, if it has one, and the types
abbrev pub guard_test : List ℕ → List ℕ
guard_test [] = []
guard_test (b ∷ bs) = codes "#ifndef " ++ ((b ∷ bs) ++ (codes "\n#define " ++ ((b ∷ bs) ++ codes "\n\n")))

unfoldable pub c_opening : List ℕ → List ℕ
c_opening guard = guard_test guard ++ codes "#include <stdint.h>\n\n"

abbrev pub opening : Form → List ℕ → List ℕ
opening Canonical guard = []
opening C guard = c_opening guard
opening Rust guard = []

-- the text after the lines: the end of the guard, if there is one
abbrev pub c_closing : List ℕ → List ℕ
c_closing [] = []
c_closing (b ∷ bs) = codes "\n#endif\n"

abbrev pub closing : Form → List ℕ → List ℕ
closing Canonical guard = []
closing C guard = c_closing guard
closing Rust guard = []

abbrev pub form_text : Form → List ℕ → List ConstantParts → List ℕ
form_text form guard constants = opening form guard ++ (form_lines form constants ++ closing form guard)

-- ---- the answer to an input
-- the answer is the constants of the input in the form, and none has a reserved name
pub record IsFormText (form : Form) (guard input : List ℕ) (answer : AnswerText) : Type 0 where
  pub constants : List ConstantParts
  pub are : IsConstantsOf input constants
  pub free : (p : ℕ) → ¬ IsReservedOn form guard input p
  pub text : answer.text ≡ form_text form guard constants
  pub fault : answer.fault ≡ false

-- the answer is the line of the input's first fault in the form
pub record IsFormRefusal (form : Form) (guard input : List ℕ) (answer : AnswerText) : Type 0 where
  pub line : ℕ
  pub why : ConstantFault
  pub is : IsFormFault form guard input line why
  pub text : answer.text ≡ fault_line line why
  pub fault : answer.fault ≡ true

abbrev pub IsSourceAnswer : Form → List ℕ → List ℕ → AnswerText → Type 0
IsSourceAnswer form guard input answer = IsFormText form guard input answer ⊎ IsFormRefusal form guard input answer

-- the answer to an input in a form
abbrev pub IsFormAnswer : Form → List ℕ → List ℕ → AnswerText → Type 0
IsFormAnswer Canonical guard input answer = IsWholeAnswer input answer
IsFormAnswer C guard input answer = IsSourceAnswer C guard input answer
IsFormAnswer Rust guard input answer = IsSourceAnswer Rust guard input answer
