-- A numeral has one reply, and a line that is too long has the reply to its prefix.
use Rattle.std.proofs.Common.{◌≡◌, ℕ, suc, ◌+◌, ◌-◌, ◌^◌, ◌<◌, ◌≤◌, List, [], ◌∷◌, ◌++◌, Bool, true, false}
use Rattle.std.proofs.Common.{length, take, get_or, ℤ, pos, negsuc, refl, sym, ap, ◌∙◌, subst, arith, inl, inr, ◌↔◌}
use Rattle.std.proofs.Common.{length-append, length-take, if◌then◌else◌, ◌==◌, ◌⊎◌, true≢false}
use Rattle.std.proofs.lemmas.Int.{ints}
use Rattle.std.specs.Fmt.{decimal, signed_decimal}
use Rattle.std.specs.Str.Parse.{AllDigits}
use Rattle.std.proofs.lemmas.Fmt.{decimal_injective, decimal_is_IsNumeral}
use Rattle.std.proofs.lemmas.Str.Parse.{digit_from_value}
use Rattle.fixed_bits.specs.Ranges.{IsWide}
use Rattle.fixed_respell.specs.Answer.{fault_message}
use Rattle.fixed_respell.specs.FormatNames.{IsFormatName}
use Rattle.fixed_respell.specs.Language.{fault_answer}
use Rattle.fixed_respell.specs.LineWords.{longest_line, spaced}
use Rattle.fixed_respell.specs.Words.{IsPolicyName, format_text, mode_text, policy_text, radix_text, slash}
use Rattle.fixed_respell.specs.declared.fault.LineFault.TheVariants.{LineTooLong}
use Rattle.fixed_respell.proofs.Public.{named_answer_one}
use Rattle.fixed_respell.specs.Lemmas.FaultLemmas.{first_long}
use Rattle.fixed_respell.specs.Lemmas.LanguageLemmas.{long_by_prefix}
use Rattle.fixed_respell.specs.Lemmas.LineWordLemmas.{words_one}
use Rattle.line_engine.specs.AnswerText.{AnswerText}
use Rattle.line_engine.specs.Lines.{kept_length}
use Rattle.fixed_command.specs.Lemmas.MovedLemmas.{moved_one}
use Rattle.fixed_command.specs.Convert.{IsAnswerBy, asks_a_line, IsLineReply, IsPart, IsReply, IsWholeFault}
use Rattle.fixed_command.specs.Convert.{asking_line, without_return}
use Rattle.fixed_command.specs.Printed.{printed}
use Rattle.fixed_command.specs.declared.convert.Settings.{Settings}

-- ---- a number is written in one way
short_pos : (n : ℕ) → IsWide (pos n) → n < 2 ^ 64
short_pos n w = omega (arith, ints, w.high)

short_neg : (n : ℕ) → IsWide (negsuc n) → suc n < 2 ^ 64
short_neg n w = omega (arith, ints, w.low)

no_sign : (m : ℕ) (ds : List ℕ) → m < 2 ^ 64 → decimal m ≡ 45 ∷ ds → ⊥
no_sign m ds fits e =
    let digits : AllDigits 10 (45 ∷ ds) = subst (λ t. AllDigits 10 t) e (decimal_is_IsNumeral m fits).0.1 in
    let first = digit_from_value 45 digits.0 in
    absurd (omega (arith, first.0))

signed_one : (a b : ℤ) → IsWide a → IsWide b → signed_decimal a ≡ signed_decimal b → a ≡ b
signed_one (pos m) (pos n) x y e = ap pos (decimal_injective m n (short_pos m x) (short_pos n y) e)
signed_one (pos m) (negsuc n) x y e = absurd (no_sign m (decimal (suc n)) (short_pos m x) e)
signed_one (negsuc m) (pos n) x y e = absurd (no_sign n (decimal (suc m)) (short_pos n y) (sym e))
signed_one (negsuc m) (negsuc n) x y e =
    let tail : decimal (suc m) ≡ decimal (suc n) = cc in
    let same : suc m ≡ suc n = decimal_injective (suc m) (suc n) (short_neg m x) (short_neg n y) tail in
    let less : m ≡ n = omega (arith, same) in
    ap negsuc less

-- ---- a numeral has one reply
faulty_or_not : (fault : Bool) → fault ≡ true → fault ≡ false → ⊥
faulty_or_not true faulty clean = absurd (true≢false clean)
faulty_or_not false faulty clean = absurd (true≢false (sym faulty))

part_one : (s : Settings) (answer a b : AnswerText) → IsPart s answer a → IsPart s answer b → a ≡ b
part_one s answer a b x y =
    let same = words_one answer.text _ _ x.last y.last x.words y.words refl in
    let text : x.text ≡ y.text = ap (λ ws. get_or ws 0 []) same.words in
    let word : signed_decimal x.bits ≡ signed_decimal y.bits = ap (λ ws. get_or ws 1 []) same.words in
    let bits : x.bits ≡ y.bits = signed_one x.bits y.bits x.wide y.wide word in
    let shown : List ℕ → ℤ
    → AnswerText = λ t z. record { text = printed s.print s.target answer.text t z; fault = false } in
    x.reply_is ∙ (ap (λ t. shown t x.bits) text ∙ (ap (shown y.text) bits ∙ sym y.reply_is))

written_one : (s : Settings) (answer a b : AnswerText) → IsWholeFault answer a ⊎ IsPart s answer a
    → IsWholeFault answer b ⊎ IsPart s answer b → a ≡ b
written_one s answer a b (inl x) (inl y) = x.reply_is ∙ sym y.reply_is
written_one s answer a b (inl x) (inr y) = absurd (faulty_or_not answer.fault x.faulty y.clean)
written_one s answer a b (inr x) (inl y) = absurd (faulty_or_not answer.fault y.faulty x.clean)
written_one s answer a b (inr x) (inr y) = part_one s answer a b x y

asked_by : (line : Bool) (s : Settings) (numeral : List ℕ) (a b : AnswerText) → IsAnswerBy line s numeral a
    → IsAnswerBy line s numeral b → a ≡ b
asked_by true s numeral a b x y = named_answer_one (asking_line s numeral) a b x y
asked_by false s numeral a b x y = moved_one s numeral a b x y

pub reply_one : (s : Settings) (numeral : List ℕ) (a b : AnswerText) → IsReply s numeral a → IsReply s numeral b → a ≡ b
reply_one s numeral a b x y =
    let same : x.answer ≡ y.answer = asked_by (asks_a_line s.spelling s.target_mode) s numeral x.answer y.answer
    x.asked y.asked in
    written_one s y.answer a b (subst (λ t. IsWholeFault t a ⊎ IsPart s t a) same x.written) y.written

pub line_reply_one : (s : Settings) (line : List ℕ) (a b : AnswerText) → IsLineReply s line a → IsLineReply s line b
    → a ≡ b
line_reply_one s line a b x y = reply_one s (without_return line) a b x y

-- ---- a numeral that is too long
spaced_is : (a b c d rest : List ℕ)
    → length (spaced (a ∷ b ∷ c ∷ d ∷ []) rest) ≡ length (spaced (a ∷ b ∷ c ∷ d ∷ []) []) + length rest
spaced_is a b c d rest = omega (
  arith,
  length-append a (32 ∷ (b ++ 32 ∷ (c ++ 32 ∷ (d ++ 32 ∷ rest)))),
  length-append b (32 ∷ (c ++ 32 ∷ (d ++ 32 ∷ rest))),
  length-append c (32 ∷ (d ++ 32 ∷ rest)),
  length-append d (32 ∷ rest),
  length-append a (32 ∷ (b ++ 32 ∷ (c ++ 32 ∷ (d ++ 32 ∷ [])))),
  length-append b (32 ∷ (c ++ 32 ∷ (d ++ 32 ∷ []))),
  length-append c (32 ∷ (d ++ 32 ∷ [])),
  length-append d (32 ∷ []),
)

pub spaced_sum : (a b c d rest : List ℕ)
    → length (spaced (a ∷ b ∷ c ∷ d ∷ []) rest) ≡ length a + length b + length c + length d + 4 + length rest
spaced_sum a b c d rest = omega (
  arith,
  length-append a (32 ∷ (b ++ 32 ∷ (c ++ 32 ∷ (d ++ 32 ∷ rest)))),
  length-append b (32 ∷ (c ++ 32 ∷ (d ++ 32 ∷ rest))),
  length-append c (32 ∷ (d ++ 32 ∷ rest)),
  length-append d
      (32 ∷ rest),
)

pub asking_length : (s : Settings) (numeral : List ℕ)
    → length (asking_line s numeral) ≡ length (asking_line s []) + length numeral
asking_length s numeral = spaced_is (radix_text s.radix) (format_text s.source) (format_text s.target) (policy_text
    s.policy ++ slash ∷ mode_text s.mode) numeral

pub asking_longer : (s : Settings) (numeral : List ℕ) → 4 + length numeral ≤ length (asking_line s numeral)
asking_longer s numeral = omega (
  arith,
  spaced_sum (radix_text s.radix) (format_text s.source) (format_text
      s.target) (policy_text s.policy ++ slash ∷ mode_text s.mode) numeral,
)

long_asked : (line : Bool) (s : Settings) (numeral : List ℕ) → longest_line < length (asking_line s numeral)
    → IsAnswerBy line s numeral (fault_answer (fault_message LineTooLong))
long_asked true s numeral long = inl (record {
  fault = LineTooLong;
  first = first_long IsFormatName IsPolicyName (asking_line s numeral)
      long;
  answer_is = refl;
})
long_asked false s numeral long = inl (record { long = long; answer_is = refl })

pub long_reply : (s : Settings) (numeral : List ℕ) → longest_line < length (asking_line s numeral)
    → IsReply s numeral (fault_answer (fault_message LineTooLong))
long_reply s numeral long = record {
  answer = fault_answer (fault_message LineTooLong);
  asked = long_asked (asks_a_line s.spelling s.target_mode) s numeral long;
  written = inl (record { faulty = refl; reply_is = refl });
}

all_but_one : (b : Bool) (line : List ℕ) → length line ≤ length (if b then take (length line - 1) line else line) + 1
all_but_one true line = omega (arith, length-take (length line - 1) line)
all_but_one false line = omega arith

long_line : (s : Settings) (line : List ℕ) → longest_line < length line
    → IsLineReply s line (fault_answer (fault_message LineTooLong))
long_line s line long =
    long_reply s (without_return line) (omega (
      arith,
      long,
      all_but_one (get_or line (length line - 1) 0 == 13)
          line,
      asking_longer s (without_return line),
    ))

pub long_by_its_prefix : (s : Settings) (line : List ℕ) (reply : AnswerText) → kept_length < length line
    → IsLineReply s (take kept_length line) reply ↔ IsLineReply s line reply
long_by_its_prefix s line reply long = long_by_prefix (IsLineReply s) (fault_answer (fault_message LineTooLong))
    (line_reply_one s) (long_line s) kept_length line reply (omega arith) long
