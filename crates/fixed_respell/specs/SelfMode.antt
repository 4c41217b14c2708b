-- The self test: generated lines, and the sums over their answers.
use Rattle.std.specs.Prelude.{◌≡◌, ℕ, zero, suc, ◌*◌, ◌/◌, ◌%◌, ◌<◌, ◌≤◌, ◌==◌, Bool, if◌then◌else◌, List, [], ◌∷◌}
use Rattle.std.specs.Prelude.{◌++◌, length, map, get_or, codes}
use Rattle.std.specs.declared.option.Option.{Option}
use Rattle.std.specs.Int.Digits.{digits_of}
use Rattle.std.specs.Io.KnownBytes.{Appends}
use Rattle.std.specs.List.{count_by, ends_with}
use Rattle.fixed_respell.specs.Answer.{IsAnswer}
use Rattle.fixed_respell.specs.LineWords.{space}
use Rattle.line_engine.specs.Failures.{HasFailed}
use Rattle.line_engine.specs.Output.{AreAnswers, is_fault, written_of, AppendsPrefix}
use Rattle.line_engine.specs.AnswerText.{AnswerText}
use Rattle.line_engine.specs.declared.status.Status.{Status}
use Rattle.line_engine.specs.declared.status.Status.TheVariants.{Done, Faults, Usage, ReadFault, WriteFault, NoMemory}
use Rattle.line_engine.specs.declared.status.Status.TheVariants.{TooLong}

-- the byte of a digit below 16
abbrev pub digit_letter : ℕ → ℕ
digit_letter d = get_or (codes "0123456789abcdef") d 0

-- n in a base of at most 16, without a leading zero, zero as `0`
unfoldable pub number_text : ℕ → ℕ → List ℕ
number_text base n = if n == 0 then digit_letter 0 ∷ [] else map digit_letter (digits_of base n)

-- the radix of line i
abbrev pub radix_at : ℕ → ℕ
radix_at i = get_or (2 ∷ 8 ∷ 10 ∷ 16 ∷ []) (i % 4) 0

-- the format at index k of the list, which starts over after its end
abbrev pub format_at : ℕ → List ℕ
format_at k = get_or (codes "U8F0" ∷ codes "I4F4" ∷ codes "U0F8" ∷ codes "I8F8" ∷ codes "U16F16" ∷ codes "I1F31"
    ∷ codes "U0F64" ∷ codes "I32F32" ∷ []) (k % 8) []

-- the policy of line i
abbrev pub policy_at : ℕ → List ℕ
policy_at i = get_or (codes "checked" ∷ codes "saturating" ∷ codes "wrapping" ∷ []) (i % 3) []

-- the four words before the numeral of line i, each followed by a space
abbrev pub self_words : ℕ → List ℕ
self_words i = (number_text 10 (radix_at i) ++ space ∷ []) ++ (format_at (i / 4) ++ space ∷ [])
    ++ (format_at (i / 32) ++ space ∷ []) ++ (policy_at i ++ space ∷ [])

-- the sign of the numeral of line i
abbrev pub self_sign : ℕ → List ℕ
self_sign i = if i % 5 == 4 then codes "-" else []

-- the exponent of the numeral of line i, with its separator
abbrev pub self_exponent : ℕ → List ℕ
self_exponent i = if i % 7 == 6 then codes "@-3" else []

-- the numeral of line i
abbrev pub self_numeral : ℕ → List ℕ
self_numeral i = self_sign i ++ number_text (radix_at i) i ++ codes "." ++ number_text (radix_at i) (7919 * i % 65536)
    ++ self_exponent i

-- line i
unfoldable pub self_line : ℕ → List ℕ
self_line i = self_words i ++ self_numeral i

-- lines 0 to n - 1
unfoldable pub self_lines : ℕ → List (List ℕ)
self_lines zero = []
self_lines (suc n) = self_lines n ++ self_line n ∷ []

-- whether the text of a reply ends in the word
abbrev pub ends_in : List ℕ → AnswerText → Bool
ends_in word reply = ends_with (λ x y. x == y) reply.text word

-- of some replies, the number that end in `fits`, that end in `overflowed` and that are faults, and the bytes of all,
-- with a newline each
pub record Tally : Type 0 where
  pub fit : ℕ
  pub overflowed : ℕ
  pub faults : ℕ
  pub bytes : ℕ

unfoldable pub tally_of : List AnswerText → Tally
tally_of replies = record {
  fit = count_by (ends_in (codes "fits")) replies;
  overflowed = count_by (ends_in (codes "overflowed")) replies;
  faults = count_by is_fault replies;
  bytes = length (written_of replies);
}

-- a tally of at most n replies, of at most 192 bytes each
pub record IsWithin (n : ℕ) (tally : Tally) : Type 0 where
  pub fit : tally.fit ≤ n
  pub overflowed : tally.overflowed ≤ n
  pub faults : tally.faults ≤ n
  pub bytes : tally.bytes ≤ 193 * n

-- the replies are the answers to the first n lines, and `tally` is their tally
pub record IsTally (n : ℕ) (tally : Tally) : Type 0 where
  pub replies : List AnswerText
  pub answers : AreAnswers IsAnswer (self_lines n) replies
  pub tally_is : tally ≡ tally_of replies

-- the summary line of n lines with this tally
unfoldable pub summary_text : ℕ → Tally → List ℕ
summary_text n tally = number_text 10 n ++ codes " lines, " ++ number_text 10 tally.fit ++ codes " fit, "
    ++ number_text 10 tally.overflowed ++ codes " overflowed, " ++ number_text 10 tally.faults ++ codes " faults, "
    ++ number_text 10 tally.bytes ++ codes " bytes\n"

-- text is the summary of n lines, with `faults` faults among their answers
pub record IsSummary (n : ℕ) (text : List ℕ) (faults : ℕ) : Type 0 where
  pub tally : Tally
  pub is_tally : IsTally n tally
  pub text_is : text ≡ summary_text n tally
  pub faults_are : faults ≡ tally.faults

-- the whole summary was written and nothing else, and no write failed
pub record WritesSummary (n faults : ℕ) (written written' : Option (List ℕ)) (failed failed' : ℕ) : Type 0 where
  pub text : List ℕ
  pub summary : IsSummary n text faults
  pub output : Appends written written' text
  pub calm : failed' ≡ failed

-- a prefix of the summary was written and nothing else, and a write failed
pub record BreaksSummary (n : ℕ) (written written' : Option (List ℕ)) (failed failed' : ℕ) : Type 0 where
  pub text : List ℕ
  pub faults : ℕ
  pub summary : IsSummary n text faults
  pub output : AppendsPrefix written written' text
  pub rose : HasFailed failed failed'

-- the output of a self test of n lines that ended with this status, and whether a write failed
abbrev pub HasSelfRun : ℕ → Option (List ℕ) → Option (List ℕ) → ℕ → ℕ → Status → Type 0
HasSelfRun n written written' failed failed' Done = WritesSummary n 0 written written' failed failed'
HasSelfRun n written written' failed failed' Faults = (faults : ℕ) × (0 < faults)
    × WritesSummary n faults written written' failed failed'
HasSelfRun n written written' failed failed' Usage = ⊥
HasSelfRun n written written' failed failed' ReadFault = ⊥
HasSelfRun n written written' failed failed' WriteFault = BreaksSummary n written written' failed failed'
HasSelfRun n written written' failed failed' NoMemory = ⊥
HasSelfRun n written written' failed failed' TooLong = ⊥
