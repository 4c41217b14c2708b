-- Numbers in a base, the lines of the self test, and their tally.
use Rattle.std.proofs.Common.{◌≡◌, ℕ, zero, suc, ◌+◌, ◌-◌, ◌/◌, ◌%◌, ◌^◌, ◌<◌, ◌≤◌, ◌==◌, cond, Bool, true, false, List, [], ◌∷◌, ◌++◌, map, length, refl, sym, ap, ◌∙◌, subst, arith, length-append}
use Rattle.std.proofs.Math.Nat.{div-eq_of_lt, mod-eq_of_lt, div-eq-sub-div, pow-le-pow_left}
use Rattle.std.specs.Int.Digits.{digits_of}
use Rattle.std.proofs.lemmas.Int.Digits.{digits_of_step, length-digits_of-le}
use Rattle.std.proofs.lemmas.List.{map-append, length-map}
use Rattle.std.proofs.lemmas.List.Sums.{sum_by-append}
use Rattle.std.specs.Prelude.{codes}
use Rattle.std.specs.Int.{from_bool}
use Rattle.std.specs.List.{count_by}
use Rattle.line_engine.specs.Output.{AreAnswers, is_fault, reply_line, written_of}
use Rattle.line_engine.specs.AnswerText.{AnswerText}
use Rattle.fixed_respell.specs.SelfMode.{IsSummary, IsTally, IsWithin, Tally, digit_letter, ends_in, number_text, self_line, self_lines, summary_text, tally_of}
use Rattle.fixed_respell.specs.Answer.{IsAnswer}
use Rattle.line_engine.proofs.Public.{AreAnswers-append, written_of-append}

not_zero : (n : ℕ) → 0 < n → (n == 0) ≡ false
not_zero n p = grind arith

number_some : (b n : ℕ) → 0 < n → number_text b n ≡ map digit_letter (digits_of b n)
unfolding number_text
number_some b n p = rw (not_zero n p) refl

digits_digit : (b n : ℕ) → 2 ≤ b → 0 < n → n < b → digits_of b n ≡ n ∷ []
digits_digit b n least p l =
    let none : n / b ≡ 0 = div-eq_of_lt l in
    let same : n % b ≡ n = mod-eq_of_lt l in
    digits_of_step b n least p ∙ rw (none, same) refl

-- a number below the base has one digit
pub number_digit : (b n : ℕ) → 2 ≤ b → n < b → number_text b n ≡ digit_letter n ∷ []
unfolding number_text
number_digit b zero least l = refl
number_digit b (suc n) least l = number_some b (suc n) (omega arith) ∙ ap (map digit_letter) (digits_digit b (suc n) least (omega arith) l)

-- another number has one digit more than its quotient
pub number_more : (b n : ℕ) → 2 ≤ b → b ≤ n → number_text b n ≡ number_text b (n / b) ++ digit_letter (n % b) ∷ []
number_more b n least l =
    let step : n / b ≡ (n - b) / b + 1 = div-eq-sub-div (omega arith) l in
    let some : 0 < n / b = omega (arith, step) in
    number_some b n (omega arith) ∙
    (ap (map digit_letter) (digits_of_step b n least (omega arith)) ∙
    (map-append digit_letter (digits_of b (n / b)) (n % b ∷ []) ∙
    ap (λ (t : List ℕ). t ++ digit_letter (n % b) ∷ []) (sym (number_some b (n / b) some))))

pub digit_length : (b n : ℕ) → 2 ≤ b → n < b → length (number_text b n) ≡ 1
digit_length b n least l = ap length (number_digit b n least l)

pub more_length : (b n : ℕ) → 2 ≤ b → b ≤ n → length (number_text b n) ≡ length (number_text b (n / b)) + 1
more_length b n least l = ap length (number_more b n least l) ∙ length-append (number_text b (n / b)) (digit_letter (n % b) ∷ [])

-- a number below b^k has at most k digits
pub number_short : (b k n : ℕ) → 2 ≤ b → 0 < k → n < b ^ k → length (number_text b n) ≤ k
number_short b k zero least some l = omega (arith, ap length (number_digit b 0 least (omega arith)))
number_short b k (suc n) least some l =
    omega (arith, ap length (number_some b (suc n) (omega arith)), length-map (digits_of b (suc n)) digit_letter, length-digits_of-le b k (suc n) least l)

pub radix_short : (b : ℕ) → b ≤ 16 → length (number_text 10 b) ≤ 2
radix_short b l = number_short 10 2 b (omega arith) (omega arith) (omega arith)

pub line_short : (b n : ℕ) → 2 ≤ b → n < 2 ^ 20 → length (number_text b n) ≤ 20
line_short b n least l = number_short b 20 n least (omega arith) (omega (arith, pow-le-pow_left least 20))

pub fraction_short : (b n : ℕ) → 2 ≤ b → length (number_text b (n % 65536)) ≤ 16
fraction_short b n least = number_short b 16 (n % 65536) least (omega arith) (omega (arith, pow-le-pow_left least 16))

pub count_short : (n : ℕ) → n < 10 ^ 9 → length (number_text 10 n) ≤ 9
count_short n l = number_short 10 9 n (omega arith) (omega arith) l

-- ---- the tally
as_byte : (b : Bool) → cond b 1 0 ≡ from_bool b
as_byte true = refl
as_byte false = refl

count_more : (p : AnswerText → Bool) (replies : List AnswerText) (reply : AnswerText) → count_by p (replies ++ reply ∷ []) ≡ count_by p replies + from_bool (p reply)
count_more p replies reply =
    let one : count_by p (reply ∷ []) ≡ 0 + cond (p reply) 1 0 = refl in
    omega (arith, sum_by-append (λ x. cond (p x) 1 0) replies (reply ∷ []), one, as_byte (p reply))

bytes_more : (replies : List AnswerText) (reply : AnswerText) → length (written_of (replies ++ reply ∷ [])) ≡ length (written_of replies) + (length reply.text + 1)
bytes_more replies reply =
    omega (
      arith,
      ap length (written_of-append replies (reply ∷ [])),
      length-append (written_of replies) (written_of (reply ∷ [])),
      length-append (reply_line reply) [],
      length-append reply.text (10 ∷ []),
    )

abbrev tally : ℕ → ℕ → ℕ → ℕ → Tally
tally fit overflowed faults bytes = record { fit = fit; overflowed = overflowed; faults = faults; bytes = bytes }

same_tally : (a b c d a' b' c' d' : ℕ) → a ≡ a' → b ≡ b' → c ≡ c' → d ≡ d' → tally a b c d ≡ tally a' b' c' d'
same_tally a b c d a' b' c' d' p q r s = rw (p, q, r, s) refl

-- the tally of one more reply
pub tally_more : (replies : List AnswerText) (reply : AnswerText) (now : Tally) (a b c d : ℕ) → now ≡ tally_of replies
    → a ≡ now.fit + from_bool (ends_in (codes "fits") reply)
    → b ≡ now.overflowed + from_bool (ends_in (codes "overflowed") reply)
    → c ≡ now.faults + from_bool reply.fault
    → d ≡ now.bytes + (length reply.text + 1)
    → tally a b c d ≡ tally_of (replies ++ reply ∷ [])
unfolding tally_of
tally_more replies reply now a b c d is p q r s =
    same_tally a b c d _ _ _ _
    (p ∙ ap (λ (t : Tally). t.fit + from_bool (ends_in (codes "fits") reply)) is ∙ sym (count_more (ends_in (codes "fits")) replies reply))
    (q ∙ ap (λ (t : Tally). t.overflowed + from_bool (ends_in (codes "overflowed") reply)) is ∙ sym (count_more (ends_in (codes "overflowed")) replies reply))
    (r ∙ ap (λ (t : Tally). t.faults + from_bool reply.fault) is ∙ sym (count_more is_fault replies reply))
    (s ∙ ap (λ (t : Tally). t.bytes + (length reply.text + 1)) is ∙ sym (bytes_more replies reply))

-- the tally of no replies
pub tally_none : IsTally 0 (tally_of [])
unfolding self_lines
tally_none = record { replies = []; answers = tt; tally_is = refl }

pub within_none : IsWithin 0 (tally_of [])
unfolding tally_of
within_none = record { fit = omega arith; overflowed = omega arith; faults = omega arith; bytes = omega arith }

lines_next : (n : ℕ) → self_lines (n + 1) ≡ self_lines n ++ self_line n ∷ []
unfolding self_lines
lines_next n = let e : n + 1 ≡ suc n = omega arith in rw e refl

pub tally_next : (n : ℕ) (now next : Tally) (reply : AnswerText) → IsTally n now → IsAnswer (self_line n) reply
    → ((replies : List AnswerText) → now ≡ tally_of replies → next ≡ tally_of (replies ++ reply ∷ [])) → IsTally (n + 1) next
tally_next n now next reply first answer step = record {
  replies = first.replies ++ reply ∷ [];
  answers = subst (λ lines. AreAnswers IsAnswer lines (first.replies ++ reply ∷ [])) (sym (lines_next n)) (AreAnswers-append IsAnswer (self_lines n) (self_line n ∷ []) first.replies (reply ∷ []) first.answers (answer, tt));
  tally_is = step first.replies first.tally_is;
}

-- ---- the summary
pub is_summary : (n : ℕ) (tally : Tally) → IsTally n tally → IsSummary n (summary_text n tally) tally.faults
is_summary n tally is = record { tally = tally; is_tally = is; text_is = refl; faults_are = refl }
