-- A line has the same answers under two languages of policy and mode that agree on its fourth word.
use Rattle.std.proofs.Common.{◌≡◌, ℕ, List, [], length, get_or, refl, inl, inr, ◌↔◌}
use Rattle.fixed_bits.specs.Formats.{FormatParts}
use Rattle.fixed_bits.specs.declared.format.Policy.{Policy}
use Rattle.fixed_bits.specs.declared.mode.ReadMode.{ReadMode}
use Rattle.fixed_respell.specs.Answer.{AsksBy, HasFaultBy, IsFirstFaultBy, Task, respell_language}
use Rattle.fixed_respell.specs.AnswerLaws.{IsPlainLine, PlainLineHasThePlainAnswer}
use Rattle.fixed_respell.specs.Language.{IsAnswerIn}
use Rattle.fixed_respell.specs.LineWords.{HasWords}
use Rattle.line_engine.specs.AnswerText.{AnswerText}
use Rattle.fixed_respell.specs.Words.{IsFormatWord, IsPlainWord, IsPolicyWord}
use Rattle.fixed_respell.specs.declared.fault.LineFault.{LineFault}
use Rattle.fixed_respell.specs.declared.fault.LineFault.TheVariants.{LineTooLong, MissingField, BadRadix, BadSource, BadTarget, BadPolicy}
use Rattle.fixed_respell.specs.Lemmas.AnswerLemmas.{plain_word}

-- two languages of policy and mode agree on the line's fourth word
abbrev Agree : (M N : List ℕ → Policy → ReadMode → Type 0) → List ℕ → Type 0
Agree M N line = (words : List (List ℕ)) (rest : List ℕ) → HasWords line words rest → length words ≡ 4 → (p : Policy) (m : ReadMode) → M (get_or words 3 []) p m ↔ N (get_or words 3 []) p m

flipped : (M N : List ℕ → Policy → ReadMode → Type 0) (line : List ℕ) → Agree M N line → Agree N M line
flipped M N line agree words rest has count p m = ((agree words rest has count p m).1, (agree words rest has count p m).0)

fault_too : (M N : List ℕ → Policy → ReadMode → Type 0) (line : List ℕ) → Agree M N line → (f : LineFault) → HasFaultBy IsFormatWord M f line → HasFaultBy IsFormatWord N f line
fault_too M N line agree LineTooLong has = has
fault_too M N line agree MissingField has = has
fault_too M N line agree BadRadix has = has
fault_too M N line agree BadSource has = has
fault_too M N line agree BadTarget has = has
fault_too M N line agree BadPolicy has = record {
  words = has.words;
  rest = has.rest;
  has = has.has;
  count_is = has.count_is;
  bad = λ (p, m, named). has.bad (p, m, (agree has.words has.rest has.has has.count_is p m).1 named);
}

first_too : (M N : List ℕ → Policy → ReadMode → Type 0) (line : List ℕ) → Agree M N line → (f : LineFault) → IsFirstFaultBy IsFormatWord M f line → IsFirstFaultBy IsFormatWord N f line
first_too M N line agree f is = record {
  has = fault_too M N line agree f is.has;
  first = λ other before has. is.first other before (fault_too N M line (flipped M N line agree) other has);
}

-- the line requests the same under other names for its words
pub asks_by : (F G : List ℕ → FormatParts → Type 0) (M N : List ℕ → Policy → ReadMode → Type 0) (line : List ℕ) (t : Task) (asks : AsksBy F M line t) → G asks.source_word t.source → G asks.target_word t.target → N asks.policy_word t.policy t.mode → AsksBy G N line t
asks_by F G M N line t asks source target policy = record {
  short = asks.short;
  radix_word = asks.radix_word;
  source_word = asks.source_word;
  target_word = asks.target_word;
  policy_word = asks.policy_word;
  words = asks.words;
  radix = asks.radix;
  source = source;
  target = target;
  policy = policy;
}

answer_too : (M N : List ℕ → Policy → ReadMode → Type 0) (line : List ℕ) (reply : AnswerText) → Agree M N line → IsAnswerIn (respell_language IsFormatWord M) line reply → IsAnswerIn (respell_language IsFormatWord N) line reply
answer_too M N line reply agree (inl a) = inl (record { fault = a.fault; first = first_too M N line agree a.fault a.first; answer_is = a.answer_is })
answer_too M N line reply agree (inr a) = inr (record { task = a.task; asks = asks_by IsFormatWord IsFormatWord M N line a.task a.asks a.asks.source a.asks.target ((agree _ a.task.numeral a.asks.words refl a.task.policy a.task.mode).0 a.asks.policy); answered = a.answered })

-- the two languages agree on a line without a slash
plain_words : (line : List ℕ) → IsPlainLine line → Agree IsPolicyWord IsPlainWord line
plain_words line plain words rest has count p m = plain_word (get_or words 3 []) p m (plain words rest has count)

pub plain_answer : PlainLineHasThePlainAnswer
plain_answer line reply plain = (
  answer_too IsPolicyWord IsPlainWord line reply (plain_words line plain),
  answer_too IsPlainWord IsPolicyWord line reply (flipped IsPolicyWord IsPlainWord line (plain_words line plain)),
)
