-- A line has one answer.
use Rattle.std.proofs.Common.{◌≡◌, ℕ, ◌<◌, List, [], Bool, length, get_or, refl, sym, ap, ◌∙◌, subst}
use Rattle.std.proofs.Common.{arith, inl, inr, if◌then◌else◌, ◌==◌}
use Rattle.std.specs.Fmt.{decimal, signed_decimal}
use Rattle.std.proofs.lemmas.Int.{ints}
use Rattle.std.proofs.lemmas.Fmt.{decimal_injective, signed_decimal_injective}
use Rattle.fixed_bits.specs.Formats.{FormatParts, IsFormat, whole_length}
use Rattle.fixed_bits.proofs.Public.{type_format}
use Rattle.fixed_bits.specs.declared.format.Policy.{Policy}
use Rattle.fixed_bits.specs.declared.format.Policy.TheVariants.{Checked, Saturating, Wrapping, Symmetric}
use Rattle.fixed_bits.specs.declared.mode.ReadMode.{ReadMode}
use Rattle.fixed_bits.specs.declared.mode.ReadMode.TheVariants.{NearestEven, Floor, Ceil, TowardsZero}
use Rattle.fixed_bits.specs.declared.mode.ReadMode.TheVariants.{NearestAway, NearestZero, NearestUp, NearestDown}
use Rattle.fixed_bits.specs.declared.mode.ReadMode.TheVariants.{AwayFromZero}
use Rattle.fixed_numeral.specs.Messages.{message_of}
use Rattle.fixed_numeral.specs.declared.radix.Radix.{Radix}
use Rattle.fixed_numeral.specs.declared.radix.Radix.TheVariants.{Bin, Oct, Dec, Hex}
use Rattle.fixed_respell.specs.Answer.{Task, task_of, AsksBy, IsAnswer, IsRefusalAnswer, IsRespelledAnswer}
use Rattle.fixed_respell.specs.Answer.{IsTaskAnswered, fault_message, respell_language, respelled_answer}
use Rattle.fixed_respell.specs.AnswerLaws.{AnswerIsTheOne, LongIsAnsweredByPrefix, PlainWordNamesNearest}
use Rattle.fixed_respell.specs.AnswerLaws.{PlainLineAsksNearest}
use Rattle.fixed_respell.specs.Language.{IsAnswerIn, fault_answer}
use Rattle.line_engine.specs.Lines.{kept_length}
use Rattle.fixed_respell.specs.LineWords.{longest_line}
use Rattle.line_engine.specs.AnswerText.{AnswerText}
use Rattle.fixed_respell.specs.Split.{count_of}
use Rattle.fixed_respell.specs.Words.{radix_text, format_text, policy_text, mode_text, IsFormatWord, IsPolicyName}
use Rattle.fixed_respell.specs.Words.{IsPlainWord, IsPolicyWord}
use Rattle.fixed_respell.specs.Words.{slash, sign_letter, fraction_letter, counts_text}
use Rattle.fixed_respell.specs.declared.fault.LineFault.TheVariants.{LineTooLong}
use Rattle.fixed_respell.specs.Lemmas.FaultLemmas.{faults_apart, first_long, no_fault}
use Rattle.fixed_respell.specs.Lemmas.FormatLemmas.{letters_differ, signed_no_letter, whole_small}
use Rattle.fixed_respell.specs.Lemmas.LanguageLemmas.{IsDefinite, answer_in_one, long_by_prefix}
use Rattle.fixed_respell.specs.Lemmas.LineWordLemmas.{words_one}
use Rattle.fixed_respell.specs.Lemmas.ReachedLemmas.{respelled_one, refusal_none, refusal_one}
use Rattle.fixed_respell.specs.Lemmas.SplitLemmas.{split_has_one, same_split}
use Rattle.fixed_respell.specs.Lemmas.WordLemmas.{no_slash}
use Rattle.fixed_write.specs.Texts.{IsShortestText}
use Rattle.fixed_write.proofs.Public.{shortest_text_unique}

-- ---- a word names one thing: one byte of it says which
first_byte : List ℕ → ℕ
first_byte word = get_or word 0 0

second_byte : List ℕ → ℕ
second_byte word = get_or word 1 0

radix_at : List ℕ → Radix
radix_at word = if first_byte word == 50 then Bin else if first_byte word == 56 then Oct else if second_byte word == 48
    then Dec else Hex

radix_back : (r : Radix) → radix_at (radix_text r) ≡ r
unfolding radix_at first_byte second_byte
radix_back Bin = refl
radix_back Oct = refl
radix_back Dec = refl
radix_back Hex = refl

pub radix_one : (r s : Radix) → radix_text r ≡ radix_text s → r ≡ s
radix_one r s e = sym (radix_back r) ∙ (ap radix_at e ∙ radix_back s)

policy_at : List ℕ → Policy
policy_at word = if first_byte word == 99 then Checked else if first_byte word == 119 then Wrapping
    else if second_byte word == 97 then Saturating else Symmetric

policy_back : (p : Policy) → policy_at (policy_text p) ≡ p
unfolding policy_at first_byte second_byte
policy_back Checked = refl
policy_back Saturating = refl
policy_back Wrapping = refl
policy_back Symmetric = refl

pub policy_one : (p q : Policy) → policy_text p ≡ policy_text q → p ≡ q
policy_one p q e = sym (policy_back p) ∙ (ap policy_at e ∙ policy_back q)

mode_at : List ℕ → ReadMode
mode_at word = if get_or word 5 0 == 97 then NearestAway else if get_or word 5 0 == 122 then NearestZero
    else if get_or word 5 0 == 117 then NearestUp else if get_or word 5 0 == 100 then NearestDown
    else if first_byte word == 110 then NearestEven else if first_byte word == 102 then Floor
    else if first_byte word == 99 then Ceil else if first_byte word == 97 then AwayFromZero else TowardsZero

mode_back : (m : ReadMode) → mode_at (mode_text m) ≡ m
unfolding mode_at first_byte
mode_back NearestEven = refl
mode_back NearestAway = refl
mode_back NearestZero = refl
mode_back NearestUp = refl
mode_back NearestDown = refl
mode_back Floor = refl
mode_back Ceil = refl
mode_back TowardsZero = refl
mode_back AwayFromZero = refl

pub mode_one : (m k : ReadMode) → mode_text m ≡ mode_text k → m ≡ k
mode_one m k e = sym (mode_back m) ∙ (ap mode_at e ∙ mode_back k)

pub policy_name_one : (word : List ℕ) (p q : Policy) (m k : ReadMode) → IsPolicyName word p m → IsPolicyName word q k
    → (p ≡ q) × (m ≡ k)
policy_name_one word p q m k (inl a) (inl b) = (policy_one p q (sym a.0 ∙ b.0), a.1 ∙ sym b.1)
policy_name_one word p q m k (inl a) (inr b) = absurd (split_has_one slash word (policy_text q) (mode_text k) b
    (ap (count_of slash) a.0 ∙ no_slash p))
policy_name_one word p q m k (inr a) (inl b) = absurd (split_has_one slash word (policy_text p) (mode_text m) a
    (ap (count_of slash) b.0 ∙ no_slash q))
policy_name_one word p q m k (inr a) (inr b) =
    let same = same_split slash (policy_text p) (policy_text q) (mode_text m) (mode_text k) (sym a ∙ b) (no_slash p)
    (no_slash q) in
    (policy_one p q same.before, mode_one m k same.after)

-- a word of a policy is a name of it
pub word_is_name : (word : List ℕ) (p : Policy) (m : ReadMode) → IsPolicyWord word p m → IsPolicyName word p m
word_is_name word p m (inl plain) = inl (plain.0.0, plain.1)
word_is_name word p m (inr named) = inr named.0

pub policy_word_one : (word : List ℕ) (p q : Policy) (m k : ReadMode) → IsPolicyWord word p m → IsPolicyWord word q k
    → (p ≡ q) × (m ≡ k)
policy_word_one word p q m k a b = policy_name_one word p q m k (word_is_name word p m a) (word_is_name word q k b)

-- a word names one format
abbrev parts : Bool → ℕ → ℕ → FormatParts
parts s w r = record { signed = s; width = w; frac = r }

parts_are : (f g : FormatParts) → f.signed ≡ g.signed → f.width ≡ g.width → f.frac ≡ g.frac → f ≡ g
parts_are f g s w r = λ i. parts (s i) (w i) (r i)

pub format_text_one : (f g : FormatParts) → IsFormat f.width f.frac → IsFormat g.width g.frac
    → format_text f ≡ format_text g → f ≡ g
format_text_one f g a b e =
    let head : sign_letter f.signed ≡ sign_letter g.signed = cc in
    let tail : counts_text fraction_letter f ≡ counts_text fraction_letter g = cc in
    let small_f = whole_small f a in
    let small_g = whole_small g b in
    let same = same_split fraction_letter (signed_decimal (whole_length f)) (signed_decimal (whole_length g))
    (decimal f.frac) (decimal g.frac) tail (signed_no_letter (whole_length f) (omega (arith, small_f)))
    (signed_no_letter (whole_length g) (omega (arith, small_g))) in
    let whole : whole_length f ≡ whole_length g = signed_decimal_injective (whole_length f) (whole_length g)
    (omega (arith, small_f)) (omega (arith, small_g)) same.before in
    let frac : f.frac ≡ g.frac = decimal_injective f.frac g.frac (omega (arith, a.within)) (omega (arith, b.within))
    same.after in
    parts_are f g (letters_differ f.signed g.signed head) (omega (arith, ints, whole, frac)) frac

pub format_word_one : (word : List ℕ) (f g : FormatParts) → IsFormatWord word f → IsFormatWord word g → f ≡ g
format_word_one word f g a b = format_text_one f g (type_format f.width f.frac a.format)
    (type_format g.width g.frac b.format) (sym a.text ∙ b.text)

task_is : (t u : Task) → t.radix ≡ u.radix → t.source ≡ u.source → t.target ≡ u.target → t.policy ≡ u.policy
    → t.mode ≡ u.mode → t.numeral ≡ u.numeral → t ≡ u
task_is t u r s g p m n = λ i. task_of (r i) (s i) (g i) (p i) (m i) (n i)

-- ---- a task has one answer
refusals : (t : Task) (a b : AnswerText) → IsRefusalAnswer t a → IsRefusalAnswer t b → a ≡ b
refusals t a b x y =
    let kind = refusal_one t.mode t.radix t.numeral t.policy t.source t.target x.kind y.kind x.refusal y.refusal in
    x.answer_is ∙ (ap (λ k. fault_answer (message_of k)) kind ∙ sym y.answer_is)

refused_or_not : (t : Task) (a b : AnswerText) → IsRefusalAnswer t a → IsRespelledAnswer t b → ⊥
refused_or_not t a b x y = refusal_none t.mode t.radix t.numeral t.policy t.source t.target x.kind y.bits y.overflowed
    x.refusal y.respelled

-- ---- a line has one answer, for all relations that tell what a word names, if a word names at most one thing
module _ (Names : List ℕ → FormatParts → Type 0) (one_format : (word : List ℕ) (f g : FormatParts) → Names word f
    → Names word g → f ≡ g) (valid : (word : List ℕ) (f : FormatParts) → Names word f → IsFormat f.width f.frac)
    (NamesPolicy : List ℕ → Policy → ReadMode → Type 0) (one_policy : (word : List ℕ) (p q : Policy) (m k : ReadMode)
    → NamesPolicy word p m → NamesPolicy word q k → (p ≡ q) × (m ≡ k)) where
  -- a line asks for one task
  pub task_one : (line : List ℕ) (t u : Task) → AsksBy Names NamesPolicy line t → AsksBy Names NamesPolicy line u
      → t ≡ u
  task_one line t u a b =
      let same = words_one line _ _ t.numeral u.numeral a.words b.words refl in
      let radix : a.radix_word ≡ b.radix_word = ap (λ ws. get_or ws 0 []) same.words in
      let source : a.source_word ≡ b.source_word = ap (λ ws. get_or ws 1 []) same.words in
      let target : a.target_word ≡ b.target_word = ap (λ ws. get_or ws 2 []) same.words in
      let policy : a.policy_word ≡ b.policy_word = ap (λ ws. get_or ws 3 []) same.words in
      let named = one_policy b.policy_word t.policy u.policy t.mode u.mode
      (subst (λ w. NamesPolicy w t.policy t.mode) policy a.policy) b.policy in
      task_is t u
      (radix_one t.radix u.radix (sym a.radix ∙ (radix ∙ b.radix)))
      (one_format b.source_word t.source u.source (subst (λ w. Names w t.source) source a.source) b.source)
      (one_format b.target_word t.target u.target (subst (λ w. Names w t.target) target a.target) b.target)
      named.0 named.1 same.rests

  respellings : (line : List ℕ) (t : Task) (a b : AnswerText) → AsksBy Names NamesPolicy line t
      → IsRespelledAnswer t a → IsRespelledAnswer t b → a ≡ b
  respellings line t a b asks x y =
      let one = respelled_one t.mode t.radix t.numeral t.policy t.source t.target x.bits y.bits x.overflowed
      y.overflowed (valid asks.source_word t.source asks.source)
      (valid asks.target_word t.target asks.target) x.respelled y.respelled in
      let text = shortest_text_unique y.bits t.target.frac x.text y.text
      (subst (λ c. IsShortestText c t.target.frac x.text) one.0 x.shortest) y.shortest in
      x.answer_is ∙ ((λ i. respelled_answer (text i) (one.0 i) (one.1 i)) ∙ sym y.answer_is)

  task_answer_one : (line : List ℕ) (t : Task) (a b : AnswerText) → AsksBy Names NamesPolicy line t
      → IsTaskAnswered t a → IsTaskAnswered t b → a ≡ b
  task_answer_one line t a b asks (inl x) (inl y) = refusals t a b x y
  task_answer_one line t a b asks (inl x) (inr y) = absurd (refused_or_not t a b x y)
  task_answer_one line t a b asks (inr x) (inl y) = absurd (refused_or_not t b a y x)
  task_answer_one line t a b asks (inr x) (inr y) = respellings line t a b asks x y

  definite : IsDefinite (respell_language Names NamesPolicy)
  definite = record {
    apart = faults_apart;
    no_fault = no_fault Names NamesPolicy;
    task_one = task_one;
    answer_one = task_answer_one;
  }

  pub answer_by : (line : List ℕ) (a b : AnswerText) → IsAnswerIn (respell_language Names NamesPolicy) line a
      → IsAnswerIn (respell_language Names NamesPolicy) line b → a ≡ b
  answer_by line a b x y = answer_in_one (respell_language Names NamesPolicy) definite line a b x y

word_valid : (word : List ℕ) (f : FormatParts) → IsFormatWord word f → IsFormat f.width f.frac
word_valid word f is = type_format f.width f.frac is.format

pub answer_one : AnswerIsTheOne
answer_one = answer_by IsFormatWord format_word_one word_valid IsPolicyWord policy_word_one

long_answer : (line : List ℕ) → longest_line < length line → IsAnswer line (fault_answer (fault_message LineTooLong))
long_answer line long = inl (record {
  fault = LineTooLong;
  first = first_long IsFormatWord IsPolicyWord line long;
  answer_is = refl;
})

pub long_by_its_prefix : LongIsAnsweredByPrefix
long_by_its_prefix line reply long = long_by_prefix IsAnswer
    (fault_answer (fault_message LineTooLong)) answer_one long_answer kept_length line reply (omega arith) long

-- ---- words without a slash
pub plain_word : PlainWordNamesNearest
plain_word word p m none = (to, λ w. inl w)
  where
    to : IsPolicyWord word p m → IsPlainWord word p m
    to (inl w) = w
    to (inr w) = absurd (split_has_one slash word (policy_text p) (mode_text m) w.0 none)

pub plain_line : PlainLineAsksNearest
plain_line line t asks none = let w = (plain_word asks.policy_word t.policy t.mode none).0 asks.policy in (w.0.0, w.1)
