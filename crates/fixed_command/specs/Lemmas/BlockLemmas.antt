-- A line has one block.
use Rattle.std.proofs.Common.{◌≡◌, ◌∙◌, ◌↔◌, ◌<◌, ◌≤◌, ℕ, List, [], ◌∷◌, ◌++◌, Bool, true, false}
use Rattle.std.proofs.Common.{codes, length, nat_lt, take}
use Rattle.std.proofs.Common.{sym, ap, subst, arith, inl, inr, length-take, take-take}
use Rattle.std.proofs.lemmas.Bool.{lt-ltb}
use Rattle.fixed_amounts.proofs.Public.{amount_block_one, amount_object_one, decimal_name_one}
use Rattle.fixed_bits.specs.Formats.{FormatParts}
use Rattle.fixed_fields.proofs.Public.{fields_answer_one}
use Rattle.fixed_names.proofs.Public.{name_one}
use Rattle.fixed_respell.specs.LineWords.{longest_line}
use Rattle.fixed_show.proofs.Public.{bits_block_one, format_block_one, part_block_one, show_block_one}
use Rattle.fixed_show.proofs.Public.{bits_object_one, format_object_one, part_object_one, show_object_one}
use Rattle.fixed_show.specs.Forms.{refusal}
use Rattle.fixed_show.specs.JsonText.{json_text, object_text}
use Rattle.fixed_show.specs.declared.form.Form.{Form}
use Rattle.fixed_show.specs.declared.form.Form.TheVariants.{Lines, Members}
use Rattle.line_engine.specs.AnswerText.{AnswerText}
use Rattle.line_engine.specs.Lines.{kept_length}
use Rattle.fixed_command.specs.Blocks.{IsAnswered, IsBlock, IsDecimalAnswer, IsFormatAnswer, IsFormatText, IsHeaded}
use Rattle.fixed_command.specs.Blocks.{IsObject, decimal_format_answer, head_line}
use Rattle.fixed_command.specs.Convert.{without_return}
use Rattle.fixed_command.specs.LineBlocks.{HasFormat, IsAnswerOf, IsLineBlock, LineBlockIsTheOne, long_answer}
use Rattle.fixed_command.specs.declared.blocks.Question.{Question}
use Rattle.fixed_command.specs.declared.blocks.Question.TheVariants.{Amount, Bits, Fields, Format, Part, Show}

abbrev reply_of : List ℕ → Bool → AnswerText
reply_of t o = record { text = t; fault = o }

alike : (a b : AnswerText) → a.fault ≡ b.fault → a.text ≡ b.text → a ≡ b
alike a b e f = ap (λ t. reply_of t a.fault) f ∙ ap (λ o. reply_of b.text o) e

-- the block or the object of a format
text_one : (form : Form) (word : List ℕ) (f : FormatParts) (a b : List ℕ) → IsFormatText form word f a
    → IsFormatText form word f b → a ≡ b
text_one Lines word f a b x y = format_block_one f a b x y
text_one Members word f a b x y = format_object_one word f a b x y

decimal_one : (form : Form) (word : List ℕ) (a b : AnswerText) → IsDecimalAnswer form word a
    → IsDecimalAnswer form word b → a ≡ b
decimal_one form word a b (inl x) (inl y) =
    let places : x.places ≡ y.places = decimal_name_one word x.places y.places x.word_is y.word_is in
    x.answer_is ∙ ap (λ n. reply_of (decimal_format_answer form word n) false) places ∙ sym y.answer_is
decimal_one form word a b (inl x) (inr y) = absurd (y.none x.places x.word_is)
decimal_one form word a b (inr x) (inl y) = absurd (x.none y.places y.word_is)
decimal_one form word a b (inr x) (inr y) = x.answer_is ∙ sym y.answer_is

format_one : (form : Form) (word : List ℕ) (a b : AnswerText) → IsFormatAnswer form word a → IsFormatAnswer form word b
    → a ≡ b
format_one form word a b (inl x) (inl y) =
    let f : x.format ≡ y.format = name_one word x.format y.format x.word_is y.word_is in
    let text : a.text ≡ b.text = text_one form word y.format a.text b.text
    (subst (λ (g : FormatParts). IsFormatText form word g a.text) f x.text) y.text in
    alike a b (x.clean ∙ sym y.clean) text
format_one form word a b (inl x) (inr y) = absurd (y.none x.format x.word_is)
format_one form word a b (inr x) (inl y) = absurd (x.none y.format y.word_is)
format_one form word a b (inr x) (inr y) = decimal_one form word a b x.decimal y.decimal

-- the block of a word
block_one : (q : Question) (word : List ℕ) (a b : AnswerText) → HasFormat q → IsBlock q word a → IsBlock q word b
    → a ≡ b
block_one (Show r f p m) word a b valid x y =
    let same = show_block_one m r word f p a.fault b.fault a.text b.text valid.is_width x y in
    alike a b same.0 same.1
block_one (Bits r f) word a b valid x y =
    let same = bits_block_one r f word a.fault b.fault a.text b.text valid.is_width x y in
    alike a b same.0 same.1
block_one (Part r part f) word a b valid x y =
    let same = part_block_one r part f word a.fault b.fault a.text b.text valid.is_width x y in
    alike a b same.0 same.1
block_one (Fields question) word a b valid x y =
    let same = fields_answer_one Lines question word a.fault b.fault a.text b.text x y in
    alike a b same.0 same.1
block_one (Amount question) word a b valid x y =
    let same = amount_block_one question word a.fault b.fault a.text b.text x y in
    alike a b same.0 same.1
block_one Format word a b valid x y = format_one Lines word a b x y

-- its object
object_one : (q : Question) (word : List ℕ) (a b : AnswerText) → HasFormat q → IsObject q word a → IsObject q word b
    → a ≡ b
object_one (Show r f p m) word a b valid x y =
    let same = show_object_one m r word f p a.fault b.fault a.text b.text valid.is_width x y in
    alike a b same.0 same.1
object_one (Bits r f) word a b valid x y =
    let same = bits_object_one r f word a.fault b.fault a.text b.text valid.is_width x y in
    alike a b same.0 same.1
object_one (Part r part f) word a b valid x y =
    let same = part_object_one r part f word a.fault b.fault a.text b.text valid.is_width x y in
    alike a b same.0 same.1
object_one (Fields question) word a b valid x y =
    let same = fields_answer_one Members question word a.fault b.fault a.text b.text x y in
    alike a b same.0 same.1
object_one (Amount question) word a b valid x y =
    let same = amount_object_one question word a.fault b.fault a.text b.text x y in
    alike a b same.0 same.1
object_one Format word a b valid x y = format_one Members word a b x y

headed_one : (q : Question) (word : List ℕ) (a b : AnswerText) → HasFormat q → IsHeaded q word a → IsHeaded q word b
    → a ≡ b
headed_one q word a b valid x y =
    let same = block_one q word (record { text = x.body; fault = a.fault }) (record { text = y.body; fault = b.fault })
    valid x.is_body y.is_body in
    let body : x.body ≡ y.body = ap (λ t. t.text) same in
    alike a b (ap (λ t. t.fault) same) (x.text_is ∙ (ap (λ t. head_line word ++ t) body ∙ sym y.text_is))

answered_one : (form : Form) (q : Question) (word : List ℕ) (a b : AnswerText) → HasFormat q → IsAnswered form q word a
    → IsAnswered form q word b → a ≡ b
answered_one Lines q word a b valid x y = headed_one q word a b valid x y
answered_one Members q word a b valid x y = object_one q word a b valid x y

-- the answer to a line
of_one : (long : Bool) (form : Form) (q : Question) (line : List ℕ) (a b : AnswerText) → IsAnswerOf long form q line a
    → IsAnswerOf long form q line b → a ≡ b
of_one true form q line a b x y = x ∙ sym y
of_one false form q line a b x y = answered_one form q (without_return line) a b x.0 x.1 y.1

pub line_block_one : LineBlockIsTheOne
line_block_one form q line a b x y = of_one (nat_lt longest_line (length line)) form q line a b x y

-- the first bytes of a line that is too long determine its answer
long_is : (form : Form) (q : Question) (line : List ℕ) (answer : AnswerText) → longest_line < length line
    → IsLineBlock form q line answer ↔ (answer ≡ long_answer form line)
long_is form q line answer long =
    let e : nat_lt longest_line (length line) ≡ true = lt-ltb longest_line (length line) long in (
      (λ h. subst (λ o. IsAnswerOf o form q line answer) e h),
      (λ h. subst (λ o. IsAnswerOf o form q line answer) (sym e) h),
    )

long_one : (form : Form) (n : ℕ) (line : List ℕ) → 1024 ≤ n → long_answer form (take n line) ≡ long_answer form line
unfolding object_text
long_one Lines n line h =
    ap (λ t. reply_of ((codes "given     " ++ (t ++ 10 ∷ [])) ++ refusal Lines (codes "line too long")) true)
    (take-take 1024 n line h)
long_one Members n line h =
    let behind : List ℕ = refusal Members (codes "line too long") ++ codes "}" in
    ap (λ t. reply_of (codes "{\"given\":" ++ (json_text t ++ behind)) true) (take-take 768 n line (omega (arith, h)))

by_prefix : (n : ℕ) (form : Form) (q : Question) (line : List ℕ) (answer : AnswerText) → longest_line < n
    → n < length line → IsLineBlock form q (take n line) answer ↔ IsLineBlock form q line answer
by_prefix n form q line answer past longer =
    let whole : longest_line < length line = omega (arith, past, longer) in
    let prefix : longest_line < length (take n line) = omega (arith, length-take n line, past, longer) in
    let one = long_is form q (take n line) answer prefix in
    let all = long_is form q line answer whole in
    let same : long_answer form (take n line) ≡ long_answer form line = long_one form n line (omega (arith, past)) in (
      (λ h. all.1 (one.0 h ∙ same)),
      (λ h. one.1 (all.0 h ∙ sym same)),
    )

pub long_by_its_prefix : (form : Form) (q : Question) (line : List ℕ) (answer : AnswerText) → kept_length < length line
    → IsLineBlock form q (take kept_length line) answer ↔ IsLineBlock form q line answer
long_by_its_prefix form q line answer long = by_prefix kept_length form q line answer (omega arith) long
