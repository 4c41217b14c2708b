-- The answer that refuses a line, as a text and as a value.
use Rattle.std.proofs.Common.{◌≡◌, ◌∙◌, ◌+◌, ◌<◌, ◌≤◌, ℕ, List, [], ◌∷◌, ◌++◌, Bool, true, false, Err, Ok, codes, length, nat_lt, take, if◌then◌else◌, refl, sym, ap, subst, arith, append-nil, length-append, length-take}
use Rattle.std.proofs.lemmas.Bool.{le-ltb, lt-ltb}
use Rattle.std.proofs.lemmas.List.{append_cancel_left, append_cancel_right, take_at}
use Rattle.fixed_respell.specs.LineWords.{longest_line}
use Rattle.fixed_show.proofs.Public.{object_longer}
use Rattle.fixed_show.specs.Blocks.{Appends, line}
use Rattle.fixed_show.specs.Forms.{fact, label, refusal}
use Rattle.fixed_show.specs.declared.form.Form.{Form}
use Rattle.fixed_show.specs.declared.form.Form.TheVariants.{Lines, Members}
use Rattle.line_engine.specs.AnswerText.{AnswerText}
use Rattle.run_engine.specs.Reply.{Replies}
use Rattle.fixed_command.specs.Blocks.{IsAnswered, head_line, refused_answer}
use Rattle.fixed_command.specs.Convert.{without_return}
use Rattle.fixed_command.specs.LineBlocks.{HasFormat, IsAnswerOf, IsLineBlock, given_line, line_refusal}
use Rattle.fixed_command.specs.declared.blocks.Question.{Question}
use Rattle.fixed_command.specs.declared.message.Message.{Message}

-- ---- lengths
fact_longer : (m : List ℕ) → length (fact Members (codes "refused") m) ≡ length m + 13
unfolding fact label
fact_longer m = omega (arith, length-append m (34 ∷ []))

line_longer : (m : List ℕ) → length (line (codes "error: ") m) ≡ length m + 8
unfolding line
line_longer m = omega (arith, length-append m (10 ∷ []))

-- the answer that refuses a word is longer than its message, but not by much
pub answer_longer : (form : Form) (word m : List ℕ) → (length m ≤ length (refused_answer form word m)) × (length (refused_answer form word m) ≤ 4700 + length m)
answer_longer Lines word m =
    let head = length-append (take 1024 word) (10 ∷ []) in
    let cut = length-take 1024 word in
    let all = length-append (head_line word) (refusal Lines m) in
    let body = line_longer m in
    (omega (arith, all, body), omega (arith, head, cut, all, body))
answer_longer Members word m =
    let all = object_longer word (refusal Members m) in
    let body = fact_longer m in
    (omega (arith, all.0, body), omega (arith, all.1, body))

-- ---- one message
pub message_one : (a b : List ℕ) → refusal Lines a ≡ refusal Lines b → a ≡ b
unfolding line
message_one a b e = append_cancel_right a b (10 ∷ []) (append_cancel_left (codes "error: ") (a ++ 10 ∷ []) (b ++ 10 ∷ []) e)

-- ---- the answer to a line
abbrev answer_of : List ℕ → Bool → AnswerText
answer_of text fault = record { text = text; fault = fault }

pub long_replies : (form : Form) (q : Question) (bytes old : List ℕ) (cause : Message) → longest_line < length bytes → cause.text.now ≡ codes "line too long"
    → Replies {N = Unit {0}} (IsLineBlock form q) (line_refusal form) 8000 bytes old old (Err cause)
long_replies form q bytes old cause long is =
    let e : nat_lt longest_line (length bytes) ≡ true = lt-ltb longest_line (length bytes) long in
    let given : given_line bytes ≡ bytes = ap (λ b. if b then bytes else without_return bytes) e in
    let text : line_refusal form bytes cause ≡ refused_answer form bytes (codes "line too long") = ap (λ w. refused_answer form w cause.text.now) given ∙ ap (refused_answer form bytes) is in
    let size = answer_longer form bytes (codes "line too long") in
    record {
      text = [];
      answer = subst (λ b. IsAnswerOf b form q bytes (answer_of (line_refusal form bytes cause) true)) (sym e) (ap (λ t. answer_of t true) text);
      appended = sym (append-nil old);
      none = refl;
      short = omega (arith, size.1, ap length text);
    }

-- the answer to the question about a line that is not too long
by_length : (form : Form) (q : Question) (bytes : List ℕ) (answer : AnswerText) → length bytes ≤ longest_line → HasFormat q → IsAnswered form q (without_return bytes) answer → IsLineBlock form q bytes answer
by_length form q bytes answer short valid is = subst (λ b. IsAnswerOf b form q bytes answer) (sym (le-ltb longest_line (length bytes) short)) (valid, is)

pub answered_replies : (form : Form) (q : Question) (bytes old new : List ℕ) → length bytes ≤ longest_line → HasFormat q → Appends (λ text. IsAnswered form q (without_return bytes) (record { text = text; fault = false })) 8000 old new
    → Replies {N = Unit {0}} {C = Message} (IsLineBlock form q) (line_refusal form) 8000 bytes old new (Ok tt)
answered_replies form q bytes old new short valid appends = record {
  text = appends.text;
  answer = by_length form q bytes (record { text = appends.text; fault = false }) short valid appends.is_text;
  appended = appends.appended;
  none = tt;
  short = appends.short;
}

-- a refused line is answered with the text for its cause, which was appended and is removed
pub refused_replies : (form : Form) (q : Question) (bytes old new : List ℕ) (cause : Message) → length bytes ≤ longest_line → HasFormat q → Appends (λ text. IsAnswered form q (without_return bytes) (record { text = text; fault = true })) 8000 old new
    → new ≡ old ++ refused_answer form (without_return bytes) cause.text.now → Replies {N = Unit {0}} (IsLineBlock form q) (line_refusal form) 8000 bytes old (take (length old) new) (Err cause)
refused_replies form q bytes old new cause short valid appends is =
    let given : given_line bytes ≡ without_return bytes = ap (λ b. if b then bytes else without_return bytes) (le-ltb longest_line (length bytes) short) in
    let text : line_refusal form bytes cause ≡ appends.text = ap (λ w. refused_answer form w cause.text.now) given ∙ append_cancel_left old (refused_answer form (without_return bytes) cause.text.now) appends.text (sym is ∙ appends.appended) in
    record {
      text = [];
      answer = by_length form q bytes (answer_of (line_refusal form bytes cause) true) short valid (subst (λ t. IsAnswered form q (without_return bytes) (answer_of t true)) (sym text) appends.is_text);
      appended = ap (take (length old)) appends.appended ∙ take_at old appends.text (length old) refl ∙ sym (append-nil old);
      none = refl;
      short = omega (arith, appends.short, ap length text);
    }
