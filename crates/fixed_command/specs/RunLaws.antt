-- A command has one reply to a line, one first refused word, and one end.
use Rattle.std.specs.Prelude.{◌≡◌, ◌-◌, ◌^◌, ◌<◌, ◌≤◌, ℕ, List, Some, length}
use Rattle.fixed_show.specs.declared.form.Form.{Form}
use Rattle.line_engine.specs.AnswerText.{AnswerText}
use Rattle.line_engine.specs.Program.{Outside}
use Rattle.line_engine.specs.declared.status.Status.{Status}
use Rattle.line_engine.specs.declared.status.Status.TheVariants.{NoMemory}
use Rattle.fixed_command.specs.Blocks.{BlocksRun}
use Rattle.fixed_command.specs.Convert.{IsLineReply, IsReply}
use Rattle.fixed_command.specs.Refused.{IsFirstRefused}
use Rattle.fixed_command.specs.Runs.{HasLineRun, IsWholeRun, Undisturbed}
use Rattle.fixed_command.specs.declared.blocks.Question.{Question}
use Rattle.fixed_command.specs.declared.convert.Settings.{Settings}

-- ---- replies
-- a numeral has at most one reply
abbrev pub ReplyIsTheOne : Type 0
ReplyIsTheOne = (s : Settings) (numeral : List ℕ) (a b : AnswerText) → IsReply s numeral a → IsReply s numeral b → a ≡ b

-- a line has at most one reply
abbrev pub LineReplyIsTheOne : Type 0
LineReplyIsTheOne = (s : Settings) (line : List ℕ) (a b : AnswerText) → IsLineReply s line a → IsLineReply s line b
    → a ≡ b

-- ---- words
-- a list of words has at most one first refused word, with one cause
abbrev pub FirstRefusedIsTheOne : Type 0
FirstRefusedIsTheOne = (q : Question) (words : List (List ℕ)) (i j : ℕ) (a b : List ℕ) → IsFirstRefused q words i a
    → IsFirstRefused q words j b → (i ≡ j) × (a ≡ b)

-- the words and the count of failures determine how a run over words ended, if the count can rise
abbrev pub BlocksEndIsTheOne : Type 0
BlocksEndIsTheOne = (form : Form) (q : Question) (words : List (List ℕ)) (before a b : List ℕ)
    (failures failures' : ℕ) (s t : Status) → failures < 2 ^ 64 - 1
    → BlocksRun form q words (Some before) (Some a) failures failures' s
    → BlocksRun form q words (Some before) (Some b) failures failures' t → s ≡ t

-- ---- inputs
-- two undisturbed runs over the lines of one input within the limit write the same and end alike if memory sufficed
abbrev pub LineRunIsTheOne : (List ℕ → AnswerText → Type 0) → Type 0
LineRunIsTheOne A = (limit per_byte extra : ℕ) (before after other : Outside) (input text a b : List ℕ) (s t : Status)
    → before.left ≡ Some input → length input ≤ limit → before.written ≡ Some text → after.written ≡ Some a
    → other.written ≡ Some b → Undisturbed before after → Undisturbed before other → ¬ (s ≡ NoMemory)
    → ¬ (t ≡ NoMemory) → HasLineRun A limit per_byte extra before after s
    → HasLineRun A limit per_byte extra before other t → (a ≡ b) × (s ≡ t)

-- the same for a whole input
abbrev pub WholeRunIsTheOne : (List ℕ → AnswerText → Type 0) → Type 0
WholeRunIsTheOne A = (limit : ℕ) (before after other : Outside) (input text a b : List ℕ) (s t : Status)
    → before.left ≡ Some input → length input ≤ limit → before.written ≡ Some text → after.written ≡ Some a
    → other.written ≡ Some b → Undisturbed before after → Undisturbed before other → ¬ (s ≡ NoMemory)
    → ¬ (t ≡ NoMemory) → IsWholeRun A limit before after s → IsWholeRun A limit before other t → (a ≡ b) × (s ≡ t)
