-- The output for words: a block of lines for each, or an object of JSON.
use Rattle.std.specs.Prelude.{◌≡◌, ◌⊎◌, ℕ, List, [], ◌∷◌, ◌++◌, Bool, true, false, codes, flat_map, take}
use Rattle.std.specs.declared.option.Option.{Option}
use Rattle.std.specs.Io.KnownBytes.{Appends}
use Rattle.fixed_amounts.specs.Facts.{IsAmountBlock, IsAmountObject, format_facts}
use Rattle.fixed_amounts.specs.Names.{IsDecimalName}
use Rattle.fixed_bits.specs.Formats.{FormatParts}
use Rattle.fixed_fields.specs.Answer.{IsFieldsAnswer}
use Rattle.fixed_names.specs.Names.{IsName}
use Rattle.fixed_show.specs.BitsBlock.{IsBitsBlock, IsBitsObject}
use Rattle.fixed_show.specs.FormatBlock.{IsFormatBlock, IsFormatObject}
use Rattle.fixed_show.specs.Forms.{refusal}
use Rattle.fixed_show.specs.JsonText.{object_text}
use Rattle.fixed_show.specs.PartText.{IsPartBlock, IsPartObject}
use Rattle.fixed_show.specs.ShowBlock.{IsShowBlock, IsShowObject}
use Rattle.fixed_show.specs.declared.form.Form.{Form}
use Rattle.fixed_show.specs.declared.form.Form.TheVariants.{Lines, Members}
use Rattle.line_engine.specs.AnswerText.{AnswerText}
use Rattle.line_engine.specs.Failures.{HasFailed}
use Rattle.line_engine.specs.Output.{AppendsPrefix, AreAnswers, any_fault}
use Rattle.line_engine.specs.declared.status.Status.{Status}
use Rattle.line_engine.specs.declared.status.Status.TheVariants.{Done, Faults, Usage, ReadFault, WriteFault, NoMemory}
use Rattle.line_engine.specs.declared.status.Status.TheVariants.{TooLong}
use Rattle.fixed_command.specs.declared.blocks.Question.{Question}
use Rattle.fixed_command.specs.declared.blocks.Question.TheVariants.{Amount, Bits, Fields, Format, Part, Show}

-- the text gives the facts about the format that a word names
abbrev pub IsFormatText : Form → List ℕ → FormatParts → List ℕ → Type 0
IsFormatText Lines word f text = IsFormatBlock f text
IsFormatText Members word f text = IsFormatObject word f text

-- the output for a word that is refused for a cause of the command's own
abbrev pub refused_text : Form → List ℕ → List ℕ → List ℕ
refused_text Lines word message = refusal Lines message
refused_text Members word message = object_text word (refusal Members message)

-- the facts about a decimal format that a word names
abbrev pub decimal_format_answer : Form → List ℕ → ℕ → List ℕ
decimal_format_answer Lines word places = format_facts Lines places
decimal_format_answer Members word places = object_text word (format_facts Members places)

-- the answer to the name of a decimal format
pub record IsNamedDecimal (form : Form) (word : List ℕ) (answer : AnswerText) : Type 0 where
  pub places : ℕ
  pub word_is : IsDecimalName word places
  pub answer_is : answer ≡ record { text = decimal_format_answer form word places; fault = false }

-- the fault for a word that names no decimal format
pub record IsNoDecimal (form : Form) (word : List ℕ) (answer : AnswerText) : Type 0 where
  pub none : (places : ℕ) → ¬ IsDecimalName word places
  pub answer_is : answer ≡ record { text = refused_text form word (codes "bad format"); fault = true }

-- the answer to a word as the name of a decimal format
abbrev pub IsDecimalAnswer : Form → List ℕ → AnswerText → Type 0
IsDecimalAnswer form word answer = IsNamedDecimal form word answer ⊎ IsNoDecimal form word answer

-- the answer to the name of a binary format
pub record IsNamedFormat (form : Form) (word : List ℕ) (answer : AnswerText) : Type 0 where
  pub format : FormatParts
  pub word_is : IsName word format
  pub text : IsFormatText form word format answer.text
  pub clean : answer.fault ≡ false

-- the answer to any other word
pub record IsNoBinary (form : Form) (word : List ℕ) (answer : AnswerText) : Type 0 where
  pub none : (f : FormatParts) → ¬ IsName word f
  pub decimal : IsDecimalAnswer form word answer

-- the answer to a word as the name of a format
abbrev pub IsFormatAnswer : Form → List ℕ → AnswerText → Type 0
IsFormatAnswer form word answer = IsNamedFormat form word answer ⊎ IsNoBinary form word answer

-- the block that answers a question about a word
abbrev pub IsBlock : Question → List ℕ → AnswerText → Type 0
IsBlock (Show radix format policy mode) word block = IsShowBlock mode radix word format policy block.fault block.text
IsBlock (Bits radix format) word block = IsBitsBlock radix format word block.fault block.text
IsBlock (Part radix part format) word block = IsPartBlock radix part format word block.fault block.text
IsBlock (Fields question) word block = IsFieldsAnswer Lines question word block.fault block.text
IsBlock (Amount question) word block = IsAmountBlock question word block.fault block.text
IsBlock Format word block = IsFormatAnswer Lines word block

-- the JSON object that answers a question about a word, or an object for each field
abbrev pub IsObject : Question → List ℕ → AnswerText → Type 0
IsObject (Show radix format policy mode) word object = IsShowObject mode radix word format policy object.fault
    object.text
IsObject (Bits radix format) word object = IsBitsObject radix format word object.fault object.text
IsObject (Part radix part format) word object = IsPartObject radix part format word object.fault object.text
IsObject (Fields question) word object = IsFieldsAnswer Members question word object.fault object.text
IsObject (Amount question) word object = IsAmountObject question word object.fault object.text
IsObject Format word object = IsFormatAnswer Members word object

-- ---- the line above the block of a word: the word as given, up to 1,024 bytes
abbrev pub head_line : List ℕ → List ℕ
head_line word = codes "given     " ++ (take 1024 word ++ 10 ∷ [])

-- that line, followed by the block that answers a question about the word
pub record IsHeaded (q : Question) (word : List ℕ) (block : AnswerText) : Type 0 where
  pub body : List ℕ
  pub is_body : IsBlock q word (record { text = body; fault = block.fault })
  pub text_is : block.text ≡ head_line word ++ body

-- the answer that refuses a word with a message
abbrev pub refused_answer : Form → List ℕ → List ℕ → List ℕ
refused_answer Lines word message = head_line word ++ refused_text Lines word message
refused_answer Members word message = refused_text Members word message

-- the answer in a form
abbrev pub IsAnswered : Form → Question → List ℕ → AnswerText → Type 0
IsAnswered Lines q word answer = IsHeaded q word answer
IsAnswered Members q word answer = IsObject q word answer

-- ---- the output for some words
-- before an answer: an empty line, if a block was written before
abbrev pub lead : Form → Bool → List ℕ
lead form false = []
lead Lines true = 10 ∷ []
lead Members true = []

-- after an answer: an object has a line of its own
abbrev pub ending : Form → List ℕ
ending Lines = []
ending Members = 10 ∷ []

-- an answer that follows another one
abbrev pub next_text : Form → AnswerText → List ℕ
next_text form answer = lead form true ++ (answer.text ++ ending form)

abbrev pub answers_text : Form → List AnswerText → List ℕ
answers_text form [] = []
answers_text form (answer ∷ answers) = answer.text ++ (ending form ++ flat_map (next_text form) answers)

-- the answers to the words were written, in order and nothing else
pub record WritesBlocks (form : Form) (q : Question) (words : List (List ℕ)) (written written' : Option (List ℕ))
    (fault : Bool) : Type 0 where
  pub blocks : List AnswerText
  pub answers : AreAnswers (IsAnswered form q) words blocks
  pub output : Appends written written' (answers_text form blocks)
  pub faulty : any_fault blocks ≡ fault

-- a prefix of the answers to the first of the words was written
pub record BreaksBlocks (form : Form) (q : Question) (words : List (List ℕ))
    (written written' : Option (List ℕ)) : Type 0 where
  pub some : List (List ℕ)
  pub more : List (List ℕ)
  pub cut : words ≡ some ++ more
  pub blocks : List AnswerText
  pub answers : AreAnswers (IsAnswered form q) some blocks
  pub output : AppendsPrefix written written' (answers_text form blocks)

-- what a run over words with this status has written, and whether a write failed
abbrev pub BlocksRun : Form → Question → List (List ℕ) → Option (List ℕ) → Option (List ℕ) → ℕ → ℕ → Status → Type 0
BlocksRun form q words written written' failures failures' Done = WritesBlocks form q words written written' false
    × (failures' ≡ failures)
BlocksRun form q words written written' failures failures' Faults = WritesBlocks form q words written written' true
    × (failures' ≡ failures)
BlocksRun form q words written written' failures failures' Usage = ⊥
BlocksRun form q words written written' failures failures' ReadFault = ⊥
BlocksRun form q words written written' failures failures' WriteFault = BreaksBlocks form q words written written'
    × HasFailed failures failures'
BlocksRun form q words written written' failures failures' NoMemory = ⊥
BlocksRun form q words written written' failures failures' TooLong = ⊥
