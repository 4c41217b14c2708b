-- The text that is written for words that are unpacked.
use Rattle.std.specs.Prelude.{◌≡◌, ◌*◌, ◌<◌, ◌++◌, ℕ, false, List, [], ◌∷◌, Option, codes, length}
use Rattle.fixed_command.specs.Convert.{IsReply}
use Rattle.fixed_command.specs.declared.convert.Settings.{Settings}
use Rattle.fixed_command.specs.declared.spelling.Spelling.TheVariants.{Word}
use Rattle.fixed_write.specs.Texts.{last_digits}
use Rattle.line_engine.specs.AnswerText.{AnswerText}
use Rattle.run_engine.specs.Reply.{reply_of}
use Rattle.fixed_pack.specs.Floats.{refusal_text}
use Rattle.fixed_pack.specs.Word.{joined, number_of, word_length}
use Rattle.fixed_pack.specs.declared.endian.Endian.{Endian}
use Rattle.fixed_pack.specs.declared.float_words.WordRefusal.{WordRefusal}
use Rattle.fixed_pack.specs.declared.unpack.UnpackRule.{UnpackRule}

-- ---- the words of an input
-- each of these words has `count` bytes
abbrev pub HaveLength : ℕ → List (List ℕ) → Type 0
HaveLength count [] = Unit {0}
HaveLength count (word ∷ words) = (length word ≡ count) × HaveLength count words

-- the bytes are these words, of `count` bytes each, and fewer than `count` bytes that are left over
pub record AreWords (count : ℕ) (bytes : List ℕ) (words : List (List ℕ)) (rest : List ℕ) : Type 0 where
  pub whole : HaveLength count words
  pub short : length rest < count
  pub cut : bytes ≡ joined words ++ rest

-- the number of bytes of a rule's words
abbrev pub count_of : UnpackRule → ℕ
count_of r = word_length r.settings.source.width

-- a word as a person writes it: all its bits in hexadecimal, after `0x`
abbrev pub number_text : ℕ → ℕ → List ℕ
number_text count number = codes "0x" ++ last_digits 16 false (2 * count) number

abbrev pub word_text : Endian → ℕ → List ℕ → List ℕ
word_text endian count word = number_text count (number_of endian word)

-- ---- the lines
-- these settings, with the spelling Word
abbrev pub for_words : Settings → Settings
for_words s = record {
  spelling = Word;
  radix = s.radix;
  source = s.source;
  target = s.target;
  policy = s.policy;
  mode = s.mode;
  target_mode = s.target_mode;
  print = s.print;
}

-- the reply to a word is the reply to its text
abbrev pub IsWordReply : UnpackRule → List ℕ → AnswerText → Type 0
IsWordReply r word reply = IsReply (for_words r.settings) (word_text r.endian (count_of r) word) reply

-- the line of a word is the reply to it: a text, or the cause of its refusal
pub record IsWordLine (r : UnpackRule) (word line : List ℕ) (cause : Option WordRefusal) : Type 0 where
  pub text : List ℕ
  pub reply : IsWordReply r word (reply_of refusal_text text cause)
  pub line_is : line ≡ (reply_of refusal_text text cause).text ++ 10 ∷ []
