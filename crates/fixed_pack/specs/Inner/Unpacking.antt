-- The reply that is appended for a word that is unpacked.
use Rattle.std.specs.Prelude.{◌≡◌, ℕ, List, ◌++◌, Option}
use Rattle.fixed_command.specs.Convert.{IsReply}
use Rattle.fixed_command.specs.declared.convert.Settings.{Settings}
use Rattle.run_engine.specs.Reply.{reply_of}
use Rattle.fixed_pack.specs.Floats.{refusal_text}
use Rattle.fixed_pack.specs.Unpack.{for_words, number_text}
use Rattle.fixed_pack.specs.Word.{word_length}
use Rattle.fixed_pack.specs.declared.float_words.WordRefusal.{WordRefusal}

-- the reply to the text of the word with this number is appended: a text, or the cause of its refusal
pub record PushesReply (s : Settings) (number : ℕ) (old new : List ℕ) (cause : Option WordRefusal) : Type 0 where
  pub text : List ℕ
  pub reply : IsReply (for_words s) (number_text (word_length s.source.width) number) (reply_of refusal_text text cause)
  pub appended : new ≡ old ++ (reply_of refusal_text text cause).text
