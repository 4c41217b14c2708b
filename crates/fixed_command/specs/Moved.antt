-- The output for a number moved to the target.
use Rattle.std.specs.Prelude.{◌≡◌, ◌≤◌, ◌+◌, ◌||◌, ℕ, ℤ, List, ◌++◌, Bool, true, false, length}
use Rattle.fixed_bits.specs.Ranges.{IsWide}
use Rattle.fixed_convert.specs.Rounded.{IsNotReformatted, IsReformatted}
use Rattle.fixed_numeral.specs.Messages.{message_of}
use Rattle.fixed_numeral.specs.declared.error.ParseErrorKind.TheVariants.{Overflow}
use Rattle.fixed_respell.specs.Answer.{respelled_answer}
use Rattle.fixed_respell.specs.Language.{fault_answer}
use Rattle.fixed_write.specs.Texts.{IsShortestText}
use Rattle.fixed_command.specs.Printed.{printed}
use Rattle.fixed_command.specs.declared.convert.Settings.{Settings}

-- the number has this image in the target; `is_out` says whether it, or what was read, was out of its range
pub record HasImage (s : Settings) (number : ℤ) (out : Bool) (bits : ℤ) (is_out : Bool) : Type 0 where
  pub target_out : Bool
  pub moved : IsReformatted s.target_mode s.policy s.target number s.source.frac bits target_out
  pub wide : IsWide bits
  pub is_out_is : is_out ≡ (out || target_out)

-- the number has an image in the target, and the requested part was appended, with whether the number, or what was
-- read, was out of its range
pub record HasPushedImage (s : Settings) (number : ℤ) (out : Bool) (before after : List ℕ) : Type 0 where
  pub bits : ℤ
  pub target_out : Bool
  pub moved : IsReformatted s.target_mode s.policy s.target number s.source.frac bits target_out
  pub text : List ℕ
  pub shortest : IsShortestText bits s.target.frac text
  pub wide : IsWide bits
  pub appended : after ≡ before ++ printed s.print s.target (respelled_answer text bits (out || target_out)).text
      text bits
  pub short : length after ≤ length before + 130

-- that, or the fault of a number without an image
abbrev pub HasPushed : Settings → ℤ → Bool → List ℕ → List ℕ → Bool → Type 0
HasPushed s number out before after true =
    IsNotReformatted s.target_mode s.policy s.target number s.source.frac
    × (after ≡ before ++ (fault_answer (message_of Overflow)).text)
HasPushed s number out before after false = HasPushedImage s number out before after
