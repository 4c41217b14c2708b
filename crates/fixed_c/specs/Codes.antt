-- The codes that calls return, and the numbers for policies and modes.
use Rattle.std.specs.Prelude.{◌≡◌, ◌⊎◌, ◌<◌, ℕ, List, codes}
use Rattle.fixed_bits.specs.declared.format.Policy.{Policy}
use Rattle.fixed_bits.specs.declared.format.Policy.TheVariants.{Checked, Saturating, Wrapping, Symmetric}
use Rattle.fixed_bits.specs.declared.mode.ReadMode.{ReadMode}
use Rattle.fixed_bits.specs.declared.mode.ReadMode.TheVariants.{NearestEven, Floor, Ceil, TowardsZero}
use Rattle.fixed_bits.specs.declared.mode.ReadMode.TheVariants.{NearestAway, NearestZero, NearestUp, NearestDown}
use Rattle.fixed_bits.specs.declared.mode.ReadMode.TheVariants.{AwayFromZero}
use Rattle.fixed_numeral.specs.Messages.{message_of}
use Rattle.fixed_numeral.specs.declared.error.ParseErrorKind.{ParseErrorKind}
use Rattle.fixed_numeral.specs.declared.error.ParseErrorKind.TheVariants.{InvalidDigit, MisplacedSign}
use Rattle.fixed_numeral.specs.declared.error.ParseErrorKind.TheVariants.{MisplacedUnderscore, TooManyPoints}
use Rattle.fixed_numeral.specs.declared.error.ParseErrorKind.TheVariants.{TooManyExp, ExpInvalidDigit, ExpOverflow}
use Rattle.fixed_numeral.specs.declared.error.ParseErrorKind.TheVariants.{NoDigits, ExpNoDigits, Overflow}
use Rattle.fixed_c.specs.declared.refusal.Refusal.{Refusal}
use Rattle.fixed_c.specs.declared.refusal.Refusal.TheVariants.{Numeral, BadRadix, BadFormat, BadTarget, BadPolicy}
use Rattle.fixed_c.specs.declared.refusal.Refusal.TheVariants.{BadMode, BadBits, NoRoom, BadOtherBits, BadPlaces}
use Rattle.fixed_c.specs.declared.refusal.Refusal.TheVariants.{BadRounding, BadWord, BadRows, BadNotation, BadWidth}
use Rattle.fixed_c.specs.declared.refusal.Refusal.TheVariants.{BadFill, BadAlign, NotFinite}

abbrev pub policy_code : Policy → ℕ
policy_code Checked = 0
policy_code Saturating = 1
policy_code Wrapping = 2
policy_code Symmetric = 3

abbrev pub mode_code : ReadMode → ℕ
mode_code NearestEven = 0
mode_code Floor = 1
mode_code Ceil = 2
mode_code TowardsZero = 3
mode_code NearestAway = 4
mode_code NearestZero = 5
mode_code NearestUp = 6
mode_code NearestDown = 7
mode_code AwayFromZero = 8

abbrev pub kind_code : ParseErrorKind → ℕ
kind_code InvalidDigit = 1
kind_code MisplacedSign = 2
kind_code MisplacedUnderscore = 3
kind_code TooManyPoints = 4
kind_code TooManyExp = 5
kind_code ExpInvalidDigit = 6
kind_code ExpOverflow = 7
kind_code NoDigits = 8
kind_code ExpNoDigits = 9
kind_code Overflow = 10

abbrev pub refusal_code : Refusal → ℕ
refusal_code (Numeral kind) = kind_code kind
refusal_code BadRadix = 11
refusal_code BadFormat = 12
refusal_code BadTarget = 13
refusal_code BadPolicy = 14
refusal_code BadMode = 15
refusal_code BadBits = 16
refusal_code NoRoom = 17
refusal_code BadOtherBits = 18
refusal_code BadPlaces = 19
refusal_code BadRounding = 20
refusal_code BadWord = 21
refusal_code BadRows = 22
refusal_code BadNotation = 23
refusal_code BadWidth = 24
refusal_code BadFill = 25
refusal_code BadAlign = 26
refusal_code NotFinite = 27

abbrev pub refusal_message : Refusal → List ℕ
refusal_message (Numeral kind) = message_of kind
refusal_message BadRadix = codes "bad radix"
refusal_message BadFormat = codes "bad format"
refusal_message BadTarget = codes "bad target format"
refusal_message BadPolicy = codes "bad policy"
refusal_message BadMode = codes "bad mode"
refusal_message BadBits = codes "bits out of range"
refusal_message NoRoom = codes "no room for the text"
refusal_message BadOtherBits = codes "second bits out of range"
refusal_message BadPlaces = codes "too many places"
refusal_message BadRounding = codes "bad rounding"
refusal_message BadWord = codes "bad format word"
refusal_message BadRows = codes "rows of another size"
refusal_message BadNotation = codes "bad notation"
refusal_message BadWidth = codes "too great a width"
refusal_message BadFill = codes "bad fill character"
refusal_message BadAlign = codes "bad alignment"
refusal_message NotFinite = codes "not a finite number"

-- the text is the message of the code: of 0, of a refusal, or of an unknown code
abbrev pub IsMessage : ℕ → List ℕ → Type 0
IsMessage code text = ((code ≡ 0) × (text ≡ codes "done"))
    ⊎ ((refusal : Refusal) × (code ≡ refusal_code refusal) × (text ≡ refusal_message refusal))
    ⊎ ((27 < code) × (text ≡ codes "unknown code"))
