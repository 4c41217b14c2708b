use Rattle.std.specs.Prelude.{ℕ, List, codes}
use Rattle.fixed_numeral.specs.declared.error.ParseErrorKind.{ParseErrorKind}
use Rattle.fixed_numeral.specs.declared.error.ParseErrorKind.TheVariants.{InvalidDigit, MisplacedSign}
use Rattle.fixed_numeral.specs.declared.error.ParseErrorKind.TheVariants.{MisplacedUnderscore, TooManyPoints}
use Rattle.fixed_numeral.specs.declared.error.ParseErrorKind.TheVariants.{TooManyExp, ExpInvalidDigit, ExpOverflow}
use Rattle.fixed_numeral.specs.declared.error.ParseErrorKind.TheVariants.{NoDigits, ExpNoDigits, Overflow}

-- the message of a kind
abbrev pub message_of : ParseErrorKind → List ℕ
message_of InvalidDigit = codes "invalid digit found in string"
message_of MisplacedSign = codes "misplaced sign found in string"
message_of MisplacedUnderscore = codes "misplaced underscore found in string"
message_of TooManyPoints = codes "more than one point found in string"
message_of TooManyExp = codes "more than one exponent found"
message_of ExpInvalidDigit = codes "invalid digit found in exponent"
message_of ExpOverflow = codes "exponent overflow"
message_of NoDigits = codes "string has no digits"
message_of ExpNoDigits = codes "exponent has no digits"
message_of Overflow = codes "overflow"
