-- The messages of the errors.
use Rattle.std.proofs.Common.{arith}
use Rattle.fixed_numeral.specs.Laws.{MessageIsShort}
use Rattle.fixed_numeral.specs.declared.error.ParseErrorKind.TheVariants.{InvalidDigit}

pub message_short : MessageIsShort
message_short InvalidDigit = omega arith
message_short kind = omega arith
