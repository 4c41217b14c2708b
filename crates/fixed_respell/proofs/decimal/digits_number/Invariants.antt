use Rattle.std.proofs.Common.{◌≡◌, take}
use Rattle.std.specs.Str.Parse.{AllDigits, digits_value}
use Rattle.fixed_respell.proofs.decimal.digits_number.Given as goal

-- the bytes so far are digits and spell the number
abbrev pub invariant-loop-b : goal.invariant-loop-b
invariant-loop-b l = AllDigits 10 (take l.b-index l.digits) × (l.number ≡ digits_value 10 (take l.b-index l.digits))
