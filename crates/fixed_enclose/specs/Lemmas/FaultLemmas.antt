-- The faults of a line, in the order of the checks.
use Rattle.std.proofs.Common.{◌≡◌, ℕ, ◌+◌, ◌<◌, ◌≤◌, List, [], ◌∷◌, length, refl, sym, ap, ◌∙◌, arith, if◌then◌else◌}
use Rattle.std.proofs.Common.{◌==◌}
use Rattle.fixed_bits.specs.Formats.{FormatParts}
use Rattle.fixed_numeral.specs.declared.radix.Radix.{Radix}
use Rattle.fixed_respell.specs.Answer.{NamesFormat, NamesRadix}
use Rattle.fixed_respell.specs.LineWords.{HasWords, longest_line, space}
use Rattle.fixed_respell.specs.Split.{count_of}
use Rattle.fixed_respell.specs.Words.{radix_text, IsFormatWord}
use Rattle.fixed_respell.specs.Lemmas.LineWordLemmas.{NoneBefore, RanksTellApart, first_is, none_at_first, none_next}
use Rattle.fixed_respell.specs.Lemmas.LineWordLemmas.{not_bad, not_missing}
use Rattle.fixed_enclose.specs.Answer.{Asks, HasFault, IsFirstFault, Task, fault_rank}
use Rattle.fixed_enclose.specs.declared.fault.EncloseFault.{EncloseFault}
use Rattle.fixed_enclose.specs.declared.fault.EncloseFault.TheVariants.{LineTooLong, MissingField, BadRadix, BadFormat}

-- the fault of a rank
fault_at : ℕ → EncloseFault
fault_at n = if n == 0 then LineTooLong else if n == 1 then MissingField else if n == 2 then BadRadix else BadFormat

back : (f : EncloseFault) → fault_at (fault_rank f) ≡ f
unfolding fault_at
back LineTooLong = refl
back MissingField = refl
back BadRadix = refl
back BadFormat = refl

pub faults_apart : RanksTellApart EncloseFault fault_rank
faults_apart f g e = sym (back f) ∙ (ap fault_at e ∙ back g)

-- a line that asks for a task has no fault
pub no_fault : (line : List ℕ) (t : Task) (f : EncloseFault) → Asks line t → HasFault f line → ⊥
no_fault line t LineTooLong asks long = omega (arith, asks.short, long)
no_fault line t MissingField asks few = not_missing 2 line _ t.numeral asks.words refl few
no_fault line t BadRadix asks bad = not_bad 2 0 NamesRadix line _ t.numeral asks.words refl (t.radix, asks.radix) bad
no_fault line t BadFormat asks bad = not_bad 2 1 NamesFormat line _ t.numeral asks.words refl
    (t.format, asks.format) bad

-- the line has no fault of a rank below n
abbrev NoFaultBefore : ℕ → List ℕ → Type 0
NoFaultBefore n line = NoneBefore EncloseFault fault_rank (λ f. HasFault f line) n

after : (line : List ℕ) (f : EncloseFault) (n : ℕ) → fault_rank f ≡ n → (HasFault f line → ⊥) → NoFaultBefore n line
    → NoFaultBefore (n + 1) line
after line f n is none before = none_next EncloseFault fault_rank (λ f. HasFault f line) faults_apart f n is none before

first : (line : List ℕ) (f : EncloseFault) (n : ℕ) → fault_rank f ≡ n → HasFault f line → NoFaultBefore n line
    → IsFirstFault f line
first line f n is has before = first_is EncloseFault fault_rank (λ f. HasFault f line) f n is has before

-- a line whose first words were read has none of the faults before
short_line : (line : List ℕ) → length line ≤ longest_line → NoFaultBefore 1 line
short_line line short = after line LineTooLong 0 refl (λ long. omega (arith, short, long))
    (none_at_first EncloseFault fault_rank (λ f. HasFault f line))

worded : (line r f n : List ℕ) → length line ≤ longest_line → HasWords line (r ∷ f ∷ []) n → NoFaultBefore 2 line
worded line r f n short has = after line MissingField 1 refl (λ few. not_missing 2 line _ n has refl few)
    (short_line line short)

with_radix : (line r f n : List ℕ) (radix : Radix) → length line ≤ longest_line → HasWords line (r ∷ f ∷ []) n
    → r ≡ radix_text radix → NoFaultBefore 3 line
with_radix line r f n radix short has is = after line BadRadix 2 refl
    (λ bad. not_bad 2 0 NamesRadix line _ n has refl (radix, is) bad) (worded line r f n short has)

-- the first faults
pub first_long : (line : List ℕ) → longest_line < length line → IsFirstFault LineTooLong line
first_long line long = first line LineTooLong 0 refl long (none_at_first EncloseFault fault_rank (λ f. HasFault f line))

pub first_missing : (line : List ℕ) → length line ≤ longest_line → count_of space line < 2
    → IsFirstFault MissingField line
first_missing line short few = first line MissingField 1 refl few (short_line line short)

pub first_radix : (line r f n : List ℕ) → length line ≤ longest_line → HasWords line (r ∷ f ∷ []) n
    → ((radix : Radix) → r ≡ radix_text radix → ⊥) → IsFirstFault BadRadix line
first_radix line r f n short has none = first line BadRadix 2 refl
    (record { words = _; rest = n; has = has; count_is = refl; bad = λ (radix, is). none radix is })
    (worded line r f n short has)

pub first_format : (line r f n : List ℕ) (radix : Radix) → length line ≤ longest_line → HasWords line (r ∷ f ∷ []) n
    → r ≡ radix_text radix → ((format : FormatParts) → IsFormatWord f format → ⊥) → IsFirstFault BadFormat line
first_format line r f n radix short has is none = first line BadFormat 3 refl
    (record { words = _; rest = n; has = has; count_is = refl; bad = λ (format, word). none format word })
    (with_radix line r f n radix short has is)
