-- The faults of a line, in the order of the checks.
use Rattle.std.proofs.Common.{◌≡◌, ℕ, ◌<◌, ◌≤◌, List, [], ◌∷◌, length, refl, sym, ap, ◌∙◌, arith, if◌then◌else◌}
use Rattle.std.proofs.Common.{◌==◌, subst}
use Rattle.fixed_bits.specs.Formats.{FormatParts}
use Rattle.fixed_bits.specs.declared.format.Policy.{Policy}
use Rattle.fixed_bits.specs.declared.mode.ReadMode.{ReadMode}
use Rattle.fixed_numeral.specs.declared.radix.Radix.{Radix}
use Rattle.fixed_respell.specs.Answer.{AsksBy, HasFaultBy, IsFirstFaultBy, NamesFormatBy, NamesRadix, NamesSome, Task}
use Rattle.fixed_respell.specs.Answer.{fault_rank}
use Rattle.fixed_respell.specs.LineWords.{HasWords, longest_line, space}
use Rattle.fixed_respell.specs.Split.{count_of}
use Rattle.fixed_respell.specs.Words.{radix_text}
use Rattle.fixed_respell.specs.declared.fault.LineFault.{LineFault}
use Rattle.fixed_respell.specs.declared.fault.LineFault.TheVariants.{LineTooLong, MissingField, BadRadix, BadSource}
use Rattle.fixed_respell.specs.declared.fault.LineFault.TheVariants.{BadTarget, BadPolicy}
use Rattle.fixed_respell.specs.Lemmas.LineWordLemmas.{RanksTellApart}
use Rattle.fixed_respell.specs.Lemmas.LineWordLemmas.{not_bad, not_missing}

-- the fault of a rank
fault_at : ℕ → LineFault
fault_at n = if n == 0 then LineTooLong else if n == 1 then MissingField else if n == 2 then BadRadix else if n == 3
    then BadSource else if n == 4 then BadTarget else BadPolicy

back : (f : LineFault) → fault_at (fault_rank f) ≡ f
unfolding fault_at
back LineTooLong = refl
back MissingField = refl
back BadRadix = refl
back BadSource = refl
back BadTarget = refl
back BadPolicy = refl

pub faults_apart : RanksTellApart LineFault fault_rank
faults_apart f g e = sym (back f) ∙ (ap fault_at e ∙ back g)

-- ---- for all relations that tell which format a word names, and which policy and mode
module _ (Names : List ℕ → FormatParts → Type 0) (NamesPolicy : List ℕ → Policy → ReadMode → Type 0) where
  -- a line that asks for a task has no fault
  pub no_fault : (line : List ℕ) (t : Task) (f : LineFault) → AsksBy Names NamesPolicy line t
      → HasFaultBy Names NamesPolicy f line → ⊥
  no_fault line t LineTooLong asks long = omega (arith, asks.short, long)
  no_fault line t MissingField asks few = not_missing 4 line _ t.numeral asks.words refl few
  no_fault line t BadRadix asks bad = not_bad 4 0 NamesRadix line _ t.numeral asks.words refl (t.radix, asks.radix) bad
  no_fault line t BadSource asks bad = not_bad 4 1 (NamesFormatBy Names) line _ t.numeral asks.words refl
      (t.source, asks.source) bad
  no_fault line t BadTarget asks bad = not_bad 4 2 (NamesFormatBy Names) line _ t.numeral asks.words refl
      (t.target, asks.target) bad
  no_fault line t BadPolicy asks bad = not_bad 4 3 (NamesSome NamesPolicy) line _ t.numeral asks.words refl
      (t.policy, t.mode, asks.policy) bad

  -- a line whose first words were read has no fault of a lower rank
  none_before : (line r s t p n : List ℕ) (k : ℕ) → length line ≤ longest_line → HasWords line (r ∷ s ∷ t ∷ p ∷ []) n
      → k ≤ 5 → (2 < k → NamesRadix r) → (3 < k → NamesFormatBy Names s) → (4 < k → NamesFormatBy Names t)
      → (f : LineFault) → fault_rank f < k → HasFaultBy Names NamesPolicy f line → ⊥
  none_before line r s t p n k short has most radix source target LineTooLong below long = omega (arith, short, long)
  none_before line r s t p n k short has most radix source target MissingField below few = not_missing 4 line _ n has
      refl few
  none_before line r s t p n k short has most radix source target BadRadix below bad = not_bad 4 0 NamesRadix line _ n
      has refl (radix below) bad
  none_before line r s t p n k short has most radix source target BadSource below bad = not_bad 4 1
      (NamesFormatBy Names) line _ n has refl (source below) bad
  none_before line r s t p n k short has most radix source target BadTarget below bad = not_bad 4 2
      (NamesFormatBy Names) line _ n has refl (target below) bad
  none_before line r s t p n k short has most radix source target BadPolicy below bad = omega (arith, most, below)

  -- the first faults
  pub first_long : (line : List ℕ) → longest_line < length line → IsFirstFaultBy Names NamesPolicy LineTooLong line
  first_long line long = record { has = long; first = λ other below has. omega (arith, below) }

  pub first_missing : (line : List ℕ) → length line ≤ longest_line → count_of space line < 4
      → IsFirstFaultBy Names NamesPolicy MissingField line
  first_missing line short few = record {
    has = few;
    first = λ other below has. omega (
      arith,
      short,
      subst (λ f. HasFaultBy Names NamesPolicy f line)
          (faults_apart other LineTooLong (omega (arith, below))) has,
    );
  }

  pub first_radix : (line r s t p n : List ℕ) → length line ≤ longest_line → HasWords line (r ∷ s ∷ t ∷ p ∷ []) n
      → ((radix : Radix) → r ≡ radix_text radix → ⊥) → IsFirstFaultBy Names NamesPolicy BadRadix line
  first_radix line r s t p n short has none = record {
    has = record { words = _; rest = n; has = has; count_is = refl; bad = λ (radix, is). none radix is };
    first = none_before line r s t p n 2 short has (omega arith) (λ l. absurd (omega (arith, l)))
        (λ l. absurd (omega (arith, l))) (λ l. absurd (omega (arith, l)));
  }

  pub first_source : (line r s t p n : List ℕ) (radix : Radix) → length line ≤ longest_line
      → HasWords line (r ∷ s ∷ t ∷ p ∷ []) n → r ≡ radix_text radix → ((source : FormatParts) → Names s source → ⊥)
      → IsFirstFaultBy Names NamesPolicy BadSource line
  first_source line r s t p n radix short has is none = record {
    has = record { words = _; rest = n; has = has; count_is = refl; bad = λ (source, is). none source is };
    first = none_before line r s t p n 3 short has (omega arith) (λ _. (radix, is)) (λ l. absurd (omega (arith, l)))
        (λ l. absurd (omega (arith, l)));
  }

  pub first_target : (line r s t p n : List ℕ) (radix : Radix) (source : FormatParts) → length line ≤ longest_line
      → HasWords line (r ∷ s ∷ t ∷ p ∷ []) n → r ≡ radix_text radix → Names s source
      → ((target : FormatParts) → Names t target → ⊥) → IsFirstFaultBy Names NamesPolicy BadTarget line
  first_target line r s t p n radix source short has is is_source none = record {
    has = record { words = _; rest = n; has = has; count_is = refl; bad = λ (target, is). none target is };
    first = none_before line r s t p n 4 short has (omega arith) (λ _. (radix, is)) (λ _. (source, is_source))
        (λ l. absurd (omega (arith, l)));
  }

  pub first_policy : (line r s t p n : List ℕ) (radix : Radix) (source target : FormatParts)
      → length line ≤ longest_line → HasWords line (r ∷ s ∷ t ∷ p ∷ []) n → r ≡ radix_text radix → Names s source
      → Names t target → ((policy : Policy) (mode : ReadMode) → NamesPolicy p policy mode → ⊥)
      → IsFirstFaultBy Names NamesPolicy BadPolicy line
  first_policy line r s t p n radix source target short has is is_source is_target none = record {
    has = record { words = _; rest = n; has = has; count_is = refl; bad = λ (policy, mode, is). none policy mode is };
    first = none_before line r s t p n 5 short has (omega arith) (λ _. (radix, is)) (λ _. (source, is_source))
        (λ _. (target, is_target));
  }
