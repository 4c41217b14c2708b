-- Operands that state an error.
use Rattle.std.proofs.Common.{◌≡◌, ◌++◌, ◌∙◌, ◌≢◌, ℕ, Bool, true, false, Decides, List, drop, take, refl, sym, ap, subst}
use Rattle.std.specs.Prelude.{codes}
use Rattle.std.specs.Str.{bytes_eq}
use Rattle.std.proofs.lemmas.Slice.Eq.{bytes_eq-Decides}
use Rattle.std.proofs.lemmas.List.{take-append-drop}
use Rattle.fixed_numeral.specs.declared.radix.Radix.{Radix}
use Rattle.fixed.specs.Fit.{IsErrorBy, IsErrorNumeral}

-- whether an operand has the form of a power of a half
abbrev is_power : List ℕ → Bool
is_power word = bytes_eq (take 3 word) (codes "2^-")

no_power : (word : List ℕ) → ((rest : List ℕ) → word ≢ codes "2^-" ++ rest) → is_power word ≡ false
no_power word never = by (is_power word) (bytes_eq-Decides (take 3 word) (codes "2^-"))
  where
    by : (is : Bool) → Decides is (take 3 word ≡ codes "2^-") → is ≡ false
    by false d = refl
    by true d = absurd (never (drop 3 word) (sym (take-append-drop 3 word) ∙ ap (λ (l : List ℕ). l ++ drop 3 word) (d.0 refl)))

-- an operand of another form states an error if and only if it is a valid numeral of an error
pub plain_error : (radix : Radix) (word numeral : List ℕ) → ((rest : List ℕ) → word ≢ codes "2^-" ++ rest) → IsErrorBy false radix word numeral
    → IsErrorNumeral radix word numeral
plain_error radix word numeral never x = subst (λ (is : Bool). IsErrorBy is radix word numeral) (sym (no_power word never)) x

pub error_plain : (radix : Radix) (word numeral : List ℕ) → ((rest : List ℕ) → word ≢ codes "2^-" ++ rest) → IsErrorNumeral radix word numeral
    → IsErrorBy false radix word numeral
error_plain radix word numeral never x = subst (λ (is : Bool). IsErrorBy is radix word numeral) (no_power word never) x
