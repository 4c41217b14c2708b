-- Refused operands of `fixed convert`.
use Rattle.std.proofs.Common.{ℕ, List, Option, subst}
use Rattle.fixed_bits.specs.Formats.{FormatParts}
use Rattle.fixed.specs.Lines.{IsFormatAsked, IsTargetAsked}
use Rattle.fixed.proofs.LawLemmas.{lines_one}

-- a target that is invalid by one reading of the source operand is invalid by every reading
pub no_target : (word target_word : Option (List ℕ)) (source other target : FormatParts) (place files : ℕ) → IsFormatAsked word source → IsFormatAsked word other
    → ((f : FormatParts) (n : ℕ) → ¬ IsTargetAsked target_word source place f n) → ¬ IsTargetAsked target_word other place target files
no_target word target_word source other target place files x y none is =
    none target files (subst (λ (f : FormatParts). IsTargetAsked target_word f place target files) (lines_one.format word other source y x) is)
