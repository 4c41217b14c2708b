-- Arguments name just one radix.
use Rattle.std.specs.Prelude.{String}
use Rattle.std.proofs.Common.{◌≡◌, List, [], ◌∷◌, sym, ◌∙◌}
use Rattle.std.specs.declared.alloc.Global.{Global}
use Rattle.fixed_numeral.specs.declared.radix.Radix.{Radix}
use Rattle.fixed_respell.specs.Lemmas.AnswerLemmas.{radix_one}
use Rattle.fixed_least.specs.Program.{NamesRadix}

pub radix_named : (words : List (String Global)) (r s : Radix) → NamesRadix words r → NamesRadix words s → r ≡ s
radix_named [] r s a b = a ∙ sym b
radix_named (word ∷ []) r s a b = radix_one r s (sym a ∙ b)
radix_named (word ∷ more ∷ words) r s a b = absurd a
