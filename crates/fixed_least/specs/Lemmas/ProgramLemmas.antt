-- An empty argument is a usage fault.
use Rattle.std.specs.Prelude.{String}
use Rattle.std.proofs.Common.{◌≡◌, [], ◌∷◌, sym, ◌∙◌}
use Rattle.std.specs.String.{string_bytes}
use Rattle.std.specs.declared.alloc.Global.{Global}
use Rattle.fixed_numeral.specs.declared.radix.Radix.{Radix}
use Rattle.fixed_numeral.specs.declared.radix.Radix.TheVariants.{Bin, Oct, Dec, Hex}
use Rattle.fixed_respell.specs.Words.{radix_text}
use Rattle.fixed_least.specs.Program.{IsUsageFault}

no_radix_is_empty : (r : Radix) → [] ≡ radix_text r → ⊥
no_radix_is_empty Bin e = cc
no_radix_is_empty Oct e = cc
no_radix_is_empty Dec e = cc
no_radix_is_empty Hex e = cc

pub empty_argument : (word : String Global) → string_bytes word ≡ [] → IsUsageFault (word ∷ [])
empty_argument word empty r named = no_radix_is_empty r (sym empty ∙ named)
