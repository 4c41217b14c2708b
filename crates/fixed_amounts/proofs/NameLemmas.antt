-- A name means at most one decimal format.
use Rattle.std.proofs.Common.{◌≡◌, ◌∙◌, ◌∷◌, List, ℕ, ◌<◌, ◌^◌, arith, sym}
use Rattle.std.specs.Prelude.{decimal}
use Rattle.std.proofs.lemmas.Fmt.{decimal_injective}
use Rattle.fixed_amounts.specs.Laws.{DecimalNameIsTheOne}

rest_one : (a b : ℕ) (s t : List ℕ) → a ∷ s ≡ b ∷ t → s ≡ t
rest_one a b s t e = cc

pub decimal_name_one : DecimalNameIsTheOne
decimal_name_one word m n x y =
    let same : decimal m ≡ decimal n = rest_one x.letter y.letter (decimal m) (decimal n) (sym x.text ∙ y.text) in
    decimal_injective m n (omega (arith, x.few)) (omega (arith, y.few)) same
