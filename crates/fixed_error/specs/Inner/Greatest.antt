-- Whether a numeral's error is greater than those so far.
use Rattle.std.specs.Prelude.{◌≡◌, ℕ, Bool, true, false, List}
use Rattle.fixed_error.specs.ErrorSize.{HasGreaterError, HasNoGreaterError}
use Rattle.fixed_error.specs.declared.greatest.GreatestError.{GreatestError}

pub record IsGreatestSoFar (g : GreatestError) (numeral : List ℕ) (result : Bool) : Type 0 where
  pub greater : result ≡ true → g.is_some ≡ true → HasGreaterError g.mode g.radix g.frac numeral g.numeral.items
  pub not : result ≡ false → HasNoGreaterError g.mode g.radix g.frac numeral g.numeral.items
  pub some : result ≡ false → g.is_some ≡ true
