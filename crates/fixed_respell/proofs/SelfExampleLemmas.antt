-- The first lines of the self test.
use Rattle.std.proofs.Common.{◌≡◌, [], ◌∷◌, refl}
use Rattle.std.specs.Prelude.{codes}
use Rattle.fixed_respell.specs.SelfMode.{number_text, self_line, self_lines}

seven_lines : self_lines 7 ≡ codes "2 U8F0 U8F0 checked 0.0" ∷ codes "8 U8F0 U8F0 saturating 1.17357" ∷ codes "10 U8F0 U8F0 wrapping 2.15838" ∷ codes "16 U8F0 U8F0 checked 3.5ccd"
    ∷ codes "2 I4F4 U8F0 saturating -100.111101110111100" ∷ codes "8 I4F4 U8F0 wrapping 5.115253" ∷ codes "10 I4F4 U8F0 checked 6.47514@-3" ∷ []
unfolding self_lines self_line number_text
seven_lines = refl
