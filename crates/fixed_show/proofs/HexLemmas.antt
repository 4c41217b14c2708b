-- Words in hexadecimal.
use Rattle.std.proofs.Common.{◌≡◌, ℕ, ◌+◌, ◌/◌, List, [], ◌∷◌, ◌++◌, Bool, false, ◌∙◌, arith, ℤ, pos, append_assoc, codes}
use Rattle.std.specs.Prelude.{unsigned_abs}
use Rattle.std.proofs.lemmas.Int.{ints}
use Rattle.fixed_bits.specs.Images.{IsWrapped}
use Rattle.fixed_write.specs.Texts.{last_digits}
use Rattle.fixed_show.specs.Blocks.{hex_text}
use Rattle.fixed_show.specs.Forms.{end_byte, fact, label}
use Rattle.fixed_show.specs.declared.form.Form.{Form}

pub unsigned_word : (s : Bool) (n m : ℕ) (b v : ℤ) → s ≡ false → n ≡ m → IsWrapped s n b v → IsWrapped false m b (pos (unsigned_abs v))
unsigned_word s n m b v e f w =
    let x : IsWrapped false m b v = rw (e, f) at w in
    let p : v ≡ pos (unsigned_abs v) = omega (arith, ints, x.in_range.low) in
    rw p at x

pub hex_pushed : (form : Form) (old a b c d : List ℕ) (n w e : ℕ) → a ≡ old ++ label form (codes "hex") → b ≡ a ++ codes "0x" → c ≡ b ++ last_digits 16 false ((n + 3) / 4) w → e ≡ end_byte form → d ≡ c ++ e ∷ [] → d ≡ old ++ fact form (codes "hex") (hex_text n w)
unfolding fact hex_text
hex_pushed form old a b c d n w e p q r s t =
    let x : d ≡ (((old ++ label form (codes "hex")) ++ codes "0x") ++ last_digits 16 false ((n + 3) / 4) w) ++ end_byte form ∷ [] = cc in
    x ∙ simp append_assoc
