-- A word becomes one word of another format, or is refused for one cause.
use Rattle.std.proofs.Common.{◌≡◌, ◌∙◌, ◌^◌, ◌≤◌, ℕ, ℤ, List, Option, refl, sym, ap, subst, arith}
use Rattle.std.specs.Prelude.{is_some}
use Rattle.fixed_bits.specs.Formats.{FormatParts}
use Rattle.fixed_command.proofs.Public.{word_fits}
use Rattle.fixed_command.specs.Lemmas.MovedLemmas.{reformatted_one, reformatted_or_not}
use Rattle.fixed_convert.specs.Rounded.{IsNotReformatted, IsReformatted}
use Rattle.fixed_pack.specs.Lemmas.FloatLaws.{same_word}
use Rattle.fixed_pack.specs.Repacked.{IsRepackRefused, IsRepacked}
use Rattle.fixed_pack.specs.Word.{IsBitsOf, number_of, word_bytes}
use Rattle.fixed_pack.specs.declared.float_words.WordRefusal.{WordRefusal}
use Rattle.fixed_pack.specs.declared.float_words.WordRefusal.TheVariants.{NotFinite, Overflow, TooWide}
use Rattle.fixed_pack.specs.declared.repack.Repack.{Repack}

bits_one : (f : FormatParts) (n : ℕ) (a b : ℤ) → IsBitsOf f n a → IsBitsOf f n b → a ≡ b
bits_one f n a b p q = same_word f.signed f.width a b p.width p.in_range q.in_range (p.word_is ∙ sym q.word_is)

not_wide : (f : FormatParts) (n : ℕ) (a : ℤ) → IsBitsOf f n a → 2 ^ f.width ≤ n → ⊥
not_wide f n a p wide = omega (arith, word_fits f a p.width p.in_range, p.word_is, wide)

pub repacked_one : (s : Repack) (bytes a b : List ℕ) (c d : Option WordRefusal) → IsRepacked s bytes a c
    → IsRepacked s bytes b d → (a ≡ b) × (is_some c ≡ is_some d)
repacked_one s bytes a b c d p q =
    let x = p.has in
    let y = q.has in
    let bits : x.bits ≡ y.bits = bits_one s.source (number_of s.endian bytes) x.bits y.bits x.are y.are in
    let image = reformatted_one s.target_mode s.policy s.target y.bits s.source.frac p.image q.image x.overflowed
    y.overflowed q.width (subst (λ v. IsReformatted s.target_mode s.policy s.target v s.source.frac p.image
    x.overflowed) bits x.moved) y.moved in (
      p.word_is ∙ (ap (word_bytes s.endian_out s.target) image.0 ∙ sym q.word_is),
      ap is_some (p.clean ∙ sym q.clean),
    )

pub refused_one : (s : Repack) (bytes : List ℕ) (k l : WordRefusal) → IsRepackRefused s bytes k
    → IsRepackRefused s bytes l → k ≡ l
refused_one s bytes NotFinite l p q = absurd p
refused_one s bytes Overflow NotFinite p q = absurd q
refused_one s bytes Overflow Overflow p q = refl
refused_one s bytes Overflow TooWide p q = absurd (not_wide s.source (number_of s.endian bytes) p.bits p.are q)
refused_one s bytes TooWide NotFinite p q = absurd q
refused_one s bytes TooWide Overflow p q = absurd (not_wide s.source (number_of s.endian bytes) q.bits q.are p)
refused_one s bytes TooWide TooWide p q = refl

pub repacked_never : (s : Repack) (bytes made : List ℕ) (c : Option WordRefusal) (k : WordRefusal)
    → IsRepacked s bytes made c → IsRepackRefused s bytes k → ⊥
repacked_never s bytes made c NotFinite p q = q
repacked_never s bytes made c Overflow p q =
    let x = p.has in
    let bits : q.bits ≡ x.bits = bits_one s.source (number_of s.endian bytes) q.bits x.bits q.are x.are in
    reformatted_or_not s.target_mode s.policy s.target x.bits s.source.frac p.image x.overflowed x.moved
    (subst (λ v. IsNotReformatted s.target_mode s.policy s.target v s.source.frac) bits q.none)
repacked_never s bytes made c TooWide p q = not_wide s.source (number_of s.endian bytes) p.has.bits p.has.are q
