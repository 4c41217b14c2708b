use Rattle.std.proofs.Common.{rules, ◌≡◌, ◌++◌, ℕ, FitsSigned, refl, subst}
use Rattle.std.specs.Int.{w128}
use Rattle.std.proofs.lemmas.Int.{to_z-of_z}
use Rattle.fixed_float.specs.Nearest.{IsNearestFloat}
use Rattle.fixed_pack.specs.Floats.{float_size}
use Rattle.fixed_pack.specs.Word.{IsBitsOf, bytes_of, number_of}
use Rattle.fixed_pack.proofs.word_floats.WordFloatsRecode.recode.Goals as goal

pub returns-in-Some : goal.returns-in-Some
returns-in-Some g c whole =
    let s = c.args.self.now in
    let bits = c.in-Some.bits in
    let float : ℕ = c.nearest_float-float.result in
    let fits : FitsSigned w128 c.in-Some.bits = search rules in
    let nearest : IsNearestFloat s.layout bits s.format.frac float = rw (to_z-of_z w128 c.in-Some.bits fits) at c.nearest_float-float.ensures.nearest in
    let are : IsBitsOf s.format (number_of s.endian c.args.word.now) bits = subst (λ (n : ℕ). IsBitsOf s.format n bits) c.word_number.ensures.value c.in-Some.ensures in
    record {
      made = bytes_of s.endian (float_size s.layout) float;
      is = record { clean = refl; bits = bits; are = are; float = float; few = c.nearest_float-float.ensures.few; nearest = nearest; float_is = refl };
      appended = subst (λ (k : ℕ). c.push_word.new.out ≡ c.args.out.now ++ bytes_of s.endian k float) c.float_length.ensures.value c.push_word.ensures.appended;
    }
