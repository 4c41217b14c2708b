use Rattle.std.proofs.Common.{◌≡◌, ◌∙◌, ◌+◌, ◌-◌, ◌*◌, ◌≤◌, ◌++◌, ℕ, List, None, ap, arith, drop, length, length-append, refl, subst, sym, take}
use Rattle.std.proofs.lemmas.List.{length-take, take-append-drop, take_rest}
use Rattle.std.proofs.Common.{rules, FitsSigned}
use Rattle.std.specs.Int.{w128}
use Rattle.std.proofs.lemmas.Int.{to_z-of_z}
use Rattle.fixed_float.specs.Nearest.{IsNearestFloat}
use Rattle.fixed_pack.specs.Floats.{float_size}
use Rattle.fixed_pack.specs.Word.{IsBitsOf}
use Rattle.fixed_pack.specs.declared.endian.Endian.{Endian}
use Rattle.fixed_pack.specs.Floats.{IsWordFloat}
use Rattle.fixed_pack.specs.Word.{bytes_of, number_of}
use Rattle.fixed_pack.proofs.RecodeLemmas.{front_more, front_none, one_less}
use Rattle.fixed_pack.proofs.word_floats.push_floats.Goals as goal

pub loop-left-init : goal.loop-left-init
loop-left-init c =
    let most : ℕ = c.words_within-most.result in
    record {
      front = front_none c.args.size (IsWordFloat c.args.words) c.args.bytes.now c.args.out.now (most - most) (omega arith);
      within = omega arith;
      long = c.words_within-most.ensures.bytes;
      room = omega (arith, c.words_within-most.ensures.room, c.room.ensures);
    }

pub loop-left-preserved : goal.loop-left-preserved
loop-left-preserved c =
    let s = c.args.words in
    let size : ℕ = c.args.size in
    let inv = c.loop-left.invariant in
    let rest = c.loop-left.rest.now in
    let left : ℕ = c.loop-left.left in
    let most : ℕ = c.words_within-most.result in
    let word : List ℕ = take size rest in
    let more : List ℕ = take (length rest - size) (drop size rest) in
    let lessened : size * left ≡ size + size * (left - 1) = one_less size left (omega (arith, c.loop-left-test.true)) in
    let enough : size ≤ length rest = omega (arith, lessened, inv.long) in
    let whole : length word ≡ size = omega (arith, length-take size rest, enough) in
    let split : rest ≡ word ++ more = sym (take-append-drop size rest) ∙ ap (λ l. word ++ l) (sym (take_rest rest size)) in
    let bits = c.in-Some.bits in
    let float : ℕ = c.nearest_float.result in
    let fits : FitsSigned w128 c.in-Some.bits = search rules in
    let nearest : IsNearestFloat s.layout bits s.format.frac float = rw (to_z-of_z w128 c.in-Some.bits fits) at c.nearest_float.ensures.nearest in
    let are : IsBitsOf s.format (number_of s.endian word) bits =
    subst (λ (n : ℕ). IsBitsOf s.format n bits) (c.word_number.ensures.value ∙ ap (λ (e : Endian). number_of e word) c.requires.endian) c.in-Some.ensures in
    let made : bytes_of c.args.endian c.args.count float ≡ bytes_of s.endian (float_size s.layout) float =
    ap (λ (e : Endian). bytes_of e c.args.count float) c.requires.endian ∙ ap (λ k. bytes_of s.endian k float) c.requires.count in
    record {
      front = front_more size (IsWordFloat s) c.args.bytes.now c.args.out.now c.loop-left.out (most - left) rest word more (bytes_of s.endian (float_size s.layout) float) c.push_word.new.out None (most - (left - 1)) inv.front split whole (record { clean = refl; bits = bits; are = are; float = float; few = c.nearest_float.ensures.few; nearest = nearest; float_is = refl }) refl (c.push_word.ensures.appended ∙ ap (λ l. c.loop-left.out ++ l) made) (omega (arith, inv.within, c.loop-left-test.true));
      within = omega (arith, inv.within);
      long = omega (arith, lessened, inv.long, ap length split, length-append word more, whole);
      room = omega (arith, inv.room, c.push_word.ensures.length, c.requires.few, c.loop-left-test.true);
    }
