use Rattle.std.proofs.Common.{◌≡◌, ◌∙◌, ◌+◌, ◌-◌, ◌*◌, ◌<◌, ◌≤◌, ◌^◌, ◌++◌, ℕ, List, None, ap, arith, drop, length, length-append, refl, subst, sym, take}
use Rattle.std.proofs.lemmas.List.{length-take, take-append-drop, take_rest}
use Rattle.fixed_pack.specs.Floats.{IsFloatNumber, float_size}
use Rattle.fixed_pack.specs.declared.endian.Endian.{Endian}
use Rattle.fixed_pack.specs.Floats.{IsFloatWord}
use Rattle.fixed_pack.specs.Word.{bytes_of, number_of, word_length}
use Rattle.fixed_pack.proofs.RecodeLemmas.{front_more, front_none, one_less}
use Rattle.fixed_pack.proofs.float_words.push_quick.Goals as goal

pub loop-left-init : goal.loop-left-init
loop-left-init c =
    let most : ℕ = c.words_within-most.result in
    record {
      front = front_none c.args.size (IsFloatWord c.args.floats) c.args.bytes.now c.args.out.now (most - most) (omega arith);
      within = omega arith;
      long = c.words_within-most.ensures.bytes;
      room = omega (arith, c.words_within-most.ensures.room, c.room.ensures);
    }

pub loop-left-preserved : goal.loop-left-preserved
loop-left-preserved c =
    let s = c.args.floats in
    let size : ℕ = c.args.size in
    let inv = c.loop-left.invariant in
    let rest = c.loop-left.rest.now in
    let left : ℕ = c.loop-left.left in
    let most : ℕ = c.words_within-most.result in
    let word : List ℕ = take size rest in
    let more : List ℕ = take (length rest - size) (drop size rest) in
    let lessened : size * left ≡ size + size * (left - 1) = one_less size left (omega (arith, c.loop-left-test.true)) in
    let enough : size ≤ length rest = omega (arith, lessened, inv.long) in
    let whole : length word ≡ size = omega (arith, length-take size rest, enough) in
    let split : rest ≡ word ++ more = sym (take-append-drop size rest) ∙ ap (λ l. word ++ l) (sym (take_rest rest size)) in
    let below : c.word_number-float.result < 256 ^ float_size s.layout = subst (λ n. c.word_number-float.result < 256 ^ n) (whole ∙ c.requires.size) c.word_number-float.ensures.below in
    let found : IsFloatNumber s c.word_number-float.result c.in-Some.number = c.in-Some.ensures below in
    let are : IsFloatNumber s (number_of s.endian word) c.in-Some.number =
    subst (λ (n : ℕ). IsFloatNumber s n c.in-Some.number) (c.word_number-float.ensures.value ∙ ap (λ (e : Endian). number_of e word) c.requires.endian) found in
    let made : bytes_of c.args.endian c.args.count c.in-Some.number ≡ bytes_of s.endian (word_length s.format.width) c.in-Some.number =
    ap (λ (e : Endian). bytes_of e c.args.count c.in-Some.number) c.requires.endian ∙ ap (λ k. bytes_of s.endian k c.in-Some.number) c.requires.count in
    record {
      front = front_more size (IsFloatWord s) c.args.bytes.now c.args.out.now c.loop-left.out (most - left) rest word more (bytes_of s.endian (word_length s.format.width) c.in-Some.number) c.push_word.new.out None (most - (left - 1)) inv.front split whole (record { clean = refl; bits = are.bits; are = are.are; word_is = ap (bytes_of s.endian (word_length s.format.width)) are.word_is; width = c.greatest_kept-greatest.ensures.format.is_width }) refl (c.push_word.ensures.appended ∙ ap (λ l. c.loop-left.out ++ l) made) (omega (arith, inv.within, c.loop-left-test.true));
      within = omega (arith, inv.within);
      long = omega (arith, lessened, inv.long, ap length split, length-append word more, whole);
      room = omega (arith, inv.room, c.push_word.ensures.length, c.requires.few, c.loop-left-test.true);
    }
