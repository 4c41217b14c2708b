use Rattle.std.proofs.Common.{rules, ◌≡◌, ◌∙◌, FitsSigned, ℕ, ap, subst}
use Rattle.std.specs.Int.{w128}
use Rattle.std.proofs.lemmas.Int.{to_z-of_z}
use Rattle.fixed_command.specs.Hex.{word_of}
use Rattle.fixed_show.specs.WordText.{IsWord}
use Rattle.fixed_pack.specs.Word.{bytes_of, word_length}
use Rattle.fixed_pack.proofs.BitsLemmas.{word_in_range}
use Rattle.fixed_pack.proofs.bits.PackBitsPack.pack.Goals as goal

pub word_of-requires : goal.word_of-requires
word_of-requires g c =
    let s = c.args.self.now in
    let fits : FitsSigned w128 c.in-Ok.bits = search rules in
    rw (to_z-of_z w128 c.in-Ok.bits fits) (word_in_range s.radix s.format c.without_return.result.now c.in-Ok.bits c.in-Ok.ensures.word)

pub returns-in-Ok : goal.returns-in-Ok
returns-in-Ok g c =
    let s = c.args.self.now in
    let fits : FitsSigned w128 c.in-Ok.bits = search rules in
    let word : c.word_of.result ≡ word_of s.format.width c.in-Ok.bits = rw (to_z-of_z w128 c.in-Ok.bits fits) at c.word_of.ensures in
    record {
      word = bytes_of s.endian c.word_length.result c.word_of.result;
      is = record {
        width = c.width_of-width.ensures.valid;
        bits = c.in-Ok.bits;
        read = subst (λ n. IsWord s.radix s.format n c.in-Ok.bits) c.without_return.ensures.line c.in-Ok.ensures.word;
        word_is = ap (λ (n : ℕ). bytes_of s.endian n c.word_of.result) c.word_length.ensures.value ∙ ap (bytes_of s.endian (word_length s.format.width)) word;
      };
      appended = c.push_word.ensures.appended;
    }
