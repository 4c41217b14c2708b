use Rattle.std.proofs.Common.{◌∙◌, ℕ, ap, subst}
use Rattle.fixed_bits.specs.Numbers.{number_of_image}
use Rattle.fixed_show.specs.ShowBlock.{IsReadAs}
use Rattle.fixed_pack.specs.Word.{bytes_of, word_length}
use Rattle.fixed_pack.proofs.pack.PackSettingsPack.pack.Goals as goal

pub returns-in-Ok : goal.returns-in-Ok
returns-in-Ok g c =
    let s = c.args.self.now in
    let image = c.in-Ok.image in
    record {
      word = bytes_of s.endian c.word_length.result c.signed_word-word.result;
      is = record {
        width = c.width_of-width.ensures.valid;
        bits = number_of_image image;
        overflowed = image.is_out_of_range;
        read = subst (λ n. IsReadAs s.mode s.radix n s.format s.policy (number_of_image image) image.is_out_of_range) c.without_return.ensures.line c.in-Ok.ensures.read;
        word_is = ap (λ (n : ℕ). bytes_of s.endian n c.signed_word-word.result) c.word_length.ensures.value ∙ ap (bytes_of s.endian (word_length s.format.width)) c.signed_word-word.ensures;
      };
      appended = c.push_word.ensures.appended;
    }
