-- The replies to words.
use Rattle.std.proofs.Common.{◌≡◌, ◌∙◌, ◌*◌, ◌^◌, ◌<◌, ◌≤◌, ℕ, ℤ, false, List, [], ◌∷◌, ◌++◌, Some, None, length, refl, sym, ap, subst, arith, inl, inr, length-append}
use Rattle.std.proofs.Math.Nat.{pow-le-pow_right}
use Rattle.std.proofs.lemmas.Fmt.{length-decimal-le_succ, length_signed_le}
use Rattle.std.specs.Fmt.{decimal, signed_decimal}
use Rattle.fixed_bits.proofs.Public.{width_most}
use Rattle.fixed_bits.specs.Formats.{FormatParts, IsFormat, whole_length}
use Rattle.fixed_bits.specs.Ranges.{IsWidth}
use Rattle.fixed_bits.specs.declared.format.Policy.{Policy}
use Rattle.fixed_bits.specs.declared.format.Policy.TheVariants.{Checked, Saturating, Wrapping, Symmetric}
use Rattle.fixed_bits.specs.declared.mode.ReadMode.{ReadMode}
use Rattle.fixed_bits.specs.declared.mode.ReadMode.TheVariants.{Ceil, Floor, NearestEven, TowardsZero}
use Rattle.fixed_bits.specs.declared.mode.ReadMode.TheVariants.{AwayFromZero, NearestAway, NearestDown, NearestUp, NearestZero}
use Rattle.fixed_convert.specs.Rounded.{IsNotReformatted}
use Rattle.fixed_numeral.proofs.Public.{pow-mul}
use Rattle.fixed_numeral.specs.declared.radix.Radix.{Radix}
use Rattle.fixed_numeral.specs.declared.radix.Radix.TheVariants.{Bin, Dec, Hex, Oct}
use Rattle.fixed_respell.specs.Answer.{respelled_answer}
use Rattle.fixed_respell.specs.Language.{fault_answer}
use Rattle.fixed_respell.specs.Lemmas.FormatLemmas.{whole_small}
use Rattle.fixed_respell.specs.LineWords.{longest_line}
use Rattle.fixed_respell.specs.Words.{format_text, fraction_letter, mode_text, policy_text, radix_text, slash}
use Rattle.fixed_show.specs.WordText.{IsTooWide, IsWord}
use Rattle.fixed_show.specs.declared.words.WordFault.TheVariants as WordFaults
use Rattle.fixed_write.proofs.Public.{last_digits_length}
use Rattle.fixed_command.proofs.Public.{fault_reply, moved_reply, spelled_number, spelled_word}
use Rattle.fixed_command.specs.Convert.{IsMovedAnswer, asking_line}
use Rattle.fixed_command.specs.Lemmas.ReplyLemmas.{spaced_sum}
use Rattle.fixed_command.specs.Moved.{HasPushedImage}
use Rattle.fixed_command.specs.Printed.{printed}
use Rattle.fixed_command.specs.declared.convert.Settings.{Settings}
use Rattle.fixed_pack.specs.Floats.{refusal_text}
use Rattle.fixed_pack.specs.Inner.Unpacking.{PushesReply}
use Rattle.fixed_pack.specs.Unpack.{for_words, number_text}
use Rattle.fixed_pack.specs.Word.{IsBitsOf, word_length}
use Rattle.fixed_pack.specs.declared.float_words.WordRefusal.TheVariants.{Overflow, TooWide}

-- ---- the text of a word
-- the bytes and digits of a word have room for its bits
pub record HasDigits (n : ℕ) : Type 0 where
  pub bytes : 2 ^ n ≤ 256 ^ word_length n
  pub digits : 2 ^ n ≤ 16 ^ (2 * word_length n)
  pub some : 0 < 2 * word_length n

pub has_digits : (n : ℕ) → IsWidth n → HasDigits n
has_digits n width =
    let c : ℕ = word_length n in
    let some : 0 < n = width.some in
    let enough : n ≤ 8 * c = omega arith in
    let power : 2 ^ n ≤ 2 ^ (8 * c) = pow-le-pow_right {n = 2} (omega arith) enough in
    let eight : 256 ^ c ≡ 2 ^ (8 * c) = pow-mul 2 8 c in
    let four : 16 ^ (2 * c) ≡ 2 ^ (4 * (2 * c)) = pow-mul 2 4 (2 * c) in
    let same : 2 ^ (4 * (2 * c)) ≡ 2 ^ (8 * c) = ap (λ k. 2 ^ k) (omega arith) in
    record { bytes = omega (arith, power, eight); digits = omega (arith, power, four, same); some = omega (arith, some) }

same_power : (c : ℕ) → 256 ^ c ≡ 16 ^ (2 * c)
same_power c = pow-mul 2 8 c ∙ (ap (λ k. 2 ^ k) (omega arith) ∙ sym (pow-mul 2 4 (2 * c)))

-- ---- the line that requests the conversion of the text is no longer than a line may be
radix_length : (r : Radix) → length (radix_text r) ≤ 2
radix_length Bin = omega arith
radix_length Oct = omega arith
radix_length Dec = omega arith
radix_length Hex = omega arith

policy_length : (p : Policy) → length (policy_text p) ≤ 10
policy_length Checked = omega arith
policy_length Saturating = omega arith
policy_length Wrapping = omega arith
policy_length Symmetric = omega arith

mode_length : (m : ReadMode) → length (mode_text m) ≤ 9
mode_length NearestEven = omega arith
mode_length TowardsZero = omega arith
mode_length NearestAway = omega arith
mode_length NearestZero = omega arith
mode_length NearestUp = omega arith
mode_length NearestDown = omega arith
mode_length AwayFromZero = omega arith
mode_length Floor = omega arith
mode_length Ceil = omega arith

format_length : (f : FormatParts) → IsFormat f.width f.frac → length (format_text f) ≤ 132
format_length f format =
    let small = whole_small f format in
    let whole = length_signed_le 2 (whole_length f) (omega (arith, small)) (omega (arith, small)) in
    let frac = length-decimal-le_succ f.frac (omega (arith, format.within)) in
    omega (arith, format.within, whole, frac, length-append (signed_decimal (whole_length f)) (fraction_letter ∷ decimal f.frac))

pub line_short : (s : Settings) (text : List ℕ) → IsFormat s.source.width s.source.frac → IsFormat s.target.width s.target.frac → length text ≤ 1000 → length (asking_line s text) ≤ longest_line
line_short s text source target short =
    omega (
      arith,
      short,
      format_length s.source source,
      format_length s.target target,
      radix_length s.radix,
      policy_length s.policy,
      mode_length s.mode,
      length-append (policy_text s.policy) (slash ∷ mode_text s.mode),
      spaced_sum (radix_text s.radix) (format_text s.source) (format_text s.target) (policy_text s.policy ++ slash ∷ mode_text s.mode) text,
    )

-- ---- the reply to the text of a word
pub text_short : (width number : ℕ) → width ≤ 64 → length (number_text (word_length width) number) ≤ 1000
text_short width number most = omega (arith, most, last_digits_length 16 false (2 * word_length width) number)

module _ (s : Settings) (number : ℕ) (old new : List ℕ) (source : IsFormat s.source.width s.source.frac) (target : IsFormat s.target.width s.target.frac) where
  abbrev text : List ℕ
  text = number_text (word_length s.source.width) number

  short : length (asking_line (for_words s) text) ≤ longest_line
  short = line_short (for_words s) text source target (text_short s.source.width number (width_most s.source.width source.is_width))

  -- the word spells too wide a number
  pub wide_replied : 2 ^ s.source.width ≤ number → number < 256 ^ word_length s.source.width → new ≡ old ++ (fault_answer (refusal_text TooWide)).text → PushesReply s number old new (Some TooWide)
  wide_replied wide few appended =
      let c : ℕ = word_length s.source.width in
      let room = has_digits s.source.width source.is_width in
      let below : number < 16 ^ (2 * c) = omega (arith, few, same_power c) in
      let fault : IsTooWide s.radix s.source text = record { plain = refl; number = number; spells = spelled_number s.radix (2 * c) number room.some below; wide = wide } in
      record {
        text = [];
        reply = fault_reply (for_words s) text (refusal_text TooWide) refl (inr (inl (record { short = short; message = refusal_text TooWide; none = (WordFaults.TooWide, fault, refl); answer_is = refl })));
        appended = appended;
      }

  module _ (bits : ℤ) (is : IsBitsOf s.source number bits) where
    spelled : IsWord s.radix s.source text bits
    spelled =
        let room = has_digits s.source.width source.is_width in
        subst (λ n. IsWord s.radix s.source (number_text (word_length s.source.width) n) bits) is.word_is
        (spelled_word s.source s.radix (2 * word_length s.source.width) bits source.is_width is.in_range room.some room.digits)

    -- the bits have no image in the target
    pub overflow_replied : IsNotReformatted s.target_mode s.policy s.target bits s.source.frac → new ≡ old ++ (fault_answer (refusal_text Overflow)).text → PushesReply s number old new (Some Overflow)
    overflow_replied none appended = record {
      text = [];
      reply = fault_reply (for_words s) text (refusal_text Overflow) refl
          (inr (inr (inl (record { short = short; formats = record { source = source; target = target }; number = bits; out = false; source = (spelled, refl); none = none; answer_is = refl }))));
      appended = appended;
    }

    -- the bits have an image in the target
    pub image_replied : HasPushedImage s bits false old new → PushesReply s number old new None
    image_replied p = record {
      text = printed s.print s.target (respelled_answer p.text p.bits p.target_out).text p.text p.bits;
      reply = moved_reply (for_words s) text p.text p.bits p.target_out refl moved p.shortest p.wide;
      appended = p.appended;
    }
      where
        moved : IsMovedAnswer (for_words s) text (respelled_answer p.text p.bits p.target_out)
        moved = inr (inr (inr (record {
          short = short;
          formats = record { source = source; target = target };
          number = bits;
          out = false;
          source = (spelled, refl);
          bits = p.bits;
          target_out = p.target_out;
          moved = p.moved;
          text = p.text;
          shortest = p.shortest;
          answer_is = refl;
        })))
