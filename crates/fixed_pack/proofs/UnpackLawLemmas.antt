-- Packed numbers are unpacked to their texts.
use Rattle.std.proofs.Common.{◌≡◌, ◌∙◌, ◌==◌, ◌||◌, ◌-◌, ◌*◌, ◌^◌, ◌<◌, ◌≤◌, ℕ, zero, suc, ℤ, pos, negsuc, Bool, true, false, get_or, if◌then◌else◌, take, unsigned_abs, List, [], ◌∷◌, ◌++◌, length, codes, refl, sym, ap, subst, arith, inl, inr, append-nil}
use Rattle.std.specs.Char.{digit_value}
use Rattle.std.specs.Fmt.{decimal, signed_decimal}
use Rattle.std.specs.Int.{is_negative}
use Rattle.std.specs.Str.Parse.{AllDigits}
use Rattle.std.proofs.lemmas.Bool.{eqb-true}
use Rattle.std.proofs.lemmas.Fmt.{decimal_is_IsNumeral}
use Rattle.std.proofs.lemmas.Int.{ints}
use Rattle.std.proofs.lemmas.Nat.{pow_pos}
use Rattle.fixed_bits.proofs.Public.{image_within, images_agree, in_wide, range_decided, rounded_exact, rounded_unique, sign_and_magnitude, width_most}
use Rattle.fixed_bits.specs.Formats.{FormatParts, IsFormat}
use Rattle.fixed_bits.specs.Images.{IsImage, IsInRangeBy}
use Rattle.fixed_bits.specs.Numbers.{with_sign}
use Rattle.fixed_bits.specs.Ranges.{IsInRange, IsOutOfRange, IsWide, IsWidth}
use Rattle.fixed_bits.specs.declared.format.Policy.{Policy}
use Rattle.fixed_bits.specs.declared.mode.ReadMode.{ReadMode}
use Rattle.fixed_convert.specs.Rounded.{IsMovedIn, IsNotReformatted, IsReformatted}
use Rattle.fixed_numeral.specs.declared.radix.Radix.{Radix}
use Rattle.fixed_numeral.specs.declared.radix.Radix.TheVariants.{Dec}
use Rattle.fixed_respell.specs.Answer.{respelled_answer}
use Rattle.fixed_show.proofs.Public.{word_has_no_fault, word_one}
use Rattle.fixed_show.specs.WordText.{IsWord}
use Rattle.fixed_write.specs.Texts.{IsShortestText, last_digits}
use Rattle.line_engine.specs.AnswerText.{AnswerText}
use Rattle.line_engine.specs.Output.{AreAnswers}
use Rattle.fixed_command.proofs.Public.{moved_reply, printed_bits, spelled_word, word_fits}
use Rattle.fixed_command.specs.Convert.{IsAnswerBy, IsMovedAnswer, IsNoSource, IsReply, IsSource, asks_a_line, without_return}
use Rattle.fixed_command.specs.Hex.{word_of}
use Rattle.fixed_command.specs.Lemmas.ReplyLemmas.{reply_one}
use Rattle.fixed_command.specs.Printed.{printed}
use Rattle.fixed_command.specs.declared.convert.Settings.{Settings}
use Rattle.fixed_command.specs.declared.print.Print.TheVariants.{Bits, Text}
use Rattle.fixed_command.specs.declared.spelling.Spelling.TheVariants.{Word}
use Rattle.fixed_pack.specs.Laws.{HasItsText, PackedUnpacks, Undoes, UnpackedBitsPack}
use Rattle.fixed_pack.specs.Pack.{ArePacked, IsPacked}
use Rattle.fixed_pack.specs.Unpack.{HaveLength, IsWordReply, count_of, for_words, word_text}
use Rattle.fixed_pack.specs.Word.{joined, number_of, word_bytes, word_length}
use Rattle.fixed_pack.specs.declared.endian.Endian.{Endian}
use Rattle.fixed_pack.specs.declared.pack.PackSettings.{PackSettings}
use Rattle.fixed_pack.specs.declared.unpack.UnpackRule.{UnpackRule}
use Rattle.fixed_pack.proofs.ImageLemmas.{range_by}
use Rattle.fixed_pack.proofs.ReplyLemmas.{has_digits, line_short, text_short}
use Rattle.fixed_pack.proofs.WordLemmas.{bytes_length, word_back}

-- ---- a number that keeps its fraction length stays the same in every mode
pub stays : (m : ReadMode) (b : ℤ) (f : ℕ) (v : ℤ) → IsMovedIn m b f f v → v ≡ b
stays m b f v moved =
    let k : ℕ = unsigned_abs b in
    let some : 0 < 2 ^ f = pow_pos f in
    let same : moved.ulps ≡ k = rounded_unique m (is_negative b) (k * 2 ^ f) (2 ^ f) moved.ulps k some moved.rounded (rounded_exact m (is_negative b) k (2 ^ f) some) in
    moved.value ∙ (ap (with_sign (is_negative b)) same ∙ sign_and_magnitude b)

-- its bits stay the same if they are in the range that the policy leaves
kept : (m : ReadMode) (policy : Policy) (f : FormatParts) (b c : ℤ) (o : Bool) → IsWidth f.width → IsInRangeBy policy f.signed f.width b → IsReformatted m policy f b f.frac c o → c ≡ b
kept m policy f b c o width range h =
    let same : h.moved ≡ b = stays m b f.frac h.moved h.is_moved in
    let image : IsImage policy f.signed f.width b c = subst (λ v. IsImage policy f.signed f.width v c) same h.image_is in
    (images_agree policy f.signed f.width b c width range).0 image

not_lost : (m : ReadMode) (policy : Policy) (f : FormatParts) (b : ℤ) → IsInRange f.signed f.width b → IsNotReformatted m policy f b f.frac → ⊥
not_lost m policy f b range h =
    let same : h.moved ≡ b = stays m b f.frac h.moved h.is_moved in
    let out : IsOutOfRange f.signed f.width b = subst (λ v. IsOutOfRange f.signed f.width v) same h.out in
    (range_decided f.signed f.width b).1 out range

-- ---- the text of a word
-- the text of a word of bits is a word of the format with these bits
word_is : (endian : Endian) (f : FormatParts) (bare : Radix) (v : ℤ) → IsWidth f.width → IsInRange f.signed f.width v → IsWord bare f (word_text endian (word_length f.width) (word_bytes endian f v)) v
word_is endian f bare v width range =
    let c : ℕ = word_length f.width in
    let room = has_digits f.width width in
    let fits : word_of f.width v < 256 ^ c = omega (arith, word_fits f v width range, room.bytes) in
    let back : number_of endian (word_bytes endian f v) ≡ word_of f.width v = word_back endian c (word_of f.width v) fits in
    subst (λ n. IsWord bare f (codes "0x" ++ last_digits 16 false (2 * c) n) v) (sym back) (spelled_word f bare (2 * c) v width range room.some room.digits)

-- ---- the reply to a word of bits that stay in their format is the printed part of them
-- the reply for these bits, of which this is the shortest text
abbrev shown_of : Settings → List ℕ → Bool → ℤ → AnswerText
shown_of s text o v = record { text = printed s.print s.target (respelled_answer text v o).text text v; fault = false }

record IsShown (s : Settings) (v : ℤ) (reply : AnswerText) : Type 0 where
  text : List ℕ
  out : Bool
  shortest : IsShortestText v s.source.frac text
  is : reply ≡ shown_of s text out v

abbrev pub IsTextOf : ℤ → ℕ → AnswerText → Type 0
IsTextOf v f reply = IsShortestText v f reply.text × (reply.fault ≡ false)

record Stays (s : Settings) (text : List ℕ) (v : ℤ) : Type 0 where
  format : IsFormat s.source.width s.source.frac
  range : IsInRange s.source.signed s.source.width v
  left : IsInRangeBy s.policy s.source.signed s.source.width v
  target : s.target ≡ s.source
  spelling : s.spelling ≡ Word
  word : IsWord s.radix s.source text v
  short : length text ≤ 1000

reply_shown : (s : Settings) (text : List ℕ) (v : ℤ) (reply : AnswerText) → Stays s text v → IsReply s text reply → IsShown s v reply
reply_shown s text v reply k h = by (subst (λ b. IsAnswerBy b s text h.answer) asks h.asked)
  where
    asks : asks_a_line s.spelling s.target_mode ≡ false
    asks = ap (λ p. asks_a_line p s.target_mode) k.spelling

    width : IsWidth s.source.width
    width = k.format.is_width

    by : IsMovedAnswer s text h.answer → IsShown s v reply
    by (inl long) = absurd (omega (arith, long.long, line_short s text k.format (subst (λ f. IsFormat f.width f.frac) (sym k.target) k.format) k.short))
    by (inr (inl none)) =
        let source : IsNoSource Word s text none.message = subst (λ p. IsNoSource p s text none.message) k.spelling none.none in
        absurd (word_has_no_fault s.radix s.source text source.0 v source.1 k.word)
    by (inr (inr (inl none))) =
        let source : IsSource Word s text none.number none.out = subst (λ p. IsSource p s text none.number none.out) k.spelling none.source in
        let same : none.number ≡ v = word_one s.radix s.source text none.number v width source.0 k.word in
        let lost : IsNotReformatted s.target_mode s.policy s.source none.number s.source.frac = subst (λ f. IsNotReformatted s.target_mode s.policy f none.number s.source.frac) k.target none.none in
        absurd (not_lost s.target_mode s.policy s.source v k.range (subst (λ n. IsNotReformatted s.target_mode s.policy s.source n s.source.frac) same lost))
    by (inr (inr (inr m))) =
        let source : IsSource Word s text m.number m.out = subst (λ p. IsSource p s text m.number m.out) k.spelling m.source in
        let same : m.number ≡ v = word_one s.radix s.source text m.number v width source.0 k.word in
        let moved : IsReformatted s.target_mode s.policy s.source m.number s.source.frac m.bits m.target_out = subst (λ f. IsReformatted s.target_mode s.policy f m.number s.source.frac m.bits m.target_out) k.target m.moved in
        let bits : m.bits ≡ v = kept s.target_mode s.policy s.source v m.bits m.target_out width k.left (subst (λ n. IsReformatted s.target_mode s.policy s.source n s.source.frac m.bits m.target_out) same moved) in
        let wide : IsWide m.bits = subst IsWide (sym bits) (in_wide s.source.signed s.source.width v (width_most s.source.width width) k.range) in
        let o : Bool = m.out || m.target_out in
        let again : IsMovedAnswer s text (respelled_answer m.text m.bits o) = inr (inr (inr (record {
          short = m.short;
          formats = m.formats;
          number = m.number;
          out = m.out;
          source = m.source;
          bits = m.bits;
          target_out = m.target_out;
          moved = m.moved;
          text = m.text;
          shortest = m.shortest;
          answer_is = refl;
        }))) in
        let shown : AnswerText = shown_of s m.text o m.bits in
        let same_reply : reply ≡ shown = reply_one s text reply shown h (moved_reply s text m.text m.bits o asks again m.shortest wide) in
        let shortest : IsShortestText v s.source.frac m.text = subst (λ b. IsShortestText b s.source.frac m.text) bits (subst (λ f. IsShortestText m.bits f.frac m.text) k.target m.shortest) in
        record { text = m.text; out = o; shortest = shortest; is = same_reply ∙ ap (shown_of s m.text o) bits }

abbrev text_of : AnswerText → List ℕ
text_of a = a.text

abbrev fault_of : AnswerText → Bool
fault_of a = a.fault

-- which is their text
reply_is : (s : Settings) (v : ℤ) (reply : AnswerText) → s.print ≡ Text → IsShown s v reply → IsTextOf v s.source.frac reply
reply_is s v reply print k =
    let text_is : reply.text ≡ k.text = ap text_of k.is ∙ ap (λ p. printed p s.target (respelled_answer k.text v k.out).text k.text v) print in
    (subst (IsShortestText v s.source.frac) (sym text_is) k.shortest, ap fault_of k.is)

-- or their decimal
decimal_is : (s : Settings) (v : ℤ) (reply : AnswerText) → s.print ≡ Bits → IsShown s v reply → reply.text ≡ signed_decimal v
decimal_is s v reply print k = ap text_of k.is ∙ ap (λ p. printed p s.target (respelled_answer k.text v k.out).text k.text v) print

-- ---- the words of lines
in_format : (s : PackSettings) (line word : List ℕ) (p : IsPacked s line word) → IsInRange s.format.signed s.format.width p.bits
in_format s line word p = (image_within s.policy s.format.signed s.format.width p.read.number p.bits p.read.image).0

left_in : (s : PackSettings) (u : UnpackRule) (line word : List ℕ) → Undoes s u → (p : IsPacked s line word) → IsInRangeBy u.settings.policy s.format.signed s.format.width p.bits
left_in s u line word undoes p =
    let within = image_within s.policy s.format.signed s.format.width p.read.number p.bits p.read.image in
    range_by u.settings.policy s.format.signed s.format.width p.bits within.0 (λ e. subst (λ q. IsInRangeBy q s.format.signed s.format.width p.bits) (undoes.policy e) within.1)

one_text : (s : PackSettings) (u : UnpackRule) (line word : List ℕ) (reply : AnswerText) → IsFormat s.format.width s.format.frac → Undoes s u → IsPacked s line word → IsWordReply u word reply → HasItsText s line reply
one_text s u line word reply format undoes p h =
    let source : IsFormat u.settings.source.width u.settings.source.frac = subst (λ f. IsFormat f.width f.frac) (sym undoes.source) format in
    let range : IsInRange u.settings.source.signed u.settings.source.width p.bits = subst (λ f. IsInRange f.signed f.width p.bits) (sym undoes.source) (in_format s line word p) in
    let left : IsInRangeBy u.settings.policy u.settings.source.signed u.settings.source.width p.bits = subst (λ f. IsInRangeBy u.settings.policy f.signed f.width p.bits) (sym undoes.source) (left_in s u line word undoes p) in
    let word_there : word ≡ word_bytes u.endian u.settings.source p.bits = p.word_is ∙ (ap (λ e. word_bytes e s.format p.bits) (sym undoes.endian) ∙ ap (λ f. word_bytes u.endian f p.bits) (sym undoes.source)) in
    let text : List ℕ = word_text u.endian (count_of u) word in
    let spelled : IsWord u.settings.radix u.settings.source text p.bits = subst (λ w. IsWord u.settings.radix u.settings.source (word_text u.endian (count_of u) w) p.bits) (sym word_there) (word_is u.endian u.settings.source u.settings.radix p.bits source.is_width range) in
    let found = reply_is (for_words u.settings) p.bits reply undoes.print (reply_shown (for_words u.settings) text p.bits reply (record {
      format = source;
      range = range;
      left = left;
      target = undoes.target ∙ sym undoes.source;
      spelling = refl;
      word = spelled;
      short = text_short u.settings.source.width (number_of u.endian word) (width_most u.settings.source.width source.is_width);
    }) h) in
    record {
      bits = p.bits;
      overflowed = p.overflowed;
      read = p.read;
      shortest = subst (λ f. IsShortestText p.bits f.frac reply.text) undoes.source found.0;
      clean = found.1;
    }

all_texts : (s : PackSettings) (u : UnpackRule) (lines words : List (List ℕ)) (replies : List AnswerText) → IsFormat s.format.width s.format.frac → Undoes s u → ArePacked s lines words → AreAnswers (IsWordReply u) words replies → AreAnswers (HasItsText s) lines replies
all_texts s u [] [] [] format undoes packed answers = tt
all_texts s u [] [] (r ∷ rs) format undoes packed answers = absurd answers
all_texts s u [] (w ∷ ws) replies format undoes packed answers = absurd packed
all_texts s u (l ∷ ls) [] replies format undoes packed answers = absurd packed
all_texts s u (l ∷ ls) (w ∷ ws) [] format undoes packed answers = absurd answers
all_texts s u (l ∷ ls) (w ∷ ws) (r ∷ rs) format undoes packed answers = (one_text s u l w r format undoes packed.0 answers.0, all_texts s u ls ws rs format undoes packed.1 answers.1)

word_size : (s : PackSettings) (u : UnpackRule) (line word : List ℕ) → Undoes s u → IsPacked s line word → length word ≡ count_of u
word_size s u line word undoes p = ap length p.word_is ∙ (bytes_length s.endian (word_length s.format.width) (word_of s.format.width p.bits) ∙ ap (λ f. word_length f.width) (sym undoes.source))

all_sizes : (s : PackSettings) (u : UnpackRule) (lines words : List (List ℕ)) → Undoes s u → ArePacked s lines words → HaveLength (count_of u) words
all_sizes s u [] [] undoes packed = tt
all_sizes s u [] (w ∷ ws) undoes packed = absurd packed
all_sizes s u (l ∷ ls) [] undoes packed = absurd packed
all_sizes s u (l ∷ ls) (w ∷ ws) undoes packed = (word_size s u l w undoes packed.0, all_sizes s u ls ws undoes packed.1)

pub packed_unpacks : PackedUnpacks
packed_unpacks s u lines words format undoes packed =
    let some : 0 < s.format.width = format.is_width.some in
    let count : count_of u ≡ word_length s.format.width = ap (λ f. word_length f.width) undoes.source in
    record {
      words_are = record { whole = all_sizes s u lines words undoes packed; short = omega (arith, some, count); cut = sym (append-nil (joined words)) };
      texts = λ replies answers. all_texts s u lines words replies format undoes packed answers;
    }

-- ---- bits that were unpacked are packed again
decide_thirteen : (b : ℕ) (t : Bool) → (b == 13) ≡ t → digit_value b < 10 → (b == 13) ≡ false
decide_thirteen b true e low = let is : digit_value b ≡ digit_value 13 = ap digit_value (eqb-true b 13 e) in absurd (omega (arith, low, is))
decide_thirteen b false e low = e

not_thirteen : (b : ℕ) → digit_value b < 10 → (b == 13) ≡ false
not_thirteen b low = decide_thirteen b (b == 13) refl low

-- no digit is a carriage return
no_return : (k : ℕ) (ds : List ℕ) → AllDigits 10 ds → (get_or ds k 0 == 13) ≡ false
no_return k [] all = refl
no_return zero (b ∷ bs) all = not_thirteen b all.0
no_return (suc k) (b ∷ bs) all = no_return k bs all.1

unreturned : (line : List ℕ) → (get_or line (length line - 1) 0 == 13) ≡ false → without_return line ≡ line
unreturned line none = ap (λ t. if t then take (length line - 1) line else line) none

after_minus : (k : ℕ) (ds : List ℕ) → AllDigits 10 ds → (get_or (45 ∷ ds) k 0 == 13) ≡ false
after_minus zero ds all = refl
after_minus (suc k) ds all = no_return k ds all

decimal_line : (v : ℤ) → IsWide v → without_return (signed_decimal v) ≡ signed_decimal v
decimal_line (pos n) wide =
    let digits = decimal_is_IsNumeral n (omega (arith, ints, wide.high)) in
    unreturned (decimal n) (no_return (length (decimal n) - 1) (decimal n) digits.0.1)
decimal_line (negsuc n) wide =
    let digits = decimal_is_IsNumeral (suc n) (omega (arith, ints, wide.low)) in
    unreturned (45 ∷ decimal (suc n)) (after_minus (length (45 ∷ decimal (suc n)) - 1) (decimal (suc n)) digits.0.1)

pub unpacked_bits_pack : UnpackedBitsPack
unpacked_bits_pack s u v reply format redoes range h =
    let f : FormatParts = u.settings.source in
    let same : f ≡ s.format = redoes.source in
    let word : List ℕ = word_bytes s.endian s.format v in
    let source : IsFormat f.width f.frac = subst (λ g. IsFormat g.width g.frac) (sym same) format in
    let within : IsInRange f.signed f.width v = subst (λ g. IsInRange g.signed g.width v) (sym same) range in
    let left : IsInRangeBy u.settings.policy f.signed f.width v = range_by u.settings.policy f.signed f.width v within (λ e. absurd (redoes.policy e)) in
    let there : word ≡ word_bytes u.endian f v = ap (λ (e : Endian). word_bytes e s.format v) (sym redoes.endian) ∙ ap (λ (g : FormatParts). word_bytes u.endian g v) (sym same) in
    let text : List ℕ = word_text u.endian (count_of u) word in
    let spelled : IsWord u.settings.radix f text v = subst (λ (w : List ℕ). IsWord u.settings.radix f (word_text u.endian (count_of u) w) v) (sym there) (word_is u.endian f u.settings.radix v source.is_width within) in
    let shown = reply_shown (for_words u.settings) text v reply (record {
      format = source;
      range = within;
      left = left;
      target = redoes.target ∙ sym redoes.source;
      spelling = refl;
      word = spelled;
      short = text_short f.width (number_of u.endian word) (width_most f.width source.is_width);
    }) h in
    let decimal_text : reply.text ≡ signed_decimal v = decimal_is (for_words u.settings) v reply redoes.print shown in
    let wide : IsWide v = in_wide s.format.signed s.format.width v (width_most s.format.width format.is_width) range in
    let line : without_return reply.text ≡ signed_decimal v = ap without_return decimal_text ∙ decimal_line v wide in
    let read : IsWord Dec s.format (signed_decimal v) v = (printed_bits s.format v [] [] format range).decimal in
    record {
      clean = ap fault_of shown.is;
      packed = record {
        width = format.is_width;
        bits = v;
        read = subst (λ (l : List ℕ). IsWord s.radix s.format l v) (sym line) (subst (λ (r : Radix). IsWord r s.format (signed_decimal v) v) (sym redoes.radix) read);
        word_is = refl;
      };
    }
