-- The answers to lines that request conversions.
use Rattle.std.proofs.Common.{append-nil, codes, Ok, Err, ◌≡◌, ℕ, zero, suc, ◌+◌, ◌^◌, ◌<◌, ◌≤◌, ◌/◌, ◌%◌, Bool, true, false, cond, eqb, nat_lt, List, [], ◌∷◌, ◌++◌, length, map, ◌||◌, ℤ, pos, negsuc, refl, sym, ap, ◌∙◌, subst, arith, inl, inr, length-append, if◌then◌else◌, ◌==◌}
use Rattle.std.specs.Fmt.{decimal, digit_glyph, sign_text, signed_decimal}
use Rattle.std.specs.Int.{is_negative}
use Rattle.std.specs.Int.Digits.{digits_of}
use Rattle.std.specs.Str.Parse.{AllDigits}
use Rattle.std.proofs.lemmas.Fmt.{decimal_is_IsNumeral}
use Rattle.std.proofs.lemmas.Int.{ints}
use Rattle.std.proofs.lemmas.Str.Parse.{digit_from_value}
use Rattle.fixed_bits.specs.Formats.{FormatParts, IsFormat, whole_length}
use Rattle.fixed_bits.specs.Ranges.{IsWide}
use Rattle.fixed_bits.specs.declared.format.Policy.{Policy}
use Rattle.fixed_bits.specs.declared.format.Policy.TheVariants.{Checked, Saturating, Wrapping, Symmetric}
use Rattle.fixed_bits.specs.declared.mode.ReadMode.{ReadMode}
use Rattle.fixed_bits.specs.declared.mode.ReadMode.TheVariants.{NearestEven, Floor, Ceil, TowardsZero}
use Rattle.fixed_bits.specs.declared.mode.ReadMode.TheVariants.{AwayFromZero, NearestAway, NearestDown, NearestUp, NearestZero}
use Rattle.fixed_numeral.specs.Messages.{message_of}
use Rattle.fixed_numeral.specs.declared.error.ParseErrorKind.{ParseErrorKind}
use Rattle.fixed_numeral.specs.declared.radix.Radix.{Radix}
use Rattle.fixed_numeral.specs.declared.radix.Radix.TheVariants.{Bin, Oct, Dec, Hex}
use Rattle.fixed_convert.specs.Rounded.{IsNotReformatted}
use Rattle.fixed_write.proofs.Public.{shortest_text_is}
use Rattle.fixed_write.specs.Texts.{IsShortestText, decimal_text, fraction_part, last_digits, point_text, shortest_text, whole_digits}
use Rattle.fixed_respell.specs.Answer.{AsksBy, respelled_answer, task_of, verdict}
use Rattle.fixed_respell.specs.FormatNames.{IsFormatName}
use Rattle.fixed_respell.specs.Language.{fault_answer}
use Rattle.fixed_respell.specs.LineWords.{longest_line, space}
use Rattle.fixed_respell.specs.Reached.{IsRefusal, IsRespelled}
use Rattle.fixed_respell.specs.Split.{count_of}
use Rattle.fixed_respell.specs.Words.{IsPolicyName, counts_text, format_text, mode_text, policy_text, radix_text, sign_letter, slash}
use Rattle.fixed_respell.proofs.Public.{text_names}
use Rattle.fixed_respell.specs.Lemmas.SplitLemmas.{count-append, count_cons}
use Rattle.fixed_numeral.specs.declared.error.ParseErrorKind.TheVariants.{Overflow}
use Rattle.line_engine.specs.AnswerText.{AnswerText}
use Rattle.line_engine.specs.Output.{AppendsAnswer}
use Rattle.run_engine.specs.Reply.{Replies}
use Rattle.fixed_command.specs.Message.{message_text}
use Rattle.fixed_command.specs.Moved.{HasImage, HasPushedImage}
use Rattle.fixed_command.specs.declared.message.Message.{Message}
use Rattle.fixed_command.specs.Convert.{AreFormats, IsAnswerBy, IsMovedAnswer, IsNoSource, IsReply, IsSource, asking_line, asks_a_line}
use Rattle.fixed_command.specs.Printed.{printed}
use Rattle.fixed_command.specs.declared.convert.Settings.{Settings}

-- ---- texts without spaces
other_byte : (c : ℕ) (rest : List ℕ) → 33 ≤ c → count_of space (c ∷ rest) ≡ count_of space rest
other_byte c rest high =
    let other : eqb c 32 ≡ false = grind (arith, high) in
    omega (arith, count_cons 32 c rest, ap (λ t. cond t 1 0 + count_of 32 rest) other)

glyph_high : (d : ℕ) → 33 ≤ digit_glyph false d
glyph_high d = by_size (nat_lt d 10)
  where
    by_size : (b : Bool) → 33 ≤ (if b then 48 + d else 87 + d)
    by_size true = omega arith
    by_size false = omega arith

glyphs_unspaced : (ds : List ℕ) → count_of space (map (digit_glyph false) ds) ≡ 0
glyphs_unspaced [] = refl
glyphs_unspaced (d ∷ ds) = other_byte (digit_glyph false d) (map (digit_glyph false) ds) (glyph_high d) ∙ glyphs_unspaced ds

both_unspaced : (a b : List ℕ) → count_of space a ≡ 0 → count_of space b ≡ 0 → count_of space (a ++ b) ≡ 0
both_unspaced a b x y = omega (arith, count-append space a b, x, y)

last_unspaced : (k n : ℕ) → count_of space (last_digits 10 false k n) ≡ 0
unfolding last_digits
last_unspaced zero n = refl
last_unspaced (suc k) n = both_unspaced (last_digits 10 false k (n / 10)) (digit_glyph false (n % 10) ∷ []) (last_unspaced k (n / 10)) (other_byte (digit_glyph false (n % 10)) [] (glyph_high (n % 10)))

whole_unspaced : (n : ℕ) → count_of space (whole_digits 10 false n) ≡ 0
unfolding whole_digits
whole_unspaced n = by_zero (n == 0)
  where
    by_zero : (b : Bool) → count_of space (if b then 48 ∷ [] else map (digit_glyph false) (digits_of 10 n)) ≡ 0
    by_zero true = refl
    by_zero false = glyphs_unspaced (digits_of 10 n)

fraction_unspaced : (k n : ℕ) → count_of space (fraction_part 10 false k n) ≡ 0
unfolding fraction_part
fraction_unspaced zero n = refl
fraction_unspaced (suc k) n = other_byte 46 (last_digits 10 false (suc k) n) (omega arith) ∙ last_unspaced (suc k) n

point_unspaced : (k n : ℕ) → count_of space (point_text 10 false k n) ≡ 0
unfolding point_text
point_unspaced k n = both_unspaced (whole_digits 10 false (n / 10 ^ k)) (fraction_part 10 false k n) (whole_unspaced (n / 10 ^ k)) (fraction_unspaced k n)

sign_unspaced : (negative : Bool) → count_of space (sign_text negative) ≡ 0
sign_unspaced true = refl
sign_unspaced false = refl

decimal_text_unspaced : (negative : Bool) (n k : ℕ) → count_of space (decimal_text negative n k) ≡ 0
unfolding decimal_text
decimal_text_unspaced negative n k = both_unspaced (sign_text negative) (point_text 10 false k n) (sign_unspaced negative) (point_unspaced k n)

shortest_unspaced : (c : ℤ) (g : ℕ) (text : List ℕ) → IsShortestText c g text → count_of space text ≡ 0
shortest_unspaced c g text is = ap (count_of space) is.text_is ∙ decimal_text_unspaced (is_negative c) is.number is.places

digits_unspaced : (ds : List ℕ) → AllDigits 10 ds → count_of space ds ≡ 0
digits_unspaced [] digits = refl
digits_unspaced (c ∷ cs) digits =
    let low = (digit_from_value c digits.0).0 in
    other_byte c cs (omega (arith, low)) ∙ digits_unspaced cs digits.1

decimal_unspaced : (n : ℕ) → n < 2 ^ 64 → count_of space (decimal n) ≡ 0
decimal_unspaced n fits = digits_unspaced (decimal n) (decimal_is_IsNumeral n fits).0.1

signed_unspaced : (z : ℤ) → IsWide z → count_of space (signed_decimal z) ≡ 0
signed_unspaced (pos n) wide = decimal_unspaced n (omega (arith, ints, wide.high))
signed_unspaced (negsuc n) wide = other_byte 45 (decimal (suc n)) (omega arith) ∙ decimal_unspaced (suc n) (omega (arith, ints, wide.low))

radix_unspaced : (r : Radix) → count_of space (radix_text r) ≡ 0
radix_unspaced Bin = refl
radix_unspaced Oct = refl
radix_unspaced Dec = refl
radix_unspaced Hex = refl

policy_unspaced : (p : Policy) → count_of space (policy_text p) ≡ 0
policy_unspaced Checked = refl
policy_unspaced Saturating = refl
policy_unspaced Wrapping = refl
policy_unspaced Symmetric = refl

mode_unspaced : (m : ReadMode) → count_of space (slash ∷ mode_text m) ≡ 0
mode_unspaced NearestEven = refl
mode_unspaced Floor = refl
mode_unspaced Ceil = refl
mode_unspaced TowardsZero = refl
mode_unspaced NearestAway = refl
mode_unspaced NearestZero = refl
mode_unspaced NearestUp = refl
mode_unspaced NearestDown = refl
mode_unspaced AwayFromZero = refl

letter_high : (signed : Bool) → 33 ≤ sign_letter signed
letter_high true = omega arith
letter_high false = omega arith

format_unspaced : (f : FormatParts) → IsFormat f.width f.frac → count_of space (format_text f) ≡ 0
format_unspaced f is =
    let most = is.is_width.most in
    let within = is.within in
    let wide : IsWide (whole_length f) = record { low = omega (arith, ints, within); high = omega (arith, ints, most) } in
    let fraction : count_of space (70 ∷ decimal f.frac) ≡ 0 = other_byte 70 (decimal f.frac) (omega arith) ∙ decimal_unspaced f.frac (omega arith) in
    other_byte (sign_letter f.signed) (counts_text 70 f) (letter_high f.signed)
    ∙ both_unspaced (signed_decimal (whole_length f)) (70 ∷ decimal f.frac) (signed_unspaced (whole_length f) wide) fraction

-- ---- the request of a line
asks : (s : Settings) (numeral : List ℕ) → AreFormats s → length (asking_line s numeral) ≤ longest_line → AsksBy IsFormatName IsPolicyName (asking_line s numeral) (task_of s.radix s.source s.target s.policy s.mode numeral)
asks s numeral formats short = record {
  short = short;
  radix_word = radix_text s.radix;
  source_word = format_text s.source;
  target_word = format_text s.target;
  policy_word = policy_text s.policy ++ slash ∷ mode_text s.mode;
  words = record {
    text = refl;
    unspaced = (
      radix_unspaced s.radix,
      (
        format_unspaced s.source formats.source,
        (
          format_unspaced s.target formats.target,
          (both_unspaced (policy_text s.policy) (slash ∷ mode_text s.mode) (policy_unspaced s.policy) (mode_unspaced s.mode), tt),
        ),
      ),
    );
  };
  radix = refl;
  source = text_names s.source formats.source;
  target = text_names s.target formats.target;
  policy = inr refl;
}

-- ---- the replies
pub respelled_reply : (s : Settings) (numeral text : List ℕ) (bits : ℤ) (o : Bool) → asks_a_line s.spelling s.target_mode ≡ true → AreFormats s → length (asking_line s numeral) ≤ longest_line → IsRespelled s.mode s.radix numeral s.policy s.source s.target bits o → IsShortestText bits s.target.frac text → IsWide bits
    → IsReply s numeral (record { text = printed s.print s.target (respelled_answer text bits o).text text bits; fault = false })
respelled_reply s numeral text bits o line formats short is shortest wide = record {
  answer = respelled_answer text bits o;
  asked = subst (λ b. IsAnswerBy b s numeral (respelled_answer text bits o)) (sym line) (inr (record {
    task = task_of s.radix s.source s.target s.policy s.mode numeral;
    asks = asks s numeral formats short;
    answered = inr (record { bits = bits; overflowed = o; respelled = is; text = text; shortest = shortest; answer_is = refl });
  }));
  written = inr (record {
    clean = refl;
    text = text;
    bits = bits;
    last = verdict o;
    words = record { text = refl; unspaced = (shortest_unspaced bits s.target.frac text shortest, (signed_unspaced bits wide, tt)) };
    wide = wide;
    reply_is = refl;
  });
}

pub refused_reply : (s : Settings) (numeral : List ℕ) (kind : ParseErrorKind) → asks_a_line s.spelling s.target_mode ≡ true → AreFormats s → length (asking_line s numeral) ≤ longest_line → IsRefusal s.mode s.radix numeral s.policy s.source s.target kind → IsReply s numeral (fault_answer (message_of kind))
refused_reply s numeral kind line formats short is = record {
  answer = fault_answer (message_of kind);
  asked = subst (λ b. IsAnswerBy b s numeral (fault_answer (message_of kind))) (sym line) (inr (record {
    task = task_of s.radix s.source s.target s.policy s.mode numeral;
    asks = asks s numeral formats short;
    answered = inl (record { kind = kind; refusal = is; answer_is = refl });
  }));
  written = inl (record { faulty = refl; reply_is = refl });
}

-- ---- the replies for numbers that are moved in the target mode
pub fault_reply : (s : Settings) (numeral message : List ℕ) → asks_a_line s.spelling s.target_mode ≡ false → IsMovedAnswer s numeral (fault_answer message) → IsReply s numeral (fault_answer message)
fault_reply s numeral message moved is = record {
  answer = fault_answer message;
  asked = subst (λ b. IsAnswerBy b s numeral (fault_answer message)) (sym moved) is;
  written = inl (record { faulty = refl; reply_is = refl });
}

pub moved_reply : (s : Settings) (numeral text : List ℕ) (bits : ℤ) (o : Bool) → asks_a_line s.spelling s.target_mode ≡ false → IsMovedAnswer s numeral (respelled_answer text bits o) → IsShortestText bits s.target.frac text → IsWide bits
    → IsReply s numeral (record { text = printed s.print s.target (respelled_answer text bits o).text text bits; fault = false })
moved_reply s numeral text bits o moved is shortest wide = record {
  answer = respelled_answer text bits o;
  asked = subst (λ b. IsAnswerBy b s numeral (respelled_answer text bits o)) (sym moved) is;
  written = inr (record {
    clean = refl;
    text = text;
    bits = bits;
    last = verdict o;
    words = record { text = refl; unspaced = (shortest_unspaced bits s.target.frac text shortest, (signed_unspaced bits wide, tt)) };
    wide = wide;
    reply_is = refl;
  });
}

-- the printed image of a number is what is pushed for it
pub image_pushed : (s : Settings) (number : ℤ) (out : Bool) (bits : ℤ) (is_out : Bool) (before after : List ℕ) → HasImage s number out bits is_out
    → after ≡ before ++ printed s.print s.target (respelled_answer (shortest_text bits s.target.frac) bits is_out).text (shortest_text bits s.target.frac) bits → length after ≤ length before + 130 → HasPushedImage s number out before after
image_pushed s number out bits is_out before after image appended short =
    let text : List ℕ = shortest_text bits s.target.frac in
    record {
      bits = bits;
      target_out = image.target_out;
      moved = image.moved;
      text = text;
      shortest = shortest_text_is bits s.target.frac;
      wide = image.wide;
      appended = subst (λ o. after ≡ before ++ printed s.print s.target (respelled_answer text bits o).text text bits) image.is_out_is appended;
      short = short;
    }

-- ---- what a rule returns
pub ok_replies : (A : List ℕ → AnswerText → Type 0) (most : ℕ) (line before after : List ℕ) → AppendsAnswer A most line before after false → Replies {N = Unit {0}} A message_text most line before after (Ok tt)
ok_replies A most line before after made = record { text = made.text; answer = made.answer; appended = made.appended; none = tt; short = made.short }

pub err_replies : (A : List ℕ → AnswerText → Type 0) (most : ℕ) (line before message : List ℕ) (m : Message) → 192 ≤ most → m.text.now ≡ message → length message ≤ 64 → A line (fault_answer message) → Replies {N = Unit {0}} A message_text most line before before (Err m)
err_replies A most line before message m room is few answer = record {
  text = [];
  answer = subst (λ t. A line (fault_answer t)) (sym is) answer;
  appended = sym (append-nil before);
  none = refl;
  short = omega (arith, few, room, ap length is, length-append (codes "error: ") m.text.now);
}

-- the message is the reply to a numeral that gives no number of the source
pub unsourced_answer : (s : Settings) (numeral message : List ℕ) → asks_a_line s.spelling s.target_mode ≡ false → length (asking_line s numeral) ≤ longest_line → IsNoSource s.spelling s numeral message → IsReply s numeral (fault_answer message)
unsourced_answer s numeral message moved short none = fault_reply s numeral message moved (inr (inl (record { short = short; message = message; none = none; answer_is = refl })))

-- that of the overflow is the reply to a numeral whose number has no image
pub unmoved_answer : (s : Settings) (numeral : List ℕ) (number : ℤ) (out : Bool) → AreFormats s → asks_a_line s.spelling s.target_mode ≡ false → length (asking_line s numeral) ≤ longest_line → IsSource s.spelling s numeral number out
    → IsNotReformatted s.target_mode s.policy s.target number s.source.frac → IsReply s numeral (fault_answer (message_of Overflow))
unmoved_answer s numeral number out formats moved short source none =
    fault_reply s numeral (message_of Overflow) moved (inr (inr (inl (record { short = short; formats = formats; number = number; out = out; source = source; none = none; answer_is = refl }))))

-- the printed image is the reply to a numeral whose number has it
pub moved_answer : (s : Settings) (numeral : List ℕ) (number : ℤ) (out : Bool) (before after : List ℕ) → AreFormats s → asks_a_line s.spelling s.target_mode ≡ false → length (asking_line s numeral) ≤ longest_line
    → IsSource s.spelling s numeral number out → HasPushedImage s number out before after → AppendsAnswer (IsReply s) 192 numeral before after false
moved_answer s numeral number out before after formats moved short source pushed =
    let o : Bool = out || pushed.target_out in
    let text : List ℕ = printed s.print s.target (respelled_answer pushed.text pushed.bits o).text pushed.text pushed.bits in
    let is : IsMovedAnswer s numeral (respelled_answer pushed.text pushed.bits o) = inr (inr (inr (record {
      short = short;
      formats = formats;
      number = number;
      out = out;
      source = source;
      bits = pushed.bits;
      target_out = pushed.target_out;
      moved = pushed.moved;
      text = pushed.text;
      shortest = pushed.shortest;
      answer_is = refl;
    }))) in
    record {
      text = text;
      answer = moved_reply s numeral pushed.text pushed.bits o moved is pushed.shortest pushed.wide;
      appended = pushed.appended;
      short = omega (arith, pushed.short, ap length pushed.appended, length-append before text);
    }
