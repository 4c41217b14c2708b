-- Words converted one byte after the other.
use Rattle.std.proofs.Common.{◌≡◌, ◌==◌, ◌+◌, ◌∙◌, ◌||◌, ◌<◌, ◌≤◌, ℕ, zero, suc, Option, None, Some, Result, Ok, Err, if◌then◌else◌, take, true≢false, length-append, Bool, true, false, List, [], ◌∷◌, ◌++◌, length, nat_le, refl, sym, ap, subst, arith, append-nil, append_assoc, ⊎_elim}
use Rattle.std.proofs.lemmas.Bool.{cases_lt}
use Rattle.std.proofs.lemmas.List.{length-take, take_all}
use Rattle.std.proofs.lemmas.Bool.Decides.{nat_tests}
use Rattle.std.proofs.KnownBytes.{Appends-nil}
use Rattle.line_engine.specs.AnswerText.{AnswerText}
use Rattle.run_engine.specs.Machines.{BreaksAmong, Goes, going, finished}
use Rattle.run_engine.specs.Seen.{Breaks, Moment, Puts, Seen}
use Rattle.run_engine.specs.Pieces.{HasNone}
use Rattle.fixed_command.specs.Convert.{IsReply}
use Rattle.fixed_command.specs.Message.{message_text}
use Rattle.fixed_command.specs.declared.message.Message.{Message}
use Rattle.fixed_command.specs.Lemmas.ReplyLemmas.{asking_longer, long_reply, reply_one}
use Rattle.fixed_respell.specs.Answer.{fault_message}
use Rattle.fixed_respell.specs.Language.{fault_answer}
use Rattle.fixed_respell.specs.LineWords.{longest_line}
use Rattle.fixed_respell.specs.declared.fault.LineFault.TheVariants.{LineTooLong}
use Rattle.fixed_words.specs.Inner.Progress.{AddsByte, EndsBy, EndsWord, IsAtSamePlace, Passes, TakesByte, TellsIfEnded, start_of}
use Rattle.fixed_report.specs.Report.{Kept}
use Rattle.fixed_command.specs.Observed.{ErrorAddedIf}
use Rattle.fixed_command.specs.Outcome.{has_error, noted}
use Rattle.fixed_command.specs.declared.convert.Settings.{Settings}
use Rattle.fixed_command.specs.declared.outcome.Outcome.{Outcome}
use Rattle.fixed_command.specs.declared.outcome.Tally.{Tally}
use Rattle.fixed_words.specs.Told.{Counts, NotesEnding, NotesWord, PutsReject, Spot, TellsEnding, TellsWord, TellsWords, Told, after_byte, origin, spot_after, spot_of, told_by, told_of}
use Rattle.line_rejects.specs.Rejects.{Sight}
use Rattle.line_rejects.specs.declared.rejects.Rejects.{Rejects}
use Rattle.fixed_command.specs.Rejects.{name_of}
use Rattle.std.specs.Prelude.{option_map}
use Rattle.run_engine.specs.Reply as reply
use Rattle.fixed_words.specs.Run.{Ends, GoesOn, MakesBy, is_piece, last_word}
use Rattle.fixed_words.specs.Words.{AreEnded, Ended, HasNoSeparator, IsEnded, IsEnding, IsWordReply, answer_of, any_refused, bytes_of, is_left, is_refused, is_separator, kept_word, longest_left, shown, written_of}
use Rattle.fixed_words.specs.declared.rule.Ending.{Ending}
use Rattle.fixed_words.specs.declared.rule.Ending.TheVariants.{Converted, Left, Refused}
use Rattle.fixed_words.specs.declared.rule.Leaving.{Leaving}
use Rattle.fixed_words.specs.declared.rule.Leaving.TheVariants.{Everything, NoNumerals, Nothing}
use Rattle.fixed_words.specs.declared.rule.WordRule.{WordRule}
use Rattle.fixed_words.specs.declared.splitter.WordBytes.{WordBytes}
use Rattle.fixed_words.specs.declared.splitter.Words.{Words}

-- ---- one more word
bytes_more : (es : List Ended) (e : Ended) → bytes_of (es ++ e ∷ []) ≡ bytes_of es ++ (e.word ++ e.separator ∷ [])
bytes_more [] e = refl
bytes_more (c ∷ cs) e = ap (λ l. c.word ++ (c.separator ∷ l)) (bytes_more cs e) ∙ sym (append_assoc c.word (c.separator ∷ bytes_of cs) (e.word ++ e.separator ∷ []))

written_more : (es : List Ended) (e : Ended) → written_of (es ++ e ∷ []) ≡ written_of es ++ (e.reply.text ++ e.separator ∷ [])
written_more [] e = refl
written_more (c ∷ cs) e = ap (λ l. c.reply.text ++ (c.separator ∷ l)) (written_more cs e) ∙ sym (append_assoc c.reply.text (c.separator ∷ written_of cs) (e.reply.text ++ e.separator ∷ []))

or_false : (a : Bool) → (a || false) ≡ a
or_false true = refl
or_false false = refl

or_assoc : (a b c : Bool) → ((a || b) || c) ≡ (a || (b || c))
or_assoc true b c = refl
or_assoc false b c = refl

refused_more : (es : List Ended) (e : Ended) → any_refused (es ++ e ∷ []) ≡ (any_refused es || e.reply.fault)
refused_more [] e = or_false e.reply.fault
refused_more (c ∷ cs) e = ap (λ b. c.reply.fault || b) (refused_more cs e) ∙ sym (or_assoc c.reply.fault (any_refused cs) e.reply.fault)

are_more : (s : WordRule) (es : List Ended) (e : Ended) → AreEnded s es → IsEnded s e → AreEnded s (es ++ e ∷ [])
are_more s [] e h k = (k, tt)
are_more s (c ∷ cs) e h k = (h.0, are_more s cs e h.1 k)

unbroken_more : (others word : List ℕ) (b : ℕ) → HasNoSeparator others word → is_separator others b ≡ false → HasNoSeparator others (word ++ b ∷ [])
unbroken_more others [] b h k = (k, tt)
unbroken_more others (c ∷ cs) b h k = (h.0, unbroken_more others cs b h.1 k)

-- ---- the kept bytes of a word
-- all of it, or as many bytes as a line may have
pub record IsKept (word kept : List ℕ) : Type 0 where
  pub whole : length word ≤ longest_line → kept ≡ word
  pub full : longest_line ≤ length word → longest_line ≤ length kept

kept_whole : (n : ℕ) (word kept : List ℕ) → kept ≡ take n word → length word ≤ n → kept ≡ word
kept_whole n word kept is short = is ∙ take_all n word short

kept_full : (n : ℕ) (word kept : List ℕ) → kept ≡ take n word → n ≤ length word → n ≤ length kept
kept_full n word kept is many = omega (arith, length-take n word, ap length is, many)

is_kept : (word kept : List ℕ) → kept ≡ kept_word word → IsKept word kept
unfolding kept_word
is_kept word kept is = record { whole = kept_whole longest_line word kept is; full = kept_full longest_line word kept is }

-- ---- the kept bytes have the answer of the word
-- a word that is not empty has a reply, and its answer follows from the reply
pub record IsAnswered (s : WordRule) (word : List ℕ) (answer : AnswerText) : Type 0 where
  pub reply : AnswerText
  pub replied : IsReply s.rule word reply
  pub is : answer ≡ answer_of s word reply

to_answer : (s : WordRule) (word : List ℕ) (answer : AnswerText) → 0 < length word → IsWordReply s word answer → IsAnswered s word answer
to_answer s [] answer some h = absurd (omega (arith, some))
to_answer s (b ∷ bytes) answer some h = record { reply = h.0; replied = h.1; is = h.2 }

pub of_answer : (s : WordRule) (word : List ℕ) (answer : AnswerText) → 0 < length word → IsAnswered s word answer → IsWordReply s word answer
of_answer s [] answer some h = absurd (omega (arith, some))
of_answer s (b ∷ bytes) answer some h = (h.reply, h.replied, h.is)

long : (s : WordRule) (word : List ℕ) → longest_line ≤ length word → IsReply s.rule word (fault_answer (fault_message LineTooLong))
long s word many = long_reply s.rule word (omega (arith, many, asking_longer s.rule word))

past_left : (n : ℕ) → longest_line ≤ n → nat_le n longest_left ≡ false
past_left n many = grind (arith, nat_tests)

-- a word of `longest_line` bytes or more is never left as it is
not_left : (leaves : Leaving) (word text : List ℕ) → longest_line ≤ length word → is_left leaves word text ≡ false
not_left Nothing word text many = refl
not_left NoNumerals word text many = rw (past_left (length word) many) refl
not_left Everything word text many = past_left (length word) many

token_of : WordRule → AnswerText
token_of s = record { text = s.token; fault = true }

long_answer : (s : WordRule) (word : List ℕ) → longest_line ≤ length word → answer_of s word (fault_answer (fault_message LineTooLong)) ≡ token_of s
unfolding token_of
long_answer s word many = rw (not_left s.leaves word (fault_answer (fault_message LineTooLong)).text many) refl

long_kept : (s : WordRule) (word kept : List ℕ) (answer : AnswerText) → longest_line ≤ length word → longest_line ≤ length kept → IsWordReply s kept answer → IsWordReply s word answer
long_kept s word kept answer many full h =
    let k = to_answer s kept answer (omega (arith, full)) h in
    let fault : AnswerText = fault_answer (fault_message LineTooLong) in
    let same : k.reply ≡ fault = reply_one s.rule kept k.reply fault k.replied (long s kept full) in
    let is : answer ≡ token_of s = k.is ∙ (ap (answer_of s kept) same ∙ long_answer s kept full) in
    of_answer s word answer (omega (arith, many)) (record { reply = fault; replied = long s word many; is = is ∙ sym (long_answer s word many) })

reply_by : (s : WordRule) (word kept : List ℕ) (reply : AnswerText) → IsKept word kept → IsWordReply s kept reply → IsWordReply s word reply
reply_by s word kept reply k h = ⊎_elim
    (λ (less : longest_line < length word). long_kept s word kept reply (omega (arith, less)) (k.full (omega (arith, less))) h)
    (λ (most : length word ≤ longest_line). subst (λ w. IsWordReply s w reply) (k.whole most) h)
    (cases_lt longest_line (length word))

pub reply_kept : (s : WordRule) (word kept : List ℕ) (reply : AnswerText) → kept ≡ kept_word word → IsWordReply s kept reply → IsWordReply s word reply
reply_kept s word kept reply is h = reply_by s word kept reply (is_kept word kept is) h

-- ---- the bytes of a word that are kept
take_more : (n : ℕ) (a b : List ℕ) → n ≤ length a → take n (a ++ b) ≡ take n a
take_more zero a b most = refl
take_more (suc n) [] b most = absurd (omega (arith, most))
take_more (suc n) (x ∷ xs) b most = ap (λ l. x ∷ l) (take_more n xs b (omega (arith, most)))

take_none : (n : ℕ) (none : List ℕ) → none ≡ [] → take n none ≡ none
take_none n none is = take_all n none (omega (arith, ap length is))

pub nothing_kept : kept_word [] ≡ []
unfolding kept_word
nothing_kept = take_none longest_line [] refl

more_by : (n : ℕ) (word kept : List ℕ) (b : ℕ) → length kept < n → kept ≡ take n word → kept ++ b ∷ [] ≡ take n (word ++ b ∷ [])
more_by n word kept b room is =
    let short : length word < n = omega (arith, length-take n word, ap length is, room) in
    ap (λ w. w ++ b ∷ []) (is ∙ take_all n word (omega (arith, short))) ∙ sym (take_all n (word ++ b ∷ []) (omega (arith, length-append word (b ∷ []), short)))

none_by : (n : ℕ) (word kept : List ℕ) (b : ℕ) → n ≤ length kept → kept ≡ take n word → kept ≡ take n (word ++ b ∷ [])
none_by n word kept b full is =
    let many : n ≤ length word = omega (arith, length-take n word, ap length is, full) in
    is ∙ sym (take_more n word (b ∷ []) many)

-- a byte is kept while there is room
pub keep_more : (word kept : List ℕ) (b : ℕ) → length kept < longest_line → kept ≡ kept_word word → kept ++ b ∷ [] ≡ kept_word (word ++ b ∷ [])
unfolding kept_word
keep_more word kept b room is = more_by longest_line word kept b room is

-- and dropped after that
pub keep_none : (word kept : List ℕ) (b : ℕ) → longest_line ≤ length kept → kept ≡ kept_word word → kept ≡ kept_word (word ++ b ∷ [])
unfolding kept_word
keep_none word kept b full is = none_by longest_line word kept b full is

-- ---- positions
spot_append : (at : Spot) (a b : List ℕ) → spot_after at (a ++ b) ≡ spot_after (spot_after at a) b
unfolding spot_after
spot_append at [] b = refl
spot_append at (x ∷ xs) b = spot_append (after_byte at x) xs b

spot_more : (at : Spot) (a : List ℕ) (b : ℕ) → spot_after at (a ++ b ∷ []) ≡ after_byte (spot_after at a) b
unfolding spot_after
spot_more at a b = spot_append at a (b ∷ [])

not_ten : (others : List ℕ) (b : ℕ) (c : Bool) → (b == 10) ≡ c → is_separator others b ≡ false → c ≡ false
not_ten others b true is inner = let ten : b ≡ 10 = grind (arith, nat_tests, is) in absurd (true≢false (subst (λ n. is_separator others n ≡ false) ten inner))
not_ten others b false is inner = refl

no_newline : (others : List ℕ) (b : ℕ) → is_separator others b ≡ false → (b == 10) ≡ false
no_newline others b inner = not_ten others b (b == 10) refl inner

-- a word has no newline, and so stands in one line
line_within : (others : List ℕ) (at : Spot) (word : List ℕ) → HasNoSeparator others word → (spot_after at word).line ≡ at.line
unfolding spot_after
line_within others at [] none = refl
line_within others at (b ∷ bytes) none = line_within others (after_byte at b) bytes none.1 ∙ rw (no_newline others b none.0) refl

-- ---- one more word is told
pub tells_more : (s : WordRule) (at : Spot) (es : List Ended) (e : Ended) (u v w : Told) → TellsWords s at es u v → TellsWord s (spot_after at (bytes_of es)) (kept_word e.word) v w → TellsWords s at (es ++ e ∷ []) u w
unfolding TellsWords spot_after
tells_more s at [] e u v w told one = (w, subst (λ t. TellsWord s at (kept_word e.word) t w) told one, refl)
tells_more s at (c ∷ cs) e u v w (t, first, told) one =
    let next : Spot = spot_after at (c.word ++ c.separator ∷ []) in
    let apart : spot_after at (bytes_of (c ∷ cs)) ≡ spot_after next (bytes_of cs) = ap (spot_after at) (sym (append_assoc c.word (c.separator ∷ []) (bytes_of cs))) ∙ spot_append at (c.word ++ c.separator ∷ []) (bytes_of cs) in
    (t, first, tells_more s next cs e t v w told (subst (λ q. TellsWord s q (kept_word e.word) v w) apart one))

-- ---- the end of a word
shown_fault : (ending : Ending) (s : WordRule) (word reply : List ℕ) → (shown ending s word reply).fault ≡ is_refused ending
shown_fault Converted s word reply = refl
shown_fault (Left cause) s word reply = refl
shown_fault (Refused cause) s word reply = refl

text_is : (reply : AnswerText) (text : List ℕ) → reply.text ≡ text → reply.fault ≡ false → reply ≡ record { text = text; fault = false }
text_is reply text same is =
    let made : List ℕ → Bool → AnswerText = λ t f. record { text = t; fault = f } in
    ap (λ t. made t reply.fault) same ∙ ap (made text) is

refused_as : (s : WordRule) (word : List ℕ) (reply : AnswerText) (left : Bool) → reply.fault ≡ true → is_left s.leaves word reply.text ≡ left
    → answer_of s word reply ≡ (if left then record { text = word; fault = false } else record { text = s.token; fault = true })
refused_as s word reply left fault is = rw fault (rw is refl)

-- the answer to a word with this ending
is_shown : (s : WordRule) (word : List ℕ) (reply : AnswerText) (ending : Ending) (text : List ℕ) → IsEnding s word reply ending → (reply.fault ≡ false → reply.text ≡ text) → answer_of s word reply ≡ shown ending s word text
is_shown s word reply Converted text is same = ap (answer_of s word) (text_is reply text (same is) is)
is_shown s word reply (Left cause) text is same = refused_as s word reply true (ap (λ (r : AnswerText). r.fault) is.0) is.1
is_shown s word reply (Refused cause) text is same = refused_as s word reply false (ap (λ (r : AnswerText). r.fault) is.0) is.1

-- the text of an answer that is not refused
pub same_text : {N C : Type 0} (refusal : C → List ℕ) (text : List ℕ) (result : Result N C) → (reply.answer_of refusal text result).fault ≡ false → (reply.answer_of refusal text result).text ≡ text
same_text refusal text (Ok note) is = refl
same_text refusal text (Err cause) is = absurd (true≢false is)

-- the outcome of a word is noted, if outcomes are kept
pub notes_some : (s : Settings) (ending : Ending) (line : ℕ) (word seen : List ℕ) (tally last : Tally) (errors : Option Kept) (k more : Kept) (noting : Option Outcome) (it : Outcome) → errors ≡ Some k → seen ≡ word → noting ≡ Some it → NotesEnding s ending seen noting
    → last ≡ noted tally line it → ErrorAddedIf (has_error s.spelling it) k line seen more → NotesWord s ending line word tally errors last (Some more)
notes_some s ending line word seen tally last errors k more noting it is same outcome ends tallied added =
    subst (λ e. NotesWord s ending line word tally e last (Some more)) (sym is)
    (subst (λ w. NotesWord s ending line w tally (Some k) last (Some more)) same (Some it, subst (NotesEnding s ending seen) outcome ends, more, refl, (tallied, added)))

pub notes_none : (s : Settings) (ending : Ending) (line : ℕ) (word seen : List ℕ) (tally : Tally) (errors : Option Kept) (k : Kept) (noting : Option Outcome) → errors ≡ Some k → seen ≡ word → noting ≡ None → NotesEnding s ending seen noting
    → NotesWord s ending line word tally errors tally (Some k)
notes_none s ending line word seen tally errors k noting is same outcome ends =
    subst (λ e. NotesWord s ending line word tally e tally (Some k)) (sym is)
    (subst (λ w. NotesWord s ending line w tally (Some k) tally (Some k)) same (None, subst (NotesEnding s ending seen) outcome ends, k, refl, (refl, refl)))

-- what is told of a word with this ending, by what each function leaves
pub tells_ending : (s : WordRule) (ending : Ending) (old mid new : Words) (name last : Option (List ℕ)) (before after : Sight) → Counts ending (start_of old) old.word old.refused old.first mid.refused mid.first → mid.word ≡ old.word → mid.line ≡ old.line
    → mid.tally ≡ old.tally → mid.errors ≡ old.errors → NotesWord s.rule ending mid.line mid.word mid.tally mid.errors new.tally new.errors → new.refused ≡ mid.refused → new.first ≡ mid.first
    → PutsReject ending name (start_of old) old.word before after → last ≡ name → TellsEnding s ending (start_of old) old.word (told_by old name before) (told_by new last after)
tells_ending s ending old mid new name last before after counts word line tally errors notes refused first puts same = record {
  counts = subst (λ n. Counts ending (start_of old) old.word old.refused old.first n new.first) (sym refused)
      (subst (λ f. Counts ending (start_of old) old.word old.refused old.first mid.refused f) (sym first) counts);
  notes = subst (λ n. NotesWord s.rule ending n old.word old.tally old.errors new.tally new.errors) line
      (subst (λ w. NotesWord s.rule ending mid.line w old.tally old.errors new.tally new.errors) word
      (subst (λ t. NotesWord s.rule ending mid.line mid.word t old.errors new.tally new.errors) tally
      (subst (λ k. NotesWord s.rule ending mid.line mid.word mid.tally k new.tally new.errors) errors notes)));
  puts = puts;
  name = same;
}

-- a word that is not empty was answered
pub ends_word : (s : WordRule) (word ends : List ℕ) (old new : Words) (reply : AnswerText) (ending : Ending) (text : List ℕ) (Sent : List ℕ → Type 0) → 0 < length word → IsReply s.rule word reply → IsEnding s word reply ending
    → (reply.fault ≡ false → reply.text ≡ text) → new.has_fault ≡ (old.has_fault || is_refused ending) → Sent ((shown ending s word text).text ++ ends) → EndsWord s word ends old new Sent
ends_word s word ends old new reply ending text Sent some replied is same faulty sent = record {
  reply = shown ending s word text;
  replied = of_answer s word (shown ending s word text) some (record { reply = reply; replied = replied; is = sym (is_shown s word reply ending text is same) });
  fault = faulty ∙ ap (λ b. old.has_fault || b) (sym (shown_fault ending s word text));
  sent = sent;
}

-- it was told
pub tells_word : (s : WordRule) (at : Spot) (word : List ℕ) (reply : AnswerText) (ending : Ending) (u v : Told) → 0 < length word → IsReply s.rule word reply → IsEnding s word reply ending → TellsEnding s ending at word u v → TellsWord s at word u v
tells_word s at [] reply ending u v some replied is told = absurd (omega (arith, some))
tells_word s at (b ∷ bytes) reply ending u v some replied is told = (reply, replied, ending, is, told)

-- both, by what a rule returned for the word
module _ (s : WordRule) (old new : Words) (ends first second third start text shows : List ℕ) (replied : Result (Unit {0}) Message) (ending : Ending) (some : 0 < length old.word) (first_is : first ≡ old.word) (second_is : second ≡ old.word) (start_is : start ≡ [])
    (r : reply.Replies (IsReply s.rule) message_text 192 first start text replied) (is : (t : List ℕ) → IsEnding s second (reply.answer_of (message_text second) t replied) ending) where
  abbrev pub raw : AnswerText
  raw = reply.answer_of (message_text old.word) r.text replied

  answers : IsReply s.rule old.word raw
  answers = subst (λ w. IsReply s.rule w (reply.answer_of (message_text w) r.text replied)) first_is r.answer

  ends_so : IsEnding s old.word raw ending
  ends_so = subst (λ w. IsEnding s w (reply.answer_of (message_text w) r.text replied) ending) second_is (is r.text)

  pub answered_word : (Sent : List ℕ → Type 0) → shows ≡ text → third ≡ old.word → new.has_fault ≡ (old.has_fault || is_refused ending) → Sent ((shown ending s third shows).text ++ ends) → EndsWord s old.word ends old new Sent
  answered_word Sent shows_is third_is faulty sent =
      let appended : shows ≡ r.text = shows_is ∙ (r.appended ∙ ap (λ l. l ++ r.text) start_is) in
      ends_word s old.word ends old new raw ending shows Sent some answers ends_so (λ clean. same_text (message_text old.word) r.text replied clean ∙ sym appended) faulty
      (subst (λ w. Sent ((shown ending s w shows).text ++ ends)) third_is sent)

  pub told_word : (u v : Told) → TellsEnding s ending (start_of old) old.word u v → TellsWord s (start_of old) old.word u v
  told_word u v told = tells_word s (start_of old) old.word raw ending u v some answers ends_so told

pub name_same : {J : Type 0} (a b : Rejects J) → b.name ≡ a.name → name_of b ≡ name_of a
name_same a b same = ap (λ n. option_map (λ l. l.now) n) same

pub same_place : (u : Words) → IsAtSamePlace u u
same_place u = record { line = refl; byte = refl; start = refl }

-- an empty word
pub ends_none : (s : WordRule) (ends : List ℕ) (u : Words) (Sent : List ℕ → Type 0) → u.word ≡ [] → Sent ends → EndsWord s u.word ends u u Sent
ends_none s ends u Sent none sent = record {
  reply = record { text = []; fault = false };
  replied = subst (λ w. IsWordReply s w (record { text = []; fault = false })) (sym none) refl;
  fault = sym (or_false u.has_fault);
  sent = sent;
}

pub tells_none : (s : WordRule) (at : Spot) (word : List ℕ) (u : Told) → word ≡ [] → TellsWord s at word u u
tells_none s at word u none = subst (λ w. TellsWord s at w u u) (sym none) refl

-- what is kept of the word itself does not matter
pub ends_same : (s : WordRule) (word ends : List ℕ) (old mid new : Words) (Sent : List ℕ → Type 0) → new.has_fault ≡ mid.has_fault → EndsWord s word ends old mid Sent → EndsWord s word ends old new Sent
ends_same s word ends old mid new Sent fault e = record { reply = e.reply; replied = e.replied; fault = fault ∙ e.fault; sent = e.sent }

-- the word that a machine keeps, after these bytes, is told where it begins
module _ (s : WordRule) (first : Told) (bytes made : List ℕ) (old : Words) (mid : Told) (h : GoesOn s first bytes made old mid) where
  abbrev pub begins : Spot
  begins = spot_after origin (bytes_of h.words)

  line_is : old.line ≡ begins.line
  line_is = ap (λ (q : Spot). q.line) h.spot ∙ (ap (λ l. (spot_after origin l).line) h.cut
      ∙ (ap (λ (q : Spot). q.line) (spot_append origin (bytes_of h.words) h.rest) ∙ line_within s.separators.now begins h.rest h.unbroken))

  start_is : start_of old ≡ begins
  start_is =
      let spot : ℕ → ℕ → Spot = λ line byte. record { line = line; byte = byte } in
      ap (λ n. spot n old.start) line_is ∙ ap (spot begins.line) h.start

  -- all words and the one that ends are told
  pub tells_all : (e : Ended) (last : Told) → e.word ≡ h.rest → TellsWord s (start_of old) old.word mid last → TellsWords s origin (h.words ++ e ∷ []) first last
  tells_all e last word one = tells_more s origin h.words e first mid last h.tells
      (subst (λ w. TellsWord s begins w mid last) (h.kept ∙ ap kept_word (sym word)) (subst (λ q. TellsWord s q old.word mid last) start_is one))

-- ---- one more byte
passed : (s : WordRule) (b : ℕ) (old mid new : Words) → IsAtSamePlace old mid → Passes b mid new → (bytes : List ℕ) → spot_of old ≡ spot_after origin bytes → spot_of new ≡ spot_after origin (bytes ++ b ∷ [])
passed s b old mid new place p bytes spot =
    let made : ℕ → ℕ → Spot = λ line byte. record { line = line; byte = byte } in
    let same : spot_of mid ≡ spot_of old = ap (λ n. made n mid.byte) place.line ∙ ap (λ n. made old.line n) place.byte in
    p.spot ∙ (ap (λ q. after_byte q b) (same ∙ spot) ∙ sym (spot_more origin bytes b))

not_empty : (word : List ℕ) (b : ℕ) (kept : List ℕ) → IsKept (word ++ b ∷ []) kept → (length kept == 0) ≡ false
not_empty word b kept k = ⊎_elim
    (λ (less : longest_line < length (word ++ b ∷ [])). let full : longest_line ≤ length kept = k.full (omega (arith, less)) in grind (arith, nat_tests, full))
    (λ (most : length (word ++ b ∷ []) ≤ longest_line). let same : length kept ≡ length word + 1 = ap length (k.whole most) ∙ length-append word (b ∷ []) in grind (arith, nat_tests, same))
    (cases_lt longest_line (length (word ++ b ∷ [])))

-- the byte is part of a word
pub takes_part : (s : WordRule) (b : ℕ) (old mid new : Words) (u v : Told) (Sent : List ℕ → Type 0) → AddsByte s b old mid Sent → IsAtSamePlace old mid → TellsIfEnded (is_separator s.separators.now b) s old u v → Passes b mid new
    → TakesByte s b old new u v Sent
takes_part s b old mid new u v Sent t place told p = record {
  more = [];
  goes = λ first bytes made h.
      let kept : mid.word ≡ kept_word (h.rest ++ b ∷ []) = t.kept h.rest h.kept in
      let same : v ≡ u = subst (λ ends. TellsIfEnded ends s old u v) t.inner told in
      record {
        words = h.words;
        are = h.are;
        rest = h.rest ++ b ∷ [];
        unbroken = unbroken_more s.separators.now h.rest b h.unbroken t.inner;
        kept = p.word ∙ kept;
        cut = ap (λ w. w ++ b ∷ []) h.cut ∙ append_assoc (bytes_of h.words) h.rest (b ∷ []);
        text_is = append-nil made ∙ h.text_is;
        faulty = p.fault ∙ (t.fault ∙ h.faulty);
        tells = subst (TellsWords s origin h.words first) (sym same) h.tells;
        spot = passed s b old mid new place p bytes h.spot;
        start = p.start ∙ (rw (not_empty h.rest b mid.word (is_kept (h.rest ++ b ∷ []) mid.word kept)) (place.start ∙ h.start));
      };
  sent = t.sent;
}

-- the byte ends a word
pub takes_end : (s : WordRule) (b : ℕ) (old mid new : Words) (u v : Told) (Sent : List ℕ → Type 0) → EndsBy s b old mid Sent → IsAtSamePlace old mid → TellsIfEnded (is_separator s.separators.now b) s old u v → Passes b mid new
    → TakesByte s b old new u v Sent
takes_end s b old mid new u v Sent t place told p = record {
  more = t.word.reply.text ++ b ∷ [];
  goes = λ first bytes made h.
      let e = t.word in
      let ended : Ended = record { word = h.rest; separator = b; reply = e.reply } in
      let more : List Ended = h.words ++ ended ∷ [] in
      let cut : bytes ++ b ∷ [] ≡ bytes_of more = ap (λ w. w ++ b ∷ []) h.cut ∙ (append_assoc (bytes_of h.words) h.rest (b ∷ []) ∙ sym (bytes_more h.words ended)) in
      let none : new.word ≡ [] = p.word ∙ t.none in
      let spot : spot_of new ≡ spot_after origin (bytes ++ b ∷ []) = passed s b old mid new place p bytes h.spot in
      let one : TellsWord s (start_of old) old.word u v = subst (λ ends. TellsIfEnded ends s old u v) t.ends told in
      record {
        words = more;
        are = are_more s h.words ended h.are (record { unbroken = h.unbroken; separates = t.ends; replied = reply_kept s h.rest old.word e.reply h.kept e.replied });
        rest = [];
        unbroken = tt;
        kept = none ∙ sym nothing_kept;
        cut = cut ∙ sym (append-nil (bytes_of more));
        text_is = ap (λ l. l ++ (e.reply.text ++ b ∷ [])) h.text_is ∙ sym (written_more h.words ended);
        faulty = p.fault ∙ (e.fault ∙ (ap (λ f. f || e.reply.fault) h.faulty ∙ sym (refused_more h.words ended)));
        tells = tells_all s first bytes made old u h ended v refl one;
        spot = spot;
        start = p.start ∙ (rw (ap length t.none) (ap (λ (q : Spot). q.byte) spot ∙ ap (λ l. (spot_after origin l).byte) cut));
      };
  sent = t.word.sent;
}

-- ---- the pieces of a run
pub puts_none : (a : Seen) (held : List ℕ) → Puts a a held held []
puts_none a held = record {
  gone = [];
  split = append-nil held;
  written = Appends-nil a.written;
  failures = refl;
  source = record { left = refl; asked = refl; failures = refl; same = record { source = refl; sink = refl } };
}

-- no byte is left before the end of a piece
pub none_left : (part : List ℕ) → HasNone is_piece part → part ≡ []
none_left [] none = refl
none_left (b ∷ bytes) none = let no : true ≡ false = none.0 in absurd cc

module _ {J : Type 0} (written : J → Option (List ℕ)) (failures : J → ℕ) (first old new : WordBytes J) (bytes made : List ℕ) (spent : ℕ) (a b : Moment) (same : new.rule ≡ old.rule) (makes : MakesBy written failures first bytes made spent going old) where
  abbrev pub told : WordBytes J → Told
  told it = told_of written failures it.words it.rejects

  rule_of : new.rule ≡ first.rule
  rule_of = same ∙ makes.0

  -- the words after one more byte
  byte_made : (byte : ℕ) (Sent : List ℕ → Type 0) (t : TakesByte old.rule.now byte old.words new.words (told_of written failures old.words old.rejects) (told_of written failures new.words new.rejects) Sent) → GoesOn first.rule.now (told first) (bytes ++ byte ∷ []) (made ++ t.more) new.words (told new)
  byte_made byte Sent t =
      let before : GoesOn old.rule.now (told first) bytes made old.words (told old) = subst (λ r. GoesOn r.now (told first) bytes made old.words (told old)) (sym makes.0) makes.1 in
      subst (λ r. GoesOn r.now (told first) (bytes ++ byte ∷ []) (made ++ t.more) new.words (told new)) makes.0 (t.goes (told first) bytes made before)

  pub byte_goes : (byte : ℕ) → TakesByte old.rule.now byte old.words new.words (told_of written failures old.words old.rejects) (told_of written failures new.words new.rejects) (Puts a.seen b.seen a.held b.held) → Goes (MakesBy written failures first) bytes made spent (byte ∷ []) going new a b
  byte_goes byte t = record { more = t.more; cost = b.steps; makes = (rule_of, byte_made byte (Puts a.seen b.seen a.held b.held) t); puts = t.sent; steps = omega arith }

  pub byte_breaks : (byte : ℕ) → TakesByte old.rule.now byte old.words new.words (told_of written failures old.words old.rejects) (told_of written failures new.words new.rejects) (Breaks a.seen b.seen a.held) → BreaksAmong (MakesBy written failures first) false bytes made spent (byte ∷ []) new a b
  byte_breaks byte t = record {
    some = byte ∷ [];
    rest = [];
    cut = refl;
    how = going;
    uses = tt;
    more = t.more;
    cost = b.steps;
    makes = (rule_of, byte_made byte (Breaks a.seen b.seen a.held) t);
    breaks = t.sent;
    steps = omega arith;
  }

  -- the end of the input
  all_made : (Sent : List ℕ → Type 0) (e : EndsWord old.rule.now old.words.word [] old.words new.words Sent) → TellsWord old.rule.now (start_of old.words) old.words.word (told old) (told new)
      → Ends first.rule.now (told first) (bytes ++ []) (made ++ (e.reply.text ++ [])) new.words.has_fault (told new)
  all_made Sent e tells =
      let h : GoesOn first.rule.now (told first) bytes made old.words (told old) = makes.1 in
      let replied : IsWordReply first.rule.now old.words.word e.reply = subst (λ r. IsWordReply r.now old.words.word e.reply) makes.0 e.replied in
      let last : Ended = last_word h.rest e.reply in
      record {
        worded = record {
          words = h.words;
          are = h.are;
          rest = h.rest;
          unbroken = h.unbroken;
          cut = append-nil bytes ∙ h.cut;
          last = e.reply;
          replied = reply_kept first.rule.now h.rest old.words.word e.reply h.kept replied;
          text_is = ap (λ l. made ++ l) (append-nil e.reply.text) ∙ ap (λ l. l ++ e.reply.text) h.text_is;
          fault_is = e.fault ∙ ap (λ f. f || e.reply.fault) h.faulty;
        };
        tells = tells_all first.rule.now (told first) bytes made old.words (told old) h last (told new) refl
            (subst (λ r. TellsWord r.now (start_of old.words) old.words.word (told old) (told new)) makes.0 tells);
      }

  pub end_goes : TellsWord old.rule.now (start_of old.words) old.words.word (told_of written failures old.words old.rejects) (told_of written failures new.words new.rejects)
      → EndsWord old.rule.now old.words.word [] old.words new.words (Puts a.seen b.seen a.held b.held) → Goes (MakesBy written failures first) bytes made spent [] (finished new.words.has_fault) new a b
  end_goes tells e = record { more = e.reply.text ++ []; cost = b.steps; makes = (rule_of, all_made (Puts a.seen b.seen a.held b.held) e tells); puts = e.sent; steps = omega arith }

  pub end_breaks : TellsWord old.rule.now (start_of old.words) old.words.word (told_of written failures old.words old.rejects) (told_of written failures new.words new.rejects)
      → EndsWord old.rule.now old.words.word [] old.words new.words (Breaks a.seen b.seen a.held) → BreaksAmong (MakesBy written failures first) true bytes made spent [] new a b
  end_breaks tells e = record {
    some = [];
    rest = [];
    cut = refl;
    how = finished new.words.has_fault;
    uses = (refl, refl);
    more = e.reply.text ++ [];
    cost = b.steps;
    makes = (rule_of, all_made (Breaks a.seen b.seen a.held) e tells);
    breaks = e.sent;
    steps = omega arith;
  }
