-- Lines answered one after the other.
use Rattle.std.proofs.Common.{Err, Ok, Result, length-append, true, ◌≡◌, ◌-◌, ◌∙◌, ◌||◌, ◌<◌, ◌≤◌, ◌∷◌, ◌++◌, [], ℕ, Bool, false, not, List, ap, append-nil, arith, length, map, refl, subst, sym, take, ⊎_elim}
use Rattle.std.proofs.lemmas.Bool.{cases_lt, lt-leb}
use Rattle.std.proofs.lemmas.List.{length-take, take_all}
use Rattle.line_engine.proofs.Public.{AreAnswers-append, any_fault-append, ended_lines_line, ended_lines_quiet, nothing_kept, take_kept, unended_line, unended_quiet, written_of-append}
use Rattle.line_engine.specs.AnswerText.{AnswerText}
use Rattle.line_engine.specs.Lines.{ended_lines, kept_length, last_line, lines, unended}
use Rattle.line_engine.specs.Output.{any_fault, reply_line, written_of}
use Rattle.run_engine.proofs.Public.{puts_none}
use Rattle.run_engine.specs.Machines.{BreaksAmong, Feeds, Goes, GoesAmong, Halts, finished, going}
use Rattle.run_engine.specs.Seen.{Breaks, Moment, Puts}
use Rattle.run_engine.specs.declared.machine.Halt.{Halt}
use Rattle.run_engine.specs.declared.machine.Halt.TheVariants.{NoMemory, Stopped, WriteFault}
use Rattle.std.specs.declared.convert.Infallible.{Infallible}
use Rattle.fixed_command.specs.Layout.{is_skipped}
use Rattle.json_lines.specs.Answers.{AnswersShort, IsJsonAnswer, fault_text, longest, refusal}
use Rattle.json_lines.specs.Inner.Made.{IsMade, is_refused}
use Rattle.json_lines.specs.Inner.Progress.{EndsLine, LineEnds, NotesLine}
use Rattle.json_lines.specs.Path.{step_of}
use Rattle.json_lines.specs.Told.{HasReply, IsStop, IsWithin, SeesLine, SeesLineValues, SeesLines, SeesRefused, Sight, Told, count_after, first_after, refused_after, report_of, told_of}
use Rattle.line_engine.specs.Memory.{next_count}
use Rattle.json_lines.specs.Run.{Answers, AnswersLines, MakesBy}
use Rattle.json_lines.specs.declared.answer.Refused.{Refused}
use Rattle.column_engine.specs.declared.watch.FieldPlace.{FieldPlace}
use Rattle.json_lines.specs.declared.answer.Refused.TheVariants.{Line}
use Rattle.json_lines.specs.declared.fault.JsonFault.{JsonFault}
use Rattle.json_lines.specs.declared.fault.JsonFault.TheVariants.{LineTooLong}
use Rattle.json_lines.specs.declared.refusals.JsonRefusals.{JsonRefusals}
use Rattle.json_lines.specs.declared.splitter.JsonLines.{JsonLines}
use Rattle.json_lines.specs.declared.task.JsonTask.{JsonTask}
use Rattle.json_lines.proofs.AnswerLemmas.{too_long}

or_false : (b : Bool) → (b || false) ≡ b
or_false b = grind arith

-- ---- one more line
module _ (B : List ℕ → AnswerText → Type 0) where
  pub answers_none : AnswersLines B [] [] false
  answers_none = record { replies = []; answers = tt; text_is = refl; faulty = refl }

  answers_more : (ls : List (List ℕ)) (text : List ℕ) (fault now : Bool) (line : List ℕ) (reply : AnswerText) → AnswersLines B ls text fault → B line reply → now ≡ (fault || reply.fault)
      → AnswersLines B (ls ++ line ∷ []) (text ++ reply_line reply) now
  answers_more ls text fault now line reply made one is = record {
    replies = made.replies ++ reply ∷ [];
    answers = AreAnswers-append B ls (line ∷ []) made.replies (reply ∷ []) made.answers (one, tt);
    text_is = ap (λ l. l ++ reply_line reply) made.text_is ∙ (ap (λ l. written_of made.replies ++ l) (sym (append-nil (reply_line reply))) ∙ sym (written_of-append made.replies (reply ∷ [])));
    faulty = is ∙ (ap (λ f. f || reply.fault) made.faulty ∙ (ap (λ f. any_fault made.replies || f) (sym (or_false reply.fault)) ∙ sym (any_fault-append made.replies (reply ∷ []))));
  }

module _ {R : Type 0} (A : List ℕ → AnswerText → Type 0) where
  -- ---- a line that is longer than what is kept of it
  long_by_its_prefix : (task : JsonTask R) (line : List ℕ) (reply : AnswerText) → kept_length < length line → Answers A task (take kept_length line) reply → Answers A task line reply
  long_by_its_prefix task line reply long answer =
      let steps = map step_of task.steps.now in
      let part = take kept_length line in
      let many : longest < length part = omega (arith, length-take kept_length line, long) in
      let is : reply ≡ refusal LineTooLong = subst (λ b. AnswersShort b (is_skipped task.form.layout.now part) steps task.form A part reply) (ap not (lt-leb (length part) longest many)) answer in
      subst (IsJsonAnswer steps task.form A line) (sym is) (too_long steps task.form A line (omega (arith, long)))

  answer_kept : (task : JsonTask R) (line : List ℕ) (reply : AnswerText) → Answers A task (take kept_length line) reply → Answers A task line reply
  answer_kept task line reply answer = ⊎_elim
      (λ (long : kept_length < length line). long_by_its_prefix task line reply long answer)
      (λ (short : length line ≤ kept_length). subst (λ l. Answers A task l reply) (take_all kept_length line short) answer)
      (cases_lt kept_length (length line))

-- ---- one more line is told
module _ {R W : Type 0} (task : JsonTask R) (A : List ℕ → AnswerText → Type 0) (Saw : Sight W) where
  sees_more : (count : ℕ) (ls : List (List ℕ)) (line : List ℕ) (watch mid last : Told W) → SeesLines task A Saw count ls watch mid → SeesLine task A Saw (next_count (count_after count ls)) (take kept_length line) mid last
      → SeesLines task A Saw count (ls ++ line ∷ []) watch last
  unfolding SeesLines count_after
  sees_more count [] line watch mid last sees one = (last, subst (λ w. SeesLine task A Saw (next_count count) (take kept_length line) w last) sees one, refl)
  sees_more count (l ∷ ls) line watch mid last (next, first, sees) one = (next, first, sees_more (next_count count) ls line next mid last sees one)

-- a line that is refused as a whole is told
pub told_as : {W : Type 0} (Saw : Sight W) (place place' : FieldPlace) (seen shown line text text' : List ℕ) (watch last : W) → place ≡ place' → shown ≡ take longest seen → seen ≡ line → text ≡ text'
    → Saw watch place shown (record { text = text; fault = true }) last → Saw watch place' (take longest line) (record { text = text'; fault = true }) last
told_as Saw place place' seen shown line text text' watch last place_is shown_is seen_is text_is saw =
    subst (λ q. Saw watch q (take longest line) (record { text = text'; fault = true }) last) place_is
    (subst (λ l. Saw watch place l (record { text = text'; fault = true }) last) (shown_is ∙ ap (take longest) seen_is)
    (subst (λ t. Saw watch place shown (record { text = t; fault = true }) last) text_is saw))

pub tells_line : {W : Type 0} (Saw : Sight W) (refused : Refused) (fault : JsonFault) (lines number stop : ℕ) (line : List ℕ) (watch last : W) → refused ≡ Line fault → number ≡ next_count lines
    → Saw watch (record { «record» = number; line = number; column = stop - 1 }) (take longest line) (record { text = fault_text fault; fault = true }) last → SeesRefused refused stop Saw (next_count lines) line watch last
tells_line Saw refused fault lines number stop line watch last is number_is saw =
    subst (λ r. SeesRefused r stop Saw (next_count lines) line watch last) (sym is)
    (subst (λ n. Saw watch (record { «record» = n; line = n; column = stop - 1 }) (take longest line) (record { text = fault_text fault; fault = true }) last) number_is saw)

-- the note of a line
pub notes_line : {R W : Type 0} (Saw : Sight W) (refused : Refused) (stop : ℕ) (old new : JsonLines R W) (mid : JsonRefusals) (line reply : List ℕ) → IsStop refused line stop → SeesRefused refused stop Saw (next_count old.refusals.lines) old.line old.observer new.observer → new.refusals ≡ mid
    → mid.count ≡ refused_after refused old.refusals.count → line ≡ old.line → reply ≡ old.space.reply → (IsWithin refused line → mid.first ≡ first_after old.refusals.first (report_of (next_count old.refusals.lines) refused stop line reply)) → NotesLine Saw refused old new
notes_line Saw refused stop old new mid line reply stops sees is count line_is reply_is first = record {
  stop = stop;
  stops = subst (λ l. IsStop refused l stop) line_is stops;
  sees = sees;
  count = ap (λ (r : JsonRefusals). r.count) is ∙ count;
  first = λ within. ap (λ (r : JsonRefusals). r.first) is ∙ (first (subst (IsWithin refused) (sym line_is) within)
      ∙ (ap (λ l. first_after old.refusals.first (report_of (next_count old.refusals.lines) refused stop l reply)) line_is ∙ ap (λ l. first_after old.refusals.first (report_of (next_count old.refusals.lines) refused stop old.line l)) reply_is));
}

-- a line was answered, and noted
pub sees_line : {R W : Type 0} (task : JsonTask R) (A : List ℕ → AnswerText → Type 0) (Saw : Sight W) (number count : ℕ) (line : List ℕ) (refused : Refused) (watch : W) (before after : JsonLines R W) → count ≡ before.refusals.lines → number ≡ next_count count → line ≡ before.line
    → SeesLineValues task A Saw number line watch refused before.observer → HasReply refused A line before.space.reply → IsWithin refused line → NotesLine Saw refused before after
    → SeesLine task A Saw (next_count before.refusals.lines) line (record { observer = watch; refused = before.refusals.count; first = before.refusals.first }) (told_of after)
sees_line task A Saw number count line refused watch before after count_is number_is line_is values replied within notes = record {
  refused = refused;
  next = before.observer;
  values = subst (λ n. SeesLineValues task A Saw n line watch refused before.observer) (number_is ∙ ap next_count count_is) values;
  stop = notes.stop;
  stops = subst (λ l. IsStop refused l notes.stop) (sym line_is) notes.stops;
  whole = subst (λ l. SeesRefused refused notes.stop Saw (next_count before.refusals.lines) l before.observer after.observer) (sym line_is) notes.sees;
  reply = before.space.reply;
  replied = replied;
  count = notes.count;
  first = notes.first (subst (IsWithin refused) line_is within) ∙ ap (λ l. first_after before.refusals.first (report_of (next_count before.refusals.lines) refused notes.stop l before.space.reply)) (sym line_is);
}

count_more : (count : ℕ) (ls : List (List ℕ)) (line : List ℕ) → count_after count (ls ++ line ∷ []) ≡ next_count (count_after count ls)
unfolding count_after
count_more count [] line = refl
count_more count (l ∷ ls) line = count_more (next_count count) ls line

module _ {R W : Type 0} (A : List ℕ → AnswerText → Type 0) (Saw : Sight W) where
  -- before the first line
  pub fresh : (first : JsonLines R W) → first.line ≡ [] → first.has_fault ≡ false → MakesBy A Saw first [] [] 0 going first
  unfolding SeesLines count_after
  fresh first none clean = (
    refl,
    record {
      made = subst (AnswersLines (Answers A first.task.now) [] []) (sym clean) (answers_none (Answers A first.task.now));
      line = none ∙ sym (nothing_kept kept_length);
      count = refl;
      sees = refl;
    },
  )

  -- ---- the end of a line
  module _ (first old new : JsonLines R W) (bytes made : List ℕ) (spent : ℕ) (part : List ℕ) (makes : MakesBy A Saw first bytes made spent going old) (Sent : List ℕ → Type 0) (ends : EndsLine (Answers A old.task.now) (SeesLine old.task.now A Saw) part old new Sent) where
    answered : Answers A first.task.now (unended bytes ++ part) ends.reply
    answered = subst (λ (t : JsonTask R). Answers A t (unended bytes ++ part) ends.reply) (ap (λ t. t.now) makes.0)
        (answer_kept A old.task.now (unended bytes ++ part) ends.reply
        (subst (λ l. Answers A old.task.now l ends.reply) (ap (λ l. take kept_length (l ++ part)) makes.1.line ∙ take_kept kept_length (unended bytes) part) ends.answer))

    one_more : (ls : List (List ℕ)) → AnswersLines (Answers A first.task.now) ls made old.has_fault → AnswersLines (Answers A first.task.now) (ls ++ (unended bytes ++ part) ∷ []) (made ++ reply_line ends.reply) new.has_fault
    one_more ls answers = answers_more (Answers A first.task.now) ls made old.has_fault new.has_fault (unended bytes ++ part) ends.reply answers answered ends.fault

    one_seen : (ls : List (List ℕ)) → old.refusals.lines ≡ count_after first.refusals.lines ls → SeesLines first.task.now A Saw first.refusals.lines ls (told_of first) (told_of old)
        → SeesLines first.task.now A Saw first.refusals.lines (ls ++ (unended bytes ++ part) ∷ []) (told_of first) (told_of new)
    one_seen ls count sees = sees_more first.task.now A Saw first.refusals.lines ls (unended bytes ++ part) (told_of first) (told_of old) (told_of new) sees
        (subst (λ n. SeesLine first.task.now A Saw (next_count n) (take kept_length (unended bytes ++ part)) (told_of old) (told_of new)) count
        (subst (λ l. SeesLine first.task.now A Saw (next_count old.refusals.lines) l (told_of old) (told_of new)) (ap (λ l. take kept_length (l ++ part)) makes.1.line ∙ take_kept kept_length (unended bytes) part)
        (subst (λ (t : JsonTask R). SeesLine t A Saw (next_count old.refusals.lines) (take kept_length (old.line ++ part)) (told_of old) (told_of new)) (ap (λ t. t.now) makes.0) ends.sees)))

    one_count : (ls : List (List ℕ)) → old.refusals.lines ≡ count_after first.refusals.lines ls → new.refusals.lines ≡ count_after first.refusals.lines (ls ++ (unended bytes ++ part) ∷ [])
    one_count ls count = ends.count ∙ (ap next_count count ∙ sym (count_more first.refusals.lines ls (unended bytes ++ part)))

    pub makes_line : ended_lines part ≡ [] → MakesBy A Saw first (bytes ++ (part ++ 10 ∷ [])) (made ++ reply_line ends.reply) spent going new
    makes_line quiet = (
      ends.task ∙ makes.0,
      record {
        made = subst (λ ls. AnswersLines (Answers A first.task.now) ls (made ++ reply_line ends.reply) new.has_fault) (sym (ended_lines_line bytes part [] quiet)) (one_more (ended_lines bytes) makes.1.made);
        line = ends.line ∙ sym (ap (take kept_length) (unended_line bytes part [] quiet) ∙ nothing_kept kept_length);
        count = one_count (ended_lines bytes) makes.1.count ∙ ap (count_after first.refusals.lines) (sym (ended_lines_line bytes part [] quiet));
        sees = subst (λ ls. SeesLines first.task.now A Saw first.refusals.lines ls (told_of first) (told_of new)) (sym (ended_lines_line bytes part [] quiet)) (one_seen (ended_lines bytes) makes.1.count makes.1.sees);
      },
    )

    -- the last line, without a newline
    pub makes_last : part ≡ [] → (unended bytes ++ []) ∷ [] ≡ last_line (unended bytes) → MakesBy A Saw first (bytes ++ []) (made ++ reply_line ends.reply) spent (finished new.has_fault) new
    makes_last none some = (
      ends.task ∙ makes.0,
      (
        subst (λ l. AnswersLines (Answers A first.task.now) (lines l) (made ++ reply_line ends.reply) new.has_fault) (sym (append-nil bytes))
            (subst (λ ls. AnswersLines (Answers A first.task.now) (ended_lines bytes ++ ls) (made ++ reply_line ends.reply) new.has_fault) (ap (λ l. (unended bytes ++ l) ∷ []) none ∙ some) (one_more (ended_lines bytes) makes.1.made)),
        subst (λ l. SeesLines first.task.now A Saw first.refusals.lines (lines l) (told_of first) (told_of new)) (sym (append-nil bytes))
            (subst (λ ls. SeesLines first.task.now A Saw first.refusals.lines (ended_lines bytes ++ ls) (told_of first) (told_of new)) (ap (λ l. (unended bytes ++ l) ∷ []) none ∙ some) (one_seen (ended_lines bytes) makes.1.count makes.1.sees)),
      ),
    )

    -- ---- the machine after it
    pub line_goes : (a b : Moment) → ended_lines part ≡ [] → Sent (reply_line ends.reply) → ((text : List ℕ) → Sent text → Puts a.seen b.seen a.held b.held text) → Goes (MakesBy A Saw first) bytes made spent (part ++ 10 ∷ []) going new a b
    line_goes a b quiet sent puts = record { more = reply_line ends.reply; cost = b.steps; makes = makes_line quiet; puts = puts (reply_line ends.reply) sent; steps = omega arith }

    pub line_breaks : (a b : Moment) → ended_lines part ≡ [] → Sent (reply_line ends.reply) → ((text : List ℕ) → Sent text → Breaks a.seen b.seen a.held text) → BreaksAmong (MakesBy A Saw first) false bytes made spent (part ++ 10 ∷ []) new a b
    line_breaks a b quiet sent breaks = record {
      some = part ++ 10 ∷ [];
      rest = [];
      cut = sym (append-nil (part ++ 10 ∷ []));
      how = going;
      uses = tt;
      more = reply_line ends.reply;
      cost = b.steps;
      makes = makes_line quiet;
      breaks = breaks (reply_line ends.reply) sent;
      steps = omega arith;
    }

    pub last_goes : (a b : Moment) → part ≡ [] → (unended bytes ++ []) ∷ [] ≡ last_line (unended bytes) → Sent (reply_line ends.reply) → ((text : List ℕ) → Sent text → Puts a.seen b.seen a.held b.held text)
        → Goes (MakesBy A Saw first) bytes made spent [] (finished new.has_fault) new a b
    last_goes a b none some sent puts = record { more = reply_line ends.reply; cost = b.steps; makes = makes_last none some; puts = puts (reply_line ends.reply) sent; steps = omega arith }

    pub last_breaks : (a b : Moment) → part ≡ [] → (unended bytes ++ []) ∷ [] ≡ last_line (unended bytes) → Sent (reply_line ends.reply) → ((text : List ℕ) → Sent text → Breaks a.seen b.seen a.held text)
        → BreaksAmong (MakesBy A Saw first) true bytes made spent [] new a b
    last_breaks a b none some sent breaks = record {
      some = [];
      rest = [];
      cut = refl;
      how = finished new.has_fault;
      uses = (refl, refl);
      more = reply_line ends.reply;
      cost = b.steps;
      makes = makes_last none some;
      breaks = breaks (reply_line ends.reply) sent;
      steps = omega arith;
    }

  -- ---- without memory
  lacks : (first old new : JsonLines R W) (bytes made next : List ℕ) (spent : ℕ) (a b : Moment) → MakesBy A Saw first bytes made spent going old → new.task ≡ old.task → b.seen ≡ a.seen → b.held ≡ a.held → (told_of new) ≡ (told_of old) → GoesAmong (MakesBy A Saw first) bytes made spent next new a b
  lacks first old new bytes made next spent a b makes task seen held same = record {
    some = [];
    rest = next;
    cut = refl;
    goes = record {
      more = [];
      cost = b.steps;
      makes = (
        task ∙ makes.0,
        (
          old.has_fault,
          subst (λ l. AnswersLines (Answers A first.task.now) (ended_lines l) (made ++ []) old.has_fault) (sym (append-nil bytes))
              (subst (λ l. AnswersLines (Answers A first.task.now) (ended_lines bytes) l old.has_fault) (sym (append-nil made)) makes.1.made),
          subst (λ l. SeesLines first.task.now A Saw first.refusals.lines (ended_lines l) (told_of first) (told_of new)) (sym (append-nil bytes))
              (subst (SeesLines first.task.now A Saw first.refusals.lines (ended_lines bytes) (told_of first)) (sym same) makes.1.sees),
        ),
      );
      puts = subst (λ s. Puts a.seen s a.held b.held []) (sym seen) (subst (λ h. Puts a.seen a.seen a.held h []) (sym held) (puts_none a.seen a.held));
      steps = omega arith;
    };
  }

  -- ---- the bytes of a chunk, and the end of the input
  -- a line ends
  pub feeds_line : (first old new : JsonLines R W) (bytes made : List ℕ) (spent : ℕ) (part : List ℕ) (byte : ℕ) (a b : Moment) (result : Result (Unit {0}) (Halt Infallible)) → MakesBy A Saw first bytes made spent going old → ended_lines part ≡ [] → byte ≡ 10
      → LineEnds (Answers A old.task.now) (SeesLine old.task.now A Saw) part old new a.seen b.seen a.held b.held result → Feeds (MakesBy A Saw first) bytes made spent (part ++ byte ∷ []) new a b result
  feeds_line first old new bytes made spent part byte a b (Ok u) makes quiet newline ends =
      subst (λ n. Goes (MakesBy A Saw first) bytes made spent (part ++ n ∷ []) going new a b) (sym newline)
      (line_goes first old new bytes made spent part makes (Puts a.seen b.seen a.held b.held) ends a b quiet ends.sent (λ text sent. sent))
  feeds_line first old new bytes made spent part byte a b (Err WriteFault) makes quiet newline ends =
      subst (λ n. BreaksAmong (MakesBy A Saw first) false bytes made spent (part ++ n ∷ []) new a b) (sym newline)
      (line_breaks first old new bytes made spent part makes (Breaks a.seen b.seen a.held) ends a b quiet ends.sent (λ text sent. sent))
  feeds_line first old new bytes made spent part byte a b (Err NoMemory) makes quiet newline ends = lacks first old new bytes made (part ++ byte ∷ []) spent a b makes ends.0 ends.1 ends.2 ends.3
  feeds_line first old new bytes made spent part byte a b (Err (Stopped why)) makes quiet newline ends = absurd ends

  -- bytes of a line that has not ended
  pub part_goes : (first old new : JsonLines R W) (bytes made : List ℕ) (spent : ℕ) (part : List ℕ) (a : Moment) → MakesBy A Saw first bytes made spent going old → ended_lines part ≡ []
      → new.line ≡ take kept_length (old.line ++ part) → new.task ≡ old.task → new.has_fault ≡ old.has_fault → new.refusals.lines ≡ old.refusals.lines → (told_of new) ≡ (told_of old) → Goes (MakesBy A Saw first) bytes made spent part going new a a
  part_goes first old new bytes made spent part a makes quiet line task fault count same =
      let answers : AnswersLines (Answers A first.task.now) (ended_lines (bytes ++ part)) (made ++ []) new.has_fault =
      subst (λ ls. AnswersLines (Answers A first.task.now) ls (made ++ []) new.has_fault) (sym (ended_lines_quiet bytes part quiet))
      (subst (λ l. AnswersLines (Answers A first.task.now) (ended_lines bytes) l new.has_fault) (sym (append-nil made))
      (subst (λ f. AnswersLines (Answers A first.task.now) (ended_lines bytes) made f) (sym fault) makes.1.made)) in
      record {
        more = [];
        cost = 0;
        makes = (
          task ∙ makes.0,
          record {
            made = answers;
            line = line ∙ (ap (λ l. take kept_length (l ++ part)) makes.1.line ∙ (take_kept kept_length (unended bytes) part ∙ ap (take kept_length) (sym (unended_quiet bytes part quiet))));
            count = count ∙ (makes.1.count ∙ ap (count_after first.refusals.lines) (sym (ended_lines_quiet bytes part quiet)));
            sees = subst (λ ls. SeesLines first.task.now A Saw first.refusals.lines ls (told_of first) (told_of new)) (sym (ended_lines_quiet bytes part quiet))
                (subst (SeesLines first.task.now A Saw first.refusals.lines (ended_lines bytes) (told_of first)) (sym same) makes.1.sees);
          },
        );
        puts = puts_none a.seen a.held;
        steps = omega arith;
      }

  -- no byte is left after the last newline
  pub last_none : (first s : JsonLines R W) (bytes made : List ℕ) (spent : ℕ) (a : Moment) → MakesBy A Saw first bytes made spent going s → unended bytes ≡ [] → Goes (MakesBy A Saw first) bytes made spent [] (finished s.has_fault) s a a
  last_none first s bytes made spent a makes none = record {
    more = [];
    cost = 0;
    makes = (
      makes.0,
      (
        subst (λ l. AnswersLines (Answers A first.task.now) (lines l) (made ++ []) s.has_fault) (sym (append-nil bytes))
            (subst (λ l. AnswersLines (Answers A first.task.now) (lines bytes) l s.has_fault) (sym (append-nil made))
            (subst (λ ls. AnswersLines (Answers A first.task.now) ls made s.has_fault) (sym (append-nil (ended_lines bytes)) ∙ ap (λ l. ended_lines bytes ++ last_line l) (sym none)) makes.1.made)),
        subst (λ l. SeesLines first.task.now A Saw first.refusals.lines (lines l) (told_of first) (told_of s)) (sym (append-nil bytes))
            (subst (λ ls. SeesLines first.task.now A Saw first.refusals.lines ls (told_of first) (told_of s)) (sym (append-nil (ended_lines bytes)) ∙ ap (λ l. ended_lines bytes ++ last_line l) (sym none)) makes.1.sees),
      ),
    );
    puts = puts_none a.seen a.held;
    steps = omega arith;
  }

  -- a last line is left
  pub last_ends : (first old new : JsonLines R W) (bytes made : List ℕ) (spent : ℕ) (a b : Moment) → MakesBy A Saw first bytes made spent going old → (unended bytes ++ []) ∷ [] ≡ last_line (unended bytes)
      → EndsLine (Answers A old.task.now) (SeesLine old.task.now A Saw) [] old new (Puts a.seen b.seen a.held b.held) → Goes (MakesBy A Saw first) bytes made spent [] (finished new.has_fault) new a b
  last_ends first old new bytes made spent a b makes some ends = last_goes first old new bytes made spent [] makes (Puts a.seen b.seen a.held b.held) ends a b refl some ends.sent (λ text sent. sent)

  pub last_halts : (first old new : JsonLines R W) (bytes made : List ℕ) (spent : ℕ) (a b : Moment) (halt : Halt Infallible) → MakesBy A Saw first bytes made spent going old → (unended bytes ++ []) ∷ [] ≡ last_line (unended bytes)
      → LineEnds (Answers A old.task.now) (SeesLine old.task.now A Saw) [] old new a.seen b.seen a.held b.held (Err halt) → Halts (MakesBy A Saw first) true bytes made spent [] new a b halt
  last_halts first old new bytes made spent a b WriteFault makes some ends = last_breaks first old new bytes made spent [] makes (Breaks a.seen b.seen a.held) ends a b refl some ends.sent (λ text sent. sent)
  last_halts first old new bytes made spent a b NoMemory makes some ends = lacks first old new bytes made [] spent a b makes ends.0 ends.1 ends.2 ends.3
  last_halts first old new bytes made spent a b (Stopped why) makes some ends = absurd ends

  -- ---- one line
  pub ends_line : (old new : JsonLines R W) (part line : List ℕ) (reply : AnswerText) (refused : Refused) (made kept held put : List ℕ) (Sent : List ℕ → Type 0) → line ≡ take kept_length (old.line ++ part) → Answers A old.task.now line reply → IsMade reply made refused
      → length made ≤ longest → kept ≡ made → held ≡ take kept_length (kept ++ 10 ∷ []) → put ≡ held → new.has_fault ≡ (old.has_fault || is_refused refused) → new.line ≡ [] → new.task ≡ old.task → Sent put
      → new.refusals.lines ≡ next_count old.refusals.lines → SeesLine old.task.now A Saw (next_count old.refusals.lines) line (told_of old) (told_of new) → EndsLine (Answers A old.task.now) (SeesLine old.task.now A Saw) part old new Sent
  ends_line old new part line reply refused made kept held put Sent line_is answer is short kept_is held_is put_is fault none task sent count sees =
      let text : take kept_length (kept ++ 10 ∷ []) ≡ made ++ 10 ∷ [] = ap (λ l. take kept_length (l ++ 10 ∷ [])) kept_is ∙ take_all kept_length (made ++ 10 ∷ []) (omega (arith, length-append made (10 ∷ []), short)) in
      let all : put ≡ reply_line reply = put_is ∙ (held_is ∙ (text ∙ ap (λ l. l ++ 10 ∷ []) is.text_is)) in
      record {
        reply = reply;
        answer = subst (λ l. Answers A old.task.now l reply) line_is answer;
        fault = fault ∙ ap (λ f. old.has_fault || f) (sym is.fault);
        line = none;
        task = task;
        count = count;
        sees = subst (λ l. SeesLine old.task.now A Saw (next_count old.refusals.lines) l (told_of old) (told_of new)) line_is sees;
        sent = subst Sent all sent;
      }
