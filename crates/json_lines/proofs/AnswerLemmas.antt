-- The answer to a line, from piece to piece.
use Rattle.std.proofs.Common.{◌≡◌, ◌⊎◌, ◌↔◌, ◌∙◌, ◌==◌, ◌||◌, ◌+◌, ◌-◌, ◌<◌, ◌≤◌, ◌∷◌, ◌++◌, [], ℕ, zero, suc, Bool, true, false, IsTrue, List, ap, append-nil, append_assoc, arith, codes, drop, length, length-drop, lit≤, map, not, refl, subst, sym, take, true≢false}
use Rattle.std.proofs.lemmas.Bool.{le-leb, lt-leb}
use Rattle.std.proofs.lemmas.List.{drop-drop, drop_all, length-take, take_all}
use Rattle.fixed_command.specs.Layout.{is_skipped}
use Rattle.line_engine.proofs.Public.{nothing_kept, take_kept}
use Rattle.line_engine.specs.AnswerText.{AnswerText}
use Rattle.line_engine.specs.Lines.{kept_length}
use Rattle.json_lines.specs.Answers.{AfterReply, AnswersFrom, AnswersPiece, AnswersShort, AnswersValues, IsJson, IsJsonAnswer, IsValueReply, RefusesLine, accepted, exchanged, fault_text, fitted, kept, line_end, longest, onto, opens, refusal}
use Rattle.json_lines.specs.Inner.Made.{IsHeld, IsMade, IsReplied, IsWhole, is_refused}
use Rattle.json_lines.specs.Inner.Tracked.{Tracks}
use Rattle.json_lines.specs.Path.{PathStep, step_of}
use Rattle.json_lines.specs.Pieces.{after_piece, first_piece, head, piece_length}
use Rattle.json_lines.specs.Places.{Frame, after, is_at}
use Rattle.json_lines.specs.declared.task.JsonTask.{JsonTask}
use Rattle.column_engine.specs.declared.watch.FieldPlace.{FieldPlace}
use Rattle.json_lines.specs.Told.{SeesAfter, SeesFrom, SeesLineValues, SeesNone, SeesPiece, SeesReply, SeesShort, SeesValues, Sight, end_refused, fitted_refusal, value_place}
use Rattle.json_lines.specs.declared.answer.Refused.{Refused}
use Rattle.json_lines.specs.declared.answer.Refused.TheVariants.{Line, No, Value}
use Rattle.json_lines.specs.declared.fault.JsonFault.{JsonFault}
use Rattle.json_lines.specs.declared.place.Place.{Place}
use Rattle.json_lines.specs.declared.task.Form.{Form}
use Rattle.json_lines.specs.declared.fault.JsonFault.TheVariants.{AnswerTooLong, LineTooLong, Nested, NoValue, NotJson}

-- ---- buffers
pub fault_short : (fault : JsonFault) → length (codes "error: " ++ fault_text fault) ≤ 32
fault_short LineTooLong = lit≤ tt
fault_short AnswerTooLong = lit≤ tt
fault_short NotJson = lit≤ tt
fault_short NoValue = lit≤ tt
fault_short Nested = lit≤ tt

-- the first bytes of a short text, appended to none in two parts
pub two_parts : (n : ℕ) (first second : List ℕ) → length (first ++ second) ≤ n → take n (take n ([] ++ first) ++ second) ≡ first ++ second
two_parts n first second short = take_kept n first second ∙ take_all n (first ++ second) short

pub three_parts : (n : ℕ) (old first second third : List ℕ) → take n (take n (take n (old ++ first) ++ second) ++ third) ≡ take n (old ++ (first ++ (second ++ third)))
three_parts n old first second third =
    take_kept n (take n (old ++ first) ++ second) third
    ∙ (ap (take n) (append_assoc (take n (old ++ first)) second third)
    ∙ (take_kept n (old ++ first) (second ++ third) ∙ ap (take n) (append_assoc old first (second ++ third))))

pub quoted_reply : (quotes : Bool) (piece reply : List ℕ) → (length reply == 0) ≡ false → (quotes || (head piece == 34)) ≡ true
    → exchanged quotes piece reply ≡ (34 ∷ []) ++ (reply ++ 34 ∷ [])
quoted_reply quotes piece [] some is = absurd (true≢false some)
quoted_reply quotes piece (b ∷ reply) some is = rw is refl

pub is_quoted : (quotes string : Bool) → string ≡ true → (quotes || string) ≡ true
is_quoted true string is = refl
is_quoted false string is = is

-- a buffer that is not full has all of a text
held_short : (n : ℕ) (text held : List ℕ) → held ≡ take n text → length held < n → held ≡ text
held_short n text held is few =
    let short : length text ≤ n = omega (arith, length-take n text, ap length is, few) in
    is ∙ take_all n text short

held_long : (n most : ℕ) (text held : List ℕ) → held ≡ take n text → most < length held → most < length text
held_long n most text held is many = omega (arith, length-take n text, ap length is, many)

fitted_short : (answer : AnswerText) → length answer.text ≤ longest → fitted answer ≡ answer
fitted_short answer short = rw (le-leb (length answer.text) longest short) refl

fitted_long : (answer : AnswerText) → longest < length answer.text → fitted answer ≡ refusal AnswerTooLong
fitted_long answer long = rw (lt-leb (length answer.text) longest long) refl

pub fit_short : (whole : AnswerText) (held : List ℕ) (refused : Refused) → IsHeld whole held refused → length held ≤ longest → IsMade (fitted whole) held refused
fit_short whole held refused is short =
    let few : length held < kept_length = omega (arith, short) in
    let text : held ≡ whole.text = held_short kept_length whole.text held is.text_is few in
    subst (λ a. IsMade a held refused) (sym (fitted_short whole (omega (arith, short, ap length text)))) (record { text_is = text; fault = is.fault })

pub fit_long : (whole : AnswerText) (held made : List ℕ) (refused : Refused) → IsHeld whole held refused → longest < length held → made ≡ codes "error: " ++ fault_text AnswerTooLong
    → IsMade (fitted whole) made (Line AnswerTooLong)
fit_long whole held made refused is long made_is =
    subst (λ a. IsMade a made (Line AnswerTooLong)) (sym (fitted_long whole (held_long kept_length longest whole.text held is.text_is long))) (record { text_is = made_is; fault = refl })

pub fit_stays : (whole : AnswerText) (held : List ℕ) (refused : Refused) → IsHeld whole held refused → length held ≤ longest → refused ≡ fitted_refusal whole refused
fit_stays whole held refused is short =
    let few : length held < kept_length = omega (arith, short) in
    let text : held ≡ whole.text = held_short kept_length whole.text held is.text_is few in
    rw (le-leb (length whole.text) longest (omega (arith, short, ap length text))) refl

pub fit_refuses : (whole : AnswerText) (held : List ℕ) (refused : Refused) → IsHeld whole held refused → longest < length held → Line AnswerTooLong ≡ fitted_refusal whole refused
fit_refuses whole held refused is long = rw (lt-leb (length whole.text) longest (held_long kept_length longest whole.text held is.text_is long)) refl

-- ---- texts before an answer
onto_none_by : (text : List ℕ) (fault : Bool) → onto [] (record { text = text; fault = fault }) ≡ record { text = text; fault = fault }
onto_none_by text true = refl
onto_none_by text false = refl

onto_none : (answer : AnswerText) → onto [] answer ≡ answer
onto_none answer = onto_none_by answer.text answer.fault

onto_twice_by : (first second text : List ℕ) (fault : Bool)
    → onto first (onto second (record { text = text; fault = fault })) ≡ onto (first ++ second) (record { text = text; fault = fault })
onto_twice_by first second text true = refl
onto_twice_by first second text false = ap accepted (sym (append_assoc first second text))

onto_twice : (first second : List ℕ) (answer : AnswerText) → onto first (onto second answer) ≡ onto (first ++ second) answer
onto_twice first second answer = onto_twice_by first second answer.text answer.fault

onto_refused_by : (before text : List ℕ) (fault : Bool) → fault ≡ true → onto before (record { text = text; fault = fault }) ≡ record { text = text; fault = fault }
onto_refused_by before text true is = refl
onto_refused_by before text false is = absurd (true≢false (sym is))

onto_refused : (before : List ℕ) (answer : AnswerText) → answer.fault ≡ true → onto before answer ≡ answer
onto_refused before answer is = onto_refused_by before answer.text answer.fault is

or_false : (b : Bool) → (b || false) ≡ b
or_false true = refl
or_false false = refl

or_true : (b : Bool) → (b || true) ≡ true
or_true true = refl
or_true false = refl

-- ---- from piece to piece
module _ (steps : List PathStep) (quotes : Bool) (A : List ℕ → AnswerText → Type 0) where
  -- the answer to a piece and to the bytes after it is that to the bytes from it on
  from_piece : (n : ℕ) (frames : List Frame) (found : Bool) (bytes : List ℕ) (answer : AnswerText) → 0 < length bytes → length bytes ≤ n
      → AnswersPiece (is_at steps frames (first_piece bytes) (after_piece bytes)) quotes A (first_piece bytes)
      (AnswersFrom steps quotes A (n - 1) (after frames (first_piece bytes) (after_piece bytes)) (found || is_at steps frames (first_piece bytes) (after_piece bytes)) (after_piece bytes)) answer
      → AnswersFrom steps quotes A n frames found bytes answer
  unfolding AnswersFrom
  from_piece n frames found [] answer some few is = absurd (omega (arith, some))
  from_piece zero frames found (b ∷ bytes) answer some few is = absurd (omega (arith, few))
  from_piece (suc n) frames found (b ∷ bytes) answer some few is =
      let same : suc n - 1 ≡ n = omega arith in
      let line : List ℕ = b ∷ bytes in
      subst (λ m. AnswersPiece (is_at steps frames (first_piece line) (after_piece line)) quotes A (first_piece line)
      (AnswersFrom steps quotes A m (after frames (first_piece line) (after_piece line)) (found || is_at steps frames (first_piece line) (after_piece line)) (after_piece line)) answer) same is

  from_end : (n : ℕ) (frames : List Frame) (found : Bool) (bytes : List ℕ) → bytes ≡ [] → AnswersFrom steps quotes A n frames found bytes (line_end found)
  unfolding AnswersFrom
  from_end n frames found [] none = refl
  from_end n frames found (b ∷ bytes) none = let no : ⊥ = cc in absurd no

  -- the bytes before an index were answered with a text
  pub record Progress (line : List ℕ) (at : ℕ) (frames : List Frame) (found : Bool) (text : List ℕ) : Type 0 where
    pub most : ℕ
    pub few : length (drop at line) ≤ most
    pub goes : (answer : AnswerText) → AnswersFrom steps quotes A most frames found (drop at line) answer → AnswersFrom steps quotes A (length line) [] false line (onto text answer)

  pub progress_none : (line : List ℕ) → Progress line 0 [] false []
  progress_none line = record {
    most = length line;
    few = omega arith;
    goes = λ answer is. subst (λ a. AnswersFrom steps quotes A (length line) [] false line a) (sym (onto_none answer)) is;
  }

  -- the piece at an index, and where it ends
  pub record IsPiece (line : List ℕ) (at end : ℕ) (piece rest : List ℕ) : Type 0 where
    pub some : 0 < length (drop at line)
    pub piece_is : piece ≡ first_piece (drop at line)
    pub rest_is : rest ≡ after_piece (drop at line)
    pub end_is : rest ≡ drop end line
    pub shorter : length rest < length (drop at line)

  pub piece_here : (line : List ℕ) (at end : ℕ) → at < length line → end ≡ at + piece_length (drop at line) → at < end → end ≤ length line
      → IsPiece line at end (take (end - at) (drop at line)) (take (length line - end) (drop end line))
  piece_here line at end low end_is more within =
      let count : end - at ≡ piece_length (drop at line) = omega (arith, end_is) in
      let all : take (length line - end) (drop end line) ≡ drop end line = take_all (length line - end) (drop end line) (omega (arith, length-drop end line)) in
      let rest : drop end line ≡ after_piece (drop at line) = ap (λ n. drop n line) end_is ∙ sym (drop-drop (piece_length (drop at line)) at line) in
      record {
        some = omega (arith, length-drop at line, low);
        piece_is = ap (λ n. take n (drop at line)) count;
        rest_is = all ∙ rest;
        end_is = all;
        shorter = omega (arith, length-drop at line, ap length all, length-drop end line, low, more, within);
      }

  module _ (line : List ℕ) (at end : ℕ) (frames : List Frame) (found : Bool) (text piece rest : List ℕ) (here : IsPiece line at end piece rest) (progress : Progress line at frames found text) where
    -- the answer to this piece and to the bytes after it
    next : (answer : AnswerText) → AnswersPiece (is_at steps frames piece rest) quotes A piece (AnswersFrom steps quotes A (progress.most - 1) (after frames piece rest) (found || is_at steps frames piece rest) rest) answer
        → AnswersFrom steps quotes A (length line) [] false line (onto text answer)
    next answer is = progress.goes answer (from_piece progress.most frames found (drop at line) answer here.some progress.few
        (subst (λ p. AnswersPiece (is_at steps frames p (after_piece (drop at line))) quotes A p (AnswersFrom steps quotes A (progress.most - 1) (after frames p (after_piece (drop at line))) (found || is_at steps frames p (after_piece (drop at line))) (after_piece (drop at line))) answer) here.piece_is
        (subst (λ r. AnswersPiece (is_at steps frames piece r) quotes A piece (AnswersFrom steps quotes A (progress.most - 1) (after frames piece r) (found || is_at steps frames piece r) r) answer) here.rest_is is)))

    -- the rest, after a piece for which some bytes are written
    goes_on : (written : List ℕ) (now : Bool) → ((answer more : AnswerText) → AnswersFrom steps quotes A (progress.most - 1) (after frames piece rest) now rest more → answer ≡ onto written more
        → AnswersPiece (is_at steps frames piece rest) quotes A piece (AnswersFrom steps quotes A (progress.most - 1) (after frames piece rest) (found || is_at steps frames piece rest) rest) answer)
        → Progress line end (after frames piece rest) now (text ++ written)
    goes_on written now more = record {
      most = progress.most - 1;
      few = omega (arith, progress.few, here.shorter, ap length here.end_is);
      goes = λ answer is.
          subst (λ a. AnswersFrom steps quotes A (length line) [] false line a) (onto_twice text written answer)
          (next (onto written answer) (more (onto written answer) answer (subst (λ r. AnswersFrom steps quotes A (progress.most - 1) (after frames piece rest) now r answer) (sym here.end_is) is) refl));
    }

    pub progress_stays : is_at steps frames piece rest ≡ false → Progress line end (after frames piece rest) found (text ++ piece)
    progress_stays is = goes_on piece found (λ answer more from same.
        subst (λ b. AnswersPiece b quotes A piece (AnswersFrom steps quotes A (progress.most - 1) (after frames piece rest) (found || b) rest) answer) (sym is)
        (more, subst (λ f. AnswersFrom steps quotes A (progress.most - 1) (after frames piece rest) f rest more) (sym (or_false found)) from, same))

    pub progress_value : (reply : AnswerText) → is_at steps frames piece rest ≡ true → IsValueReply (opens piece) A piece reply → reply.fault ≡ false
        → Progress line end (after frames piece rest) true (text ++ exchanged quotes piece reply.text)
    progress_value reply is replied fault = goes_on (exchanged quotes piece reply.text) true (λ answer more from same.
        subst (λ b. AnswersPiece b quotes A piece (AnswersFrom steps quotes A (progress.most - 1) (after frames piece rest) (found || b) rest) answer) (sym is) (
          reply,
          replied,
          subst (λ f. AfterReply f reply (exchanged quotes piece reply.text) (AnswersFrom steps quotes A (progress.most - 1) (after frames piece rest) (found || true) rest) answer) (sym fault)
              (more, subst (λ f. AnswersFrom steps quotes A (progress.most - 1) (after frames piece rest) f rest more) (sym (or_true found)) from, same),
        ))

    -- a refused value is the answer
    pub progress_refused : (reply : AnswerText) → is_at steps frames piece rest ≡ true → IsValueReply (opens piece) A piece reply → reply.fault ≡ true
        → AnswersFrom steps quotes A (length line) [] false line reply
    progress_refused reply is replied fault =
        subst (λ a. AnswersFrom steps quotes A (length line) [] false line a) (onto_refused text reply fault)
        (next reply (subst (λ b. AnswersPiece b quotes A piece (AnswersFrom steps quotes A (progress.most - 1) (after frames piece rest) (found || b) rest) reply) (sym is)
        (reply, replied, subst (λ f. AfterReply f reply (exchanged quotes piece reply.text) (AnswersFrom steps quotes A (progress.most - 1) (after frames piece rest) (found || true) rest) reply) (sym fault) refl)))

  pub progress_end : (line : List ℕ) (at : ℕ) (frames : List Frame) (found : Bool) (text : List ℕ) → Progress line at frames found text → length line ≤ at
      → AnswersFrom steps quotes A (length line) [] false line (onto text (line_end found))
  progress_end line at frames found text progress high = progress.goes (line_end found) (from_end progress.most frames found (drop at line) (drop_all at line high))

  -- ---- the loop over the pieces of a line
  -- the place, whether a value was found, and the buffer, before the piece at an index
  pub record Goes (line : List ℕ) (at : ℕ) (place : Place) (found : Bool) (held : List ℕ) : Type 0 where
    pub frames : List Frame
    pub text : List ℕ
    pub within : at ≤ length line
    pub depth : place.depth ≤ at
    pub tracks : Tracks steps frames place
    pub progress : Progress line at frames found text
    pub held_is : held ≡ take kept_length text

  pub replied_as : (piece old new new' : List ℕ) (a b : Bool) → a ≡ b → new' ≡ new → IsReplied A quotes piece a old new → IsReplied A quotes piece b old new'
  replied_as piece old new new' a b refused same one = subst (λ f. IsReplied A quotes piece f old new') refused (subst (λ l. IsReplied A quotes piece a old l) (sym same) one)

  pub goes_none : (line : List ℕ) (place : Place) (held : List ℕ) → Tracks steps [] place → held ≡ [] → Goes line 0 place false held
  goes_none line place held tracks none = record {
    frames = [];
    text = [];
    within = omega arith;
    depth = omega (arith, tracks.depth);
    tracks = tracks;
    progress = progress_none line;
    held_is = none ∙ sym (nothing_kept kept_length);
  }

  pub goes_stays : (line : List ℕ) (at end : ℕ) (place then : Place) (found : Bool) (held held' piece rest : List ℕ) (here : IsPiece line at end piece rest) (goes : Goes line at place found held)
      → end ≤ length line → then.depth ≤ place.depth + 1 → at < end → is_at steps goes.frames piece rest ≡ false → Tracks steps (after goes.frames piece rest) then → held' ≡ take kept_length (held ++ piece)
      → Goes line end then found held'
  goes_stays line at end place then found held held' piece rest here goes within depth more is tracks held_is = record {
    frames = after goes.frames piece rest;
    text = goes.text ++ piece;
    within = within;
    depth = omega (arith, depth, goes.depth, more);
    tracks = tracks;
    progress = progress_stays line at end goes.frames found goes.text piece rest here goes.progress is;
    held_is = held_is ∙ (ap (λ l. take kept_length (l ++ piece)) goes.held_is ∙ take_kept kept_length goes.text piece);
  }

  pub goes_value : (line : List ℕ) (at end : ℕ) (place then : Place) (found : Bool) (held held' piece rest : List ℕ) (here : IsPiece line at end piece rest) (goes : Goes line at place found held)
      → end ≤ length line → then.depth ≤ place.depth + 1 → at < end → is_at steps goes.frames piece rest ≡ true → Tracks steps (after goes.frames piece rest) then → IsReplied A quotes piece false held held'
      → Goes line end then true held'
  goes_value line at end place then found held held' piece rest here goes within depth more is tracks one = record {
    frames = after goes.frames piece rest;
    text = goes.text ++ exchanged quotes piece one.reply.text;
    within = within;
    depth = omega (arith, depth, goes.depth, more);
    tracks = tracks;
    progress = progress_value line at end goes.frames found goes.text piece rest here goes.progress one.reply is one.replied one.fault;
    held_is = one.text ∙ (ap (λ l. take kept_length (l ++ exchanged quotes piece one.reply.text)) goes.held_is ∙ take_kept kept_length goes.text (exchanged quotes piece one.reply.text));
  }

  pub whole_refused : (line : List ℕ) (at end : ℕ) (place : Place) (found : Bool) (held held' piece rest : List ℕ) (refused : Refused) (here : IsPiece line at end piece rest) (goes : Goes line at place found held)
      → is_at steps goes.frames piece rest ≡ true → IsReplied A quotes piece true held held' → is_refused refused ≡ true → IsWhole steps quotes A line held' refused
  whole_refused line at end place found held held' piece rest refused here goes is one refused_is = record {
    whole = one.reply;
    is = progress_refused line at end goes.frames found goes.text piece rest here goes.progress one.reply is one.replied one.fault;
    held = record { text_is = one.text; fault = one.fault ∙ sym refused_is };
  }

  pub whole_found : (line : List ℕ) (at : ℕ) (place : Place) (held : List ℕ) → Goes line at place true held → length line ≤ at → IsWhole steps quotes A line held No
  whole_found line at place held goes high = record {
    whole = onto goes.text (line_end true);
    is = progress_end line at goes.frames true goes.text goes.progress high;
    held = record { text_is = goes.held_is ∙ ap (take kept_length) (sym (append-nil goes.text)); fault = refl };
  }

  pub whole_none : (line : List ℕ) (at : ℕ) (place : Place) (held held' : List ℕ) → Goes line at place false held → length line ≤ at → held' ≡ codes "error: " ++ fault_text NoValue
      → IsWhole steps quotes A line held' (Line NoValue)
  whole_none line at place held held' goes high made = record {
    whole = refusal NoValue;
    is = progress_end line at goes.frames false goes.text goes.progress high;
    held = record { text_is = made ∙ sym (take_all kept_length (codes "error: " ++ fault_text NoValue) (omega (arith, fault_short NoValue))); fault = refl };
  }

-- ---- what an observer is told, from piece to piece
module _ {W : Type 0} (steps : List PathStep) (A : List ℕ → AnswerText → Type 0) (Saw : Sight W) (number : ℕ) where
  sees_piece : (n : ℕ) (frames : List Frame) (found : Bool) (at : ℕ) (bytes : List ℕ) (watch : W) (refused : Refused) (last : W) → 0 < length bytes → length bytes ≤ n
      → SeesPiece (is_at steps frames (first_piece bytes) (after_piece bytes)) A Saw (value_place number at (first_piece bytes)) (first_piece bytes) (Value at (at + piece_length bytes))
      (SeesFrom steps A Saw number (n - 1) (after frames (first_piece bytes) (after_piece bytes)) (found || is_at steps frames (first_piece bytes) (after_piece bytes)) (at + piece_length bytes) (after_piece bytes)) watch refused last
      → SeesFrom steps A Saw number n frames found at bytes watch refused last
  unfolding SeesFrom
  sees_piece n frames found at [] watch refused last some few is = absurd (omega (arith, some))
  sees_piece zero frames found at (b ∷ bytes) watch refused last some few is = absurd (omega (arith, few))
  sees_piece (suc n) frames found at (b ∷ bytes) watch refused last some few is =
      let same : suc n - 1 ≡ n = omega arith in
      let line : List ℕ = b ∷ bytes in
      subst (λ m. SeesPiece (is_at steps frames (first_piece line) (after_piece line)) A Saw (value_place number at (first_piece line)) (first_piece line) (Value at (at + piece_length line))
      (SeesFrom steps A Saw number m (after frames (first_piece line) (after_piece line)) (found || is_at steps frames (first_piece line) (after_piece line)) (at + piece_length line) (after_piece line)) watch refused last) same is

  sees_end : (n : ℕ) (frames : List Frame) (found : Bool) (at : ℕ) (bytes : List ℕ) (watch : W) → bytes ≡ [] → SeesFrom steps A Saw number n frames found at bytes watch (end_refused found) watch
  unfolding SeesFrom
  sees_end n frames found at [] watch none = (refl, refl)
  sees_end n frames found at (b ∷ bytes) watch none = let no : ⊥ = cc in absurd no

  -- what was told of the bytes before an index
  pub record Told (line : List ℕ) (at : ℕ) (frames : List Frame) (found : Bool) (first watch : W) : Type 0 where
    pub most : ℕ
    pub few : length (drop at line) ≤ most
    pub goes : (refused : Refused) (last : W) → SeesFrom steps A Saw number most frames found at (drop at line) watch refused last → SeesFrom steps A Saw number (length line) [] false 0 line first refused last

  pub told_none : (line : List ℕ) (first : W) → Told line 0 [] false first first
  told_none line first = record { most = length line; few = omega arith; goes = λ refused last is. is }

  module _ (quotes : Bool) (line : List ℕ) (at end : ℕ) (frames : List Frame) (found : Bool) (first watch : W) (piece rest : List ℕ) (here : IsPiece steps quotes A line at end piece rest) (end_is : end ≡ at + piece_length (drop at line))
      (told : Told line at frames found first watch) where
    abbrev After : ℕ → List ℕ → List ℕ → Bool → List ℕ → W → Refused → W → Type 0
    After e p r b bytes = SeesFrom steps A Saw number (told.most - 1) (after frames p r) b e bytes

    tells : (refused : Refused) (last : W) → SeesPiece (is_at steps frames piece rest) A Saw (value_place number at piece) piece (Value at end) (After end piece rest (found || is_at steps frames piece rest) rest) watch refused last
        → SeesFrom steps A Saw number (length line) [] false 0 line first refused last
    tells refused last is = told.goes refused last (sees_piece told.most frames found at (drop at line) watch refused last here.some told.few
        (subst (λ e. SeesPiece (is_at steps frames (first_piece (drop at line)) (after_piece (drop at line))) A Saw (value_place number at (first_piece (drop at line))) (first_piece (drop at line)) (Value at e)
        (After e (first_piece (drop at line)) (after_piece (drop at line)) (found || is_at steps frames (first_piece (drop at line)) (after_piece (drop at line))) (after_piece (drop at line))) watch refused last) end_is
        (subst (λ p. SeesPiece (is_at steps frames p (after_piece (drop at line))) A Saw (value_place number at p) p (Value at end)
        (After end p (after_piece (drop at line)) (found || is_at steps frames p (after_piece (drop at line))) (after_piece (drop at line))) watch refused last) here.piece_is
        (subst (λ r. SeesPiece (is_at steps frames piece r) A Saw (value_place number at piece) piece (Value at end) (After end piece r (found || is_at steps frames piece r) r) watch refused last) here.rest_is is))))

    fewer : length (drop end line) ≤ told.most - 1
    fewer = omega (arith, told.few, here.shorter, ap length here.end_is)

    pub told_stays : is_at steps frames piece rest ≡ false → Told line end (after frames piece rest) found first watch
    told_stays is = record {
      most = told.most - 1;
      few = fewer;
      goes = λ refused last from. tells refused last
          (subst (λ b. SeesPiece b A Saw (value_place number at piece) piece (Value at end) (After end piece rest (found || b) rest) watch refused last) (sym is)
          (subst (λ f. After end piece rest f rest watch refused last) (sym (or_false found)) (subst (λ r. After end piece rest found r watch refused last) (sym here.end_is) from)));
    }

    pub told_value : (next : W) → is_at steps frames piece rest ≡ true → SeesReply A Saw (value_place number at piece) piece false watch next → Told line end (after frames piece rest) true first next
    told_value next is one = record {
      most = told.most - 1;
      few = fewer;
      goes = λ refused last from. tells refused last
          (subst (λ b. SeesPiece b A Saw (value_place number at piece) piece (Value at end) (After end piece rest (found || b) rest) watch refused last) (sym is) (
            one.0,
            one.1,
            next,
            one.2,
            subst (λ f. SeesAfter f (Value at end) (After end piece rest (found || true) rest) next refused last) (sym one.3)
                (subst (λ f. After end piece rest f rest next refused last) (sym (or_true found)) (subst (λ r. After end piece rest true r next refused last) (sym here.end_is) from)),
          ));
    }

    pub told_refused : (last : W) → is_at steps frames piece rest ≡ true → SeesReply A Saw (value_place number at piece) piece true watch last → SeesFrom steps A Saw number (length line) [] false 0 line first (Value at end) last
    told_refused last is one = tells (Value at end) last
        (subst (λ b. SeesPiece b A Saw (value_place number at piece) piece (Value at end) (After end piece rest (found || b) rest) watch (Value at end) last) (sym is) (
          one.0,
          one.1,
          last,
          one.2,
          subst (λ f. SeesAfter f (Value at end) (After end piece rest (found || true) rest) last (Value at end) last) (sym one.3) (refl, refl),
        ))

  pub told_end : (line : List ℕ) (at : ℕ) (frames : List Frame) (found : Bool) (first watch : W) → Told line at frames found first watch → length line ≤ at → SeesFrom steps A Saw number (length line) [] false 0 line first (end_refused found) watch
  told_end line at frames found first watch told high = told.goes (end_refused found) watch (sees_end told.most frames found at (drop at line) watch (drop_all at line high))

  -- the loop over the pieces of a line, with its observer
  pub record Tells (quotes : Bool) (line : List ℕ) (at : ℕ) (place : Place) (found : Bool) (held : List ℕ) (first watch : W) : Type 0 where
    pub goes : Goes steps quotes A line at place found held
    pub told : Told line at goes.frames found first watch

  pub tells_none : (quotes : Bool) (line : List ℕ) (place : Place) (held : List ℕ) (first : W) → Tracks steps [] place → held ≡ [] → Tells quotes line 0 place false held first first
  unfolding goes_none
  tells_none quotes line place held first tracks none = record { goes = goes_none steps quotes A line place held tracks none; told = told_none line first }

  pub tells_stays : (quotes : Bool) (line : List ℕ) (at end : ℕ) (place later : Place) (found : Bool) (held held' : List ℕ) (first watch : W) (piece rest : List ℕ) (here : IsPiece steps quotes A line at end piece rest)
      → end ≡ at + piece_length (drop at line) → (t : Tells quotes line at place found held first watch) → end ≤ length line → later.depth ≤ place.depth + 1 → at < end → is_at steps t.goes.frames piece rest ≡ false
      → Tracks steps (after t.goes.frames piece rest) later → held' ≡ take kept_length (held ++ piece) → Tells quotes line end later found held' first watch
  unfolding goes_stays
  tells_stays quotes line at end place later found held held' first watch piece rest here end_is t within depth more is tracks held_is = record {
    goes = goes_stays steps quotes A line at end place later found held held' piece rest here t.goes within depth more is tracks held_is;
    told = told_stays quotes line at end t.goes.frames found first watch piece rest here end_is t.told is;
  }

  pub tells_value : (quotes : Bool) (line : List ℕ) (at end : ℕ) (place later : Place) (found : Bool) (held held' : List ℕ) (first watch next : W) (piece rest : List ℕ) (here : IsPiece steps quotes A line at end piece rest)
      → end ≡ at + piece_length (drop at line) → (t : Tells quotes line at place found held first watch) → end ≤ length line → later.depth ≤ place.depth + 1 → at < end → is_at steps t.goes.frames piece rest ≡ true
      → Tracks steps (after t.goes.frames piece rest) later → IsReplied A quotes piece false held held' → SeesReply A Saw (value_place number at piece) piece false watch next → Tells quotes line end later true held' first next
  unfolding goes_value
  tells_value quotes line at end place later found held held' first watch next piece rest here end_is t within depth more is tracks one seen = record {
    goes = goes_value steps quotes A line at end place later found held held' piece rest here t.goes within depth more is tracks one;
    told = told_value quotes line at end t.goes.frames found first watch piece rest here end_is t.told next is seen;
  }

  pub seen_as : (place place' : FieldPlace) (piece : List ℕ) (a b : Bool) (watch next next' : W) → place ≡ place' → a ≡ b → next' ≡ next → SeesReply A Saw place piece a watch next → SeesReply A Saw place' piece b watch next'
  seen_as place place' piece a b watch next next' same refused later seen =
      subst (λ q. SeesReply A Saw q piece b watch next') same (subst (λ f. SeesReply A Saw place piece f watch next') refused (subst (λ o. SeesReply A Saw place piece a watch o) (sym later) seen))

-- ---- the answer to a line
module _ (steps : List PathStep) (form : Form) (A : List ℕ → AnswerText → Type 0) where
  pub too_long : (line : List ℕ) → longest < length line → IsJsonAnswer steps form A line (refusal LineTooLong)
  too_long line long = subst (λ b. AnswersShort b (is_skipped form.layout.now line) steps form A line (refusal LineTooLong))
      (sym (ap not (lt-leb (length line) longest long))) refl

  -- by whether the line stays as a blank one
  short_by : (line : List ℕ) (answer : AnswerText) (blank : Bool) → length line ≤ longest → (is_skipped form.layout.now line) ≡ blank → AnswersShort false blank steps form A line answer → IsJsonAnswer steps form A line answer
  short_by line answer blank short is answers =
      subst (λ b. AnswersShort b (is_skipped form.layout.now line) steps form A line answer) (sym (ap not (le-leb (length line) longest short)))
      (subst (λ b. AnswersShort false b steps form A line answer) (sym is) answers)

  pub stays_skipped : (line : List ℕ) → length line ≤ longest → (is_skipped form.layout.now line) ≡ true → IsJsonAnswer steps form A line (accepted line)
  stays_skipped line short is = short_by line (accepted line) true short is refl

  pub read_line : (line : List ℕ) (read : AnswerText) → length line ≤ longest → (is_skipped form.layout.now line) ≡ false
      → (RefusesLine line read ⊎ AnswersValues steps form.quotes A line read) → IsJsonAnswer steps form A line (kept form.keeps line read)
  read_line line read short is answers = short_by line (kept form.keeps line read) false short is (read, answers, refl)

-- what an observer is told of a line
module _ {R W : Type 0} (task : JsonTask R) (A : List ℕ → AnswerText → Type 0) (Saw : Sight W) (number : ℕ) (line : List ℕ) (watch : W) where
  pub sees_long : longest < length line → SeesLineValues task A Saw number line watch (Line LineTooLong) watch
  sees_long long = subst (λ b. SeesShort b (is_skipped task.form.layout.now line) task A Saw number line watch (Line LineTooLong) watch) (sym (ap not (lt-leb (length line) longest long))) (refl, refl)

  sees_by : (blank : Bool) (refused : Refused) (last : W) → length line ≤ longest → (is_skipped task.form.layout.now line) ≡ blank → SeesShort false blank task A Saw number line watch refused last → SeesLineValues task A Saw number line watch refused last
  sees_by blank refused last short is sees =
      subst (λ b. SeesShort b (is_skipped task.form.layout.now line) task A Saw number line watch refused last) (sym (ap not (le-leb (length line) longest short)))
      (subst (λ b. SeesShort false b task A Saw number line watch refused last) (sym is) sees)

  pub sees_skipped : length line ≤ longest → (is_skipped task.form.layout.now line) ≡ true → SeesLineValues task A Saw number line watch No watch
  sees_skipped short is = sees_by true No watch short is (refl, refl)

  pub sees_read : (refused : Refused) (last : W) → length line ≤ longest → (is_skipped task.form.layout.now line) ≡ false
      → (SeesNone line watch refused last ⊎ SeesValues (map step_of task.steps.now) task.form.quotes A Saw number line watch refused last) → SeesLineValues task A Saw number line watch refused last
  sees_read refused last short is sees = sees_by false refused last short is sees

-- a refused line stays if that is asked, and an answered one does not
pub kept_made : (keeps : Bool) (line text : List ℕ) (read : AnswerText) (refused : Refused) → keeps ≡ true → is_refused refused ≡ true → IsMade read text refused → IsMade (kept keeps line read) line refused
kept_made keeps line text read refused asks is made =
    let stays : kept keeps line read ≡ record { text = line; fault = true } = rw (asks, made.fault, is) refl in
    subst (λ a. IsMade a line refused) (sym stays) (record { text_is = refl; fault = sym is })

pub whole_line : (line : List ℕ) → length line ≤ longest → take kept_length ([] ++ line) ≡ line
whole_line line short = take_all kept_length line (omega (arith, short))

-- ---- whether a line is JSON
pub json_is : (b : Bool) (line : List ℕ) → (IsTrue b ↔ IsJson line) → b ≡ true → IsJson line
json_is b line tells is = tells.0 is

pub json_is_not : (b : Bool) (line : List ℕ) → (IsTrue b ↔ IsJson line) → b ≡ false → IsJson line → ⊥
json_is_not b line tells is json = true≢false (sym (tells.1 json) ∙ is)
