-- What a run took and wrote, chunk by chunk, up to its end.
use Rattle.std.proofs.Common.{◌≡◌, ◌<◌, ◌≤◌, List, ℕ, suc, zero, [], ◌∷◌, ◌++◌, Bool, true, false, refl, sym, ap, ◌∙◌, append_assoc, append-nil, length, take, arith, subst, Option, inl, inr, ⊎_elim, get_or}
use Rattle.std.proofs.KnownBytes.{Appends-trans, Appends-nil, Consumes-trans}
use Rattle.std.proofs.lemmas.Bool.{eqb-true}
use Rattle.std.proofs.lemmas.Grind.{flat_map-append}
use Rattle.std.specs.Io.KnownBytes.{Appends, Consumes, IsAtEnd}
use Rattle.std.specs.Prelude.{◌==◌, ◌≢◌, ◌⊎◌}
use Rattle.csv.specs.Reading.{strip_bom}
use Rattle.line_engine.specs.AnswerText.{AnswerText}
use Rattle.line_engine.specs.Appended.{AppendsPrefix}
use Rattle.line_engine.specs.Inner.Progress.{Flushes}
use Rattle.column_engine.specs.Answers.{State}
use Rattle.column_engine.specs.Feeding.{FailsFeed, FeedsRows, IsLeft, IsStanding, StopsAt}
use Rattle.column_engine.specs.Rows.{IsLast, IsUnended, Row, byte_order_mark, ends_record, place_after, row_text, rows_text}
use Rattle.column_engine.specs.Run.{Ends, IsEndless, RunsOn, RunsSoFar, RunsText, StopsText, Writes}
use Rattle.column_engine.specs.Steps.{PassesRow, SameCounts, StopsRow}
use Rattle.column_engine.specs.declared.columns.Column.{Column}
use Rattle.column_engine.specs.declared.columns.Keeping.{Keeping}
use Rattle.column_engine.specs.declared.end.Stop.{Stop}
use Rattle.column_engine.specs.declared.end.Stop.TheVariants.{Done, NoColumn, NoMemory, NoName, ReadFault, TooLong, Unclosed, WriteFault}
use Rattle.column_engine.specs.declared.place.Place.{Place}
use Rattle.column_engine.specs.declared.place.Place.TheVariants.{AfterQuote, Inside, Quoted, Start}
use Rattle.column_engine.specs.Limits.{longest_text}
use Rattle.column_engine.specs.Begin.{IsPartOfMark}
use Rattle.column_engine.proofs.FeedLemmas.{ended_append, feeds_both, feeds_none, rows_append}
use Rattle.column_engine.proofs.RowLemmas.{from_never}
use Rattle.column_engine.proofs.GatherLemmas.{all_flushes, flushes_all, flushes_both, flushes_prefix, prefix_flushes}

-- ---- the output
-- output after earlier output
pub writes_after : (stop : Stop) (a b c : Option (List ℕ)) (text more : List ℕ) → Appends a b text → Writes stop b c more → Writes stop a c (text ++ more)
writes_after WriteFault a b c text more first next = record {
  prefix = text ++ next.prefix;
  rest = next.rest;
  split = ap (λ l. text ++ l) next.split ∙ sym (append_assoc text next.prefix next.rest);
  appends = Appends-trans a b c text next.prefix first next.appends;
}
writes_after Done a b c text more first next = Appends-trans a b c text more first next
writes_after ReadFault a b c text more first next = Appends-trans a b c text more first next
writes_after NoMemory a b c text more first next = Appends-trans a b c text more first next
writes_after TooLong a b c text more first next = Appends-trans a b c text more first next
writes_after Unclosed a b c text more first next = Appends-trans a b c text more first next
writes_after (NoColumn count) a b c text more first next = Appends-trans a b c text more first next
writes_after NoName a b c text more first next = Appends-trans a b c text more first next

-- only a prefix of the gathered bytes was written
pub prefix_gathered : (text left : List ℕ) (a b c : Option (List ℕ)) → Flushes [] text left a b → AppendsPrefix b c left → AppendsPrefix a c text
prefix_gathered text left a b c first part =
    let more = flushes_prefix left b c part in
    subst (AppendsPrefix a c) (append-nil text) (prefix_flushes (text ++ []) more.0 a c (flushes_both [] text [] left more.0 a b c first more.1))

-- all gathered bytes were written
pub all_gathered : (text left : List ℕ) (a b c : Option (List ℕ)) → Flushes [] text left a b → Appends b c left → Appends a c text
all_gathered text left a b c first all =
    subst (Appends a c) (append-nil text) (all_flushes (text ++ []) a c (flushes_both [] text [] left [] a b c first (flushes_all left b c all)))

-- ---- truth values
pub not_both : (b : Bool) → b ≡ false → b ≡ true → ⊥
not_both b nay yea = let both : true ≡ false = sym yea ∙ nay in cc

-- ---- the byte order mark
plain_byte : (place : Place) (b : ℕ) → (b == 10) ≡ false → (b == 13) ≡ false → ends_record place b ≡ false
plain_byte Start b line return = rw (line, return) refl
plain_byte Inside b line return = rw (line, return) refl
plain_byte Quoted b line return = refl
plain_byte AfterQuote b line return = rw (line, return) refl

pub part_strip : (bytes : List ℕ) → IsPartOfMark bytes → strip_bom bytes ≡ bytes
unfolding strip_bom
part_strip bytes (zero, low, is) = rw is refl
part_strip bytes (suc zero, low, is) = rw is refl
part_strip bytes (suc (suc zero), low, is) = rw is refl
part_strip bytes (suc (suc (suc k)), low, is) = absurd (omega (arith, low))

part_unended : (d : ℕ) (bytes : List ℕ) → IsPartOfMark bytes → IsUnended d Start bytes
unfolding IsUnended
part_unended d bytes (zero, low, is) = rw is tt
part_unended d bytes (suc zero, low, is) = rw is (refl, tt)
part_unended d bytes (suc (suc zero), low, is) = rw is (refl, (plain_byte (place_after d Start 239) 187 refl refl, tt))
part_unended d bytes (suc (suc (suc k)), low, is) = absurd (omega (arith, low))

mark_none : (bytes : List ℕ) → bytes ≡ byte_order_mark → strip_bom bytes ≡ []
unfolding strip_bom
mark_none bytes is = rw is refl

mark_more : (more : List ℕ) → strip_bom (byte_order_mark ++ more) ≡ more
unfolding strip_bom
mark_more more = refl

mark_whole : (bytes : List ℕ) → bytes ≡ byte_order_mark → bytes ≡ byte_order_mark ++ strip_bom bytes
mark_whole bytes is = is ∙ ap (λ l. byte_order_mark ++ l) (sym (mark_none bytes is))

pub strip_whole : (bytes : List ℕ) → ((more : List ℕ) → strip_bom (bytes ++ more) ≡ bytes ++ more) → strip_bom bytes ≡ bytes
strip_whole bytes goes = ap strip_bom (sym (append-nil bytes)) ∙ goes [] ∙ append-nil bytes

-- a text whose first, second or third byte differs from the mark has no mark
first_other : (byte : ℕ) (more : List ℕ) → (byte == 239) ≡ false → strip_bom (byte ∷ more) ≡ byte ∷ more
unfolding strip_bom
first_other byte [] other = refl
first_other byte (x ∷ []) other = refl
first_other byte (x ∷ y ∷ rest) other = rw other refl

second_other : (byte : ℕ) (more : List ℕ) → (byte == 187) ≡ false → strip_bom (239 ∷ byte ∷ more) ≡ 239 ∷ byte ∷ more
unfolding strip_bom
second_other byte [] other = refl
second_other byte (x ∷ rest) other = rw other refl

third_other : (byte : ℕ) (more : List ℕ) → (byte == 191) ≡ false → strip_bom (239 ∷ 187 ∷ byte ∷ more) ≡ 239 ∷ 187 ∷ byte ∷ more
unfolding strip_bom
third_other byte more other = rw other refl

differs : (b n : ℕ) → (b ≡ n → ⊥) → (b == n) ≡ false
differs b n other = from_never (b == n) (λ same. other (eqb-true b n same))

pub other_mark : (at byte : ℕ) (start more : List ℕ) → at < 3 → start ≡ take at byte_order_mark ++ byte ∷ [] → (byte ≡ get_or byte_order_mark at 0 → ⊥) → strip_bom (start ++ more) ≡ start ++ more
other_mark zero byte start more low is other = rw is (first_other byte more (differs byte 239 other))
other_mark (suc zero) byte start more low is other = rw is (second_other byte more (differs byte 187 other))
other_mark (suc (suc zero)) byte start more low is other = rw is (third_other byte more (differs byte 191 other))
other_mark (suc (suc (suc k))) byte start more low is other = absurd (omega (arith, low))

-- ---- how a run stops
same_counts : (s : State) → SameCounts s s
same_counts s = record { answered = refl; refused = refl; first = refl }

counts_both : (s t u : State) → SameCounts s t → SameCounts t u → SameCounts s u
counts_both s t u first next = record { answered = next.answered ∙ first.answered; refused = next.refused ∙ first.refused; first = next.first ∙ first.first }

module _ (A : List ℕ → AnswerText → Type 0) (keeps : Keeping) (d : ℕ) (columns : List Column) where
  -- a chunk stops the run
  ends_feed : (stop : Stop) (s u : State) (rest part : List ℕ) (left : Option (List ℕ)) → StopsAt stop A keeps d columns s rest part → SameCounts s u → Ends stop A keeps d columns s rest left part u
  ends_feed WriteFault s u rest part left at counts = inr (at.0, inl (at.1.rest, at.1.split, at.1.ended), inl (at.2, counts))
  ends_feed TooLong s u rest part left at counts = (at.0, at.1, counts)
  ends_feed (NoColumn count) s u rest part left at counts = (at.0, inl (at.1.rest, at.1.split, at.1.ended), at.2, at.3, counts)
  ends_feed NoName s u rest part left at counts = (at.0, inl (at.1.rest, at.1.split, at.1.ended), at.2, at.3, counts)
  ends_feed Done s u rest part left at counts = absurd at
  ends_feed ReadFault s u rest part left at counts = absurd at
  ends_feed NoMemory s u rest part left at counts = absurd at
  ends_feed Unclosed s u rest part left at counts = absurd at

  -- a chunk stops the run, and writing what it gathered then fails
  ends_fault : (stop : Stop) (s u : State) (rest part : List ℕ) (left : Option (List ℕ)) → StopsAt stop A keeps d columns s rest part → SameCounts s u → Ends WriteFault A keeps d columns s rest left part u
  ends_fault WriteFault s u rest part left at counts = ends_feed WriteFault s u rest part left at counts
  ends_fault TooLong s u rest part left at counts = inl (at.1, counts)
  ends_fault (NoColumn count) s u rest part left at counts = inl (at.3, counts)
  ends_fault NoName s u rest part left at counts = inl (at.3, counts)
  ends_fault Done s u rest part left at counts = absurd at
  ends_fault ReadFault s u rest part left at counts = absurd at
  ends_fault NoMemory s u rest part left at counts = absurd at
  ends_fault Unclosed s u rest part left at counts = absurd at

  pub stops_feed : (stop result : Stop) (bytes : List ℕ) (s u : State) (held : List ℕ) (left a b c : Option (List ℕ)) → FailsFeed stop A keeps d columns bytes s u [] held a b
      → (result ≡ stop) ⊎ (result ≡ WriteFault) → ((text left : List ℕ) → IsLeft stop left held → Flushes [] text left a b → Writes result a c text)
      → StopsText result A keeps d columns [] bytes s u left a c
  stops_feed stop result bytes s u held left a b c fails which wrote = record {
    rows = fails.rows;
    rest = fails.rest;
    split = fails.split;
    ended = fails.ended;
    text = fails.text;
    between = fails.between;
    answers = fails.answers;
    part = fails.part;
    ends = ⊎_elim
        (λ (same : result ≡ stop). subst (λ r. Ends r A keeps d columns fails.between fails.rest left fails.part u) (sym same) (ends_feed stop fails.between u fails.rest fails.part left fails.stops fails.counts))
        (λ (same : result ≡ WriteFault). subst (λ r. Ends r A keeps d columns fails.between fails.rest left fails.part u) (sym same) (ends_fault stop fails.between u fails.rest fails.part left fails.stops fails.counts))
        which;
    output = wrote (fails.text ++ fails.part) fails.left fails.is_left fails.gathered;
  }

  -- the gathered answers of a chunk were written
  pub feeds_written : (bytes rest held : List ℕ) (s t : State) (a b c : Option (List ℕ)) → FeedsRows A keeps d columns bytes rest s t [] held a b → Appends b c held
      → FeedsRows A keeps d columns bytes rest s t [] [] a c
  feeds_written bytes rest held s t a b c fed all = record {
    rows = fed.rows;
    split = fed.split;
    ended = fed.ended;
    text = fed.text;
    answers = fed.answers;
    gathered = subst (λ l. Flushes [] l [] a c) (append-nil fed.text) (flushes_both [] fed.text [] held [] a b c fed.gathered (flushes_all held b c all));
  }

  -- writing the gathered answers of a chunk failed
  pub feeds_unwritten : (bytes rest held : List ℕ) (s t : State) (left a b c : Option (List ℕ)) → FeedsRows A keeps d columns bytes rest s t [] held a b → AppendsPrefix b c held
      → StopsText WriteFault A keeps d columns [] bytes s t left a c
  feeds_unwritten bytes rest held s t left a b c fed part = record {
    rows = fed.rows;
    rest = rest;
    split = fed.split;
    ended = fed.ended;
    text = fed.text;
    between = t;
    answers = fed.answers;
    part = [];
    ends = inl (refl, same_counts t);
    output = subst (AppendsPrefix a c) (sym (append-nil fed.text)) (prefix_gathered fed.text held a b c fed.gathered part);
  }

  -- records that were answered, before a text that stops
  pub stops_after : (stop : Stop) (mark bytes rest : List ℕ) (s t u : State) (left a m b c : Option (List ℕ)) → Appends a m mark → FeedsRows A keeps d columns bytes rest s t [] [] m b
      → StopsText stop A keeps d columns [] rest t u left b c → StopsText stop A keeps d columns mark bytes s u left a c
  stops_after stop mark bytes rest s t u left a m b c marked fed stops = record {
    rows = fed.rows ++ stops.rows;
    rest = stops.rest;
    split = fed.split ∙ ap (λ l. rows_text fed.rows ++ l) stops.split ∙ sym (append_assoc (rows_text fed.rows) (rows_text stops.rows) stops.rest)
        ∙ ap (λ l. l ++ stops.rest) (sym (flat_map-append row_text fed.rows stops.rows));
    ended = ended_append d fed.rows stops.rows fed.ended stops.ended;
    text = fed.text ++ stops.text;
    between = stops.between;
    answers = rows_append A keeps d columns s t stops.between fed.rows stops.rows fed.text stops.text fed.answers stops.answers;
    part = stops.part;
    ends = stops.ends;
    output = subst (Writes stop a c) (ap (λ l. mark ++ l) (sym (append_assoc fed.text stops.text stops.part)))
        (writes_after stop a m c mark (fed.text ++ (stops.text ++ stops.part)) marked
        (writes_after stop m b c fed.text (stops.text ++ stops.part) (all_flushes fed.text m b fed.gathered) stops.output));
  }

  -- ---- the whole run
  pub runs_end : (stop : Stop) (rest : List ℕ) (s t u : State) (left left' a b c : Option (List ℕ)) → RunsSoFar A keeps d columns rest s t left left' a b
      → StopsText stop A keeps d columns [] rest t u left' b c → RunsText stop A keeps d columns s u left left' a c
  runs_end stop rest s t u left left' a b c so_far stops = record {
    bytes = so_far.bytes;
    taken = so_far.taken;
    mark = so_far.mark;
    mark_is = so_far.mark_is;
    stops = stops_after stop so_far.mark (strip_bom so_far.bytes) rest s t u left' a so_far.between b c so_far.marked so_far.fed stops;
  }

  pub mark_on : (mark bytes more : List ℕ) → bytes ≡ mark ++ strip_bom bytes → strip_bom (bytes ++ more) ≡ strip_bom bytes ++ more → bytes ++ more ≡ mark ++ strip_bom (bytes ++ more)
  mark_on mark bytes more is on = ap (λ l. l ++ more) is ∙ append_assoc mark (strip_bom bytes) more ∙ ap (λ l. mark ++ l) (sym on)

  pub runs_fail : (stop : Stop) (rest chunk : List ℕ) (s t u : State) (left left' left'' a b c : Option (List ℕ)) → RunsOn A keeps d columns rest s t left left' a b
      → Consumes left' left'' chunk → StopsText stop A keeps d columns [] (rest ++ chunk) t u left'' b c → RunsText stop A keeps d columns s u left left'' a c
  runs_fail stop rest chunk s t u left left' left'' a b c on more stops =
      let so_far = on.so_far in
      let fed : FeedsRows A keeps d columns (strip_bom (so_far.bytes ++ chunk)) (rest ++ chunk) s t [] [] so_far.between b = record {
        rows = so_far.fed.rows;
        split = on.goes_on chunk ∙ ap (λ l. l ++ chunk) so_far.fed.split ∙ append_assoc (rows_text so_far.fed.rows) rest chunk;
        ended = so_far.fed.ended;
        text = so_far.fed.text;
        answers = so_far.fed.answers;
        gathered = so_far.fed.gathered;
      } in
      record {
        bytes = so_far.bytes ++ chunk;
        taken = Consumes-trans left left' left'' so_far.bytes chunk so_far.taken more;
        mark = so_far.mark;
        mark_is = mark_on so_far.mark so_far.bytes chunk so_far.mark_is (on.goes_on chunk);
        stops = stops_after stop so_far.mark (strip_bom (so_far.bytes ++ chunk)) (rest ++ chunk) s t u left'' a so_far.between b c so_far.marked fed stops;
      }

  unfoldable pub runs_more : (rest rest' chunk : List ℕ) (s t u : State) (left left' left'' a b c : Option (List ℕ)) → RunsOn A keeps d columns rest s t left left' a b
      → Consumes left' left'' chunk → FeedsRows A keeps d columns (rest ++ chunk) rest' t u [] [] b c → RunsOn A keeps d columns rest' s u left left'' a c
  runs_more rest rest' chunk s t u left left' left'' a b c on more fed =
      let so_far = on.so_far in
      record {
        so_far = record {
          bytes = so_far.bytes ++ chunk;
          taken = Consumes-trans left left' left'' so_far.bytes chunk so_far.taken more;
          mark = so_far.mark;
          mark_is = mark_on so_far.mark so_far.bytes chunk so_far.mark_is (on.goes_on chunk);
          between = so_far.between;
          marked = so_far.marked;
          fed = subst (λ l. FeedsRows A keeps d columns l rest' s u [] [] so_far.between c) (sym (on.goes_on chunk))
              (feeds_both A keeps d columns (strip_bom so_far.bytes) chunk rest rest' s t u [] [] [] so_far.between b c so_far.fed fed);
        };
        goes_on = λ others.
            ap strip_bom (append_assoc so_far.bytes chunk others) ∙ on.goes_on (chunk ++ others) ∙ sym (append_assoc (strip_bom so_far.bytes) chunk others)
            ∙ ap (λ l. l ++ others) (sym (on.goes_on chunk));
      }

  -- a read failed
  pub runs_unread : (rest : List ℕ) (place : Place) (s t : State) (left left' left'' a b : Option (List ℕ)) → RunsOn A keeps d columns rest s t left left' a b
      → Consumes left' left'' [] → IsStanding d rest place → RunsText ReadFault A keeps d columns s t left left'' a b
  runs_unread rest place s t left left' left'' a b on none standing =
      runs_fail ReadFault rest [] s t t left left' left'' a b b on none (record {
        rows = [];
        rest = rest;
        split = append-nil rest;
        ended = tt;
        text = [];
        between = t;
        answers = (refl, refl);
        part = [];
        ends = (standing.unended, refl, same_counts t);
        output = Appends-nil b;
      })

  -- the input ended after the last record that ended
  pub stops_none : (kept : List ℕ) (s : State) (left a : Option (List ℕ)) → kept ≡ [] → IsAtEnd left → StopsText Done A keeps d columns [] kept s s left a a
  stops_none kept s left a none end = record {
    rows = [];
    rest = kept;
    split = refl;
    ended = tt;
    text = [];
    between = s;
    answers = (refl, refl);
    part = [];
    ends = (end, inl (none, refl, same_counts s));
    output = Appends-nil a;
  }

  pub is_last : (kept : List ℕ) (place : Place) → IsStanding d kept place → kept ≢ [] → place ≢ Quoted → IsLast d (record { body = kept; end = [] })
  is_last kept place standing some closed = record { unended = standing.unended; some = some; closed = λ quoted. closed (standing.place_is ∙ quoted); is_end = refl }

  ends_last : (stop : Stop) (kept : List ℕ) (s u : State) (part held' : List ℕ) (left a b : Option (List ℕ)) → IsLast d (record { body = kept; end = [] }) → IsAtEnd left → SameCounts s u
      → (stop ≡ WriteFault → ⊥) → StopsRow stop A keeps d columns (record { body = kept; end = [] }) s [] held' a b → Ends stop A keeps d columns s kept left [] u × Writes stop a b []
  ends_last WriteFault kept s u part held' left a b last end counts other stops = absurd (other refl)
  ends_last (NoColumn count) kept s u part held' left a b last end counts other stops =
      ((record { body = kept; end = [] }, inr (end, refl, last), stops.0, refl, counts), subst (λ w. Appends a w []) (sym stops.2) (Appends-nil a))
  ends_last NoName kept s u part held' left a b last end counts other stops =
      ((record { body = kept; end = [] }, inr (end, refl, last), stops.0, refl, counts), subst (λ w. Appends a w []) (sym stops.2) (Appends-nil a))
  ends_last Done kept s u part held' left a b last end counts other stops = absurd stops
  ends_last ReadFault kept s u part held' left a b last end counts other stops = absurd stops
  ends_last NoMemory kept s u part held' left a b last end counts other stops = absurd stops
  ends_last TooLong kept s u part held' left a b last end counts other stops = absurd stops
  ends_last Unclosed kept s u part held' left a b last end counts other stops = absurd stops

  -- how the last record ended the run
  stops_last_text : (stop : Stop) (kept part : List ℕ) (s u : State) (left a b : Option (List ℕ)) → Ends stop A keeps d columns s kept left part u → Writes stop a b part
      → StopsText stop A keeps d columns [] kept s u left a b
  stops_last_text stop kept part s u left a b ends wrote = record {
    rows = [];
    rest = kept;
    split = refl;
    ended = tt;
    text = [];
    between = s;
    answers = (refl, refl);
    part = part;
    ends = ends;
    output = wrote;
  }

  pub stops_last : (stop : Stop) (kept held' : List ℕ) (s u : State) (left a b : Option (List ℕ)) → IsLast d (record { body = kept; end = [] }) → IsAtEnd left → SameCounts s u
      → StopsRow stop A keeps d columns (record { body = kept; end = [] }) s [] held' a b → StopsText stop A keeps d columns [] kept s u left a b
  stops_last WriteFault kept held' s u left a b last end counts stops =
      stops_last_text WriteFault kept stops.text s u left a b (inr (record { body = kept; end = [] }, inr (end, refl, last), inl (stops.part, counts))) (prefix_flushes stops.text stops.left a b stops.gathered)
  stops_last (NoColumn count) kept held' s u left a b last end counts stops =
      let both = ends_last (NoColumn count) kept s u [] held' left a b last end counts (λ e. cc) stops in stops_last_text (NoColumn count) kept [] s u left a b both.0 both.1
  stops_last NoName kept held' s u left a b last end counts stops =
      let both = ends_last NoName kept s u [] held' left a b last end counts (λ e. cc) stops in stops_last_text NoName kept [] s u left a b both.0 both.1
  stops_last Done kept held' s u left a b last end counts stops = absurd stops
  stops_last ReadFault kept held' s u left a b last end counts stops = absurd stops
  stops_last NoMemory kept held' s u left a b last end counts stops = absurd stops
  stops_last TooLong kept held' s u left a b last end counts stops = absurd stops
  stops_last Unclosed kept held' s u left a b last end counts stops = absurd stops

  -- the last record was answered, and its answer was written or a write failed
  pub stops_done : (kept held : List ℕ) (s u : State) (left a b c : Option (List ℕ)) → IsLast d (record { body = kept; end = [] }) → IsAtEnd left
      → PassesRow A keeps d columns (record { body = kept; end = [] }) s u [] held a b → Appends b c held → StopsText Done A keeps d columns [] kept s u left a c
  stops_done kept held s u left a b c last end passes all =
      stops_last_text Done kept passes.text s u left a c (end, inr (record { body = kept; end = [] }, refl, last, u, passes.answer, same_counts u)) (all_gathered passes.text held a b c passes.gathered all)

  pub stops_cut : (kept held : List ℕ) (s u : State) (left a b c : Option (List ℕ)) → IsLast d (record { body = kept; end = [] }) → IsAtEnd left
      → PassesRow A keeps d columns (record { body = kept; end = [] }) s u [] held a b → AppendsPrefix b c held → StopsText WriteFault A keeps d columns [] kept s u left a c
  stops_cut kept held s u left a b c last end passes part =
      stops_last_text WriteFault kept passes.text s u left a c (inr (record { body = kept; end = [] }, inr (end, refl, last), inr (u, passes.answer, same_counts u)))
      (prefix_gathered passes.text held a b c passes.gathered part)

  -- the read found the end of the input
  pub runs_ended : (stop : Stop) (rest chunk : List ℕ) (s t u : State) (left left' left'' a b c : Option (List ℕ)) → RunsOn A keeps d columns rest s t left left' a b
      → Consumes left' left'' chunk → chunk ≡ [] → StopsText stop A keeps d columns [] rest t u left'' b c → RunsText stop A keeps d columns s u left left'' a c
  runs_ended stop rest chunk s t u left left' left'' a b c on taken none stops =
      runs_fail stop rest [] s t u left left' left'' a b c on (subst (Consumes left' left'') none taken)
      (subst (λ l. StopsText stop A keeps d columns [] l t u left'' b c) (sym (append-nil rest)) stops)

  -- the text reached the longest length without an end
  pub runs_endless : (rest : List ℕ) (s t : State) (left left' a b : Option (List ℕ)) (on : RunsOn A keeps d columns rest s t left left' a b) → longest_text ≤ length on.so_far.bytes
      → IsEndless TooLong A keeps d columns s t left left' a b
  runs_endless rest s t left left' a b on many = record { is_long = refl; rest = rest; t = t; counts = same_counts t; so_far = on.so_far; many = many }

  -- a chunk never stops a run with a read failure
  pub stops_unread : (stop result : Stop) (bytes : List ℕ) (s u : State) (held held' : List ℕ) (a b : Option (List ℕ)) → FailsFeed stop A keeps d columns bytes s u held held' a b
      → (result ≡ stop) ⊎ (result ≡ WriteFault) → result ≡ ReadFault → ⊥
  stops_unread stop result bytes s u held held' a b fails (inr same) other = let both : WriteFault ≡ ReadFault = sym same ∙ other in cc
  stops_unread stop result bytes s u held held' a b fails (inl same) other =
      subst (λ k. StopsAt k A keeps d columns fails.between fails.rest fails.part) (sym same ∙ other) fails.stops

  pub row_unread : (stop : Stop) (row : Row) (s : State) (held held' : List ℕ) (a b : Option (List ℕ)) → StopsRow stop A keeps d columns row s held held' a b → stop ≡ ReadFault → ⊥
  row_unread stop row s held held' a b stops other = subst (λ k. StopsRow k A keeps d columns row s held held' a b) other stops

  -- ---- the start of a text
  pub begin_unread : (bytes : List ℕ) (s : State) (left left' a : Option (List ℕ)) → IsPartOfMark bytes → Consumes left left' bytes → RunsText ReadFault A keeps d columns s s left left' a a
  begin_unread bytes s left left' a part taken = record {
    bytes = bytes;
    taken = taken;
    mark = [];
    mark_is = sym (part_strip bytes part);
    stops = record {
      rows = [];
      rest = strip_bom bytes;
      split = refl;
      ended = tt;
      text = [];
      between = s;
      answers = (refl, refl);
      part = [];
      ends = (subst (IsUnended d Start) (sym (part_strip bytes part)) (part_unended d bytes part), refl, same_counts s);
      output = Appends-nil a;
    };
  }

  pub begin_unwritten : (bytes : List ℕ) (s : State) (left left' a b : Option (List ℕ)) → bytes ≡ byte_order_mark → Consumes left left' bytes → AppendsPrefix a b byte_order_mark
      → RunsText WriteFault A keeps d columns s s left left' a b
  begin_unwritten bytes s left left' a b is taken part = record {
    bytes = bytes;
    taken = taken;
    mark = byte_order_mark;
    mark_is = mark_whole bytes is;
    stops = record {
      rows = [];
      rest = strip_bom bytes;
      split = refl;
      ended = tt;
      text = [];
      between = s;
      answers = (refl, refl);
      part = [];
      ends = inl (refl, same_counts s);
      output = part;
    };
  }

  pub begin_marked : (bytes kept : List ℕ) (s : State) (left left' a b : Option (List ℕ)) → bytes ≡ byte_order_mark → Consumes left left' bytes → Appends a b byte_order_mark → kept ≡ []
      → RunsOn A keeps d columns kept s s left left' a b
  begin_marked bytes kept s left left' a b is taken all none = record {
    so_far = record {
      bytes = bytes;
      taken = taken;
      mark = byte_order_mark;
      mark_is = mark_whole bytes is;
      between = b;
      marked = all;
      fed = subst (λ l. FeedsRows A keeps d columns l kept s s [] [] b b) (none ∙ sym (mark_none bytes is)) (feeds_none A keeps d columns kept s [] b);
    };
    goes_on = λ more. ap (λ l. strip_bom (l ++ more)) is ∙ mark_more more ∙ ap (λ l. l ++ more) (sym (mark_none bytes is));
  }

  pub begin_fails : (stop : Stop) (kept chunk bytes : List ℕ) (s u : State) (left left' a b : Option (List ℕ)) → kept ≡ [] → chunk ≡ bytes → strip_bom bytes ≡ bytes → Consumes left left' bytes
      → StopsText stop A keeps d columns [] (kept ++ chunk) s u left' a b → RunsText stop A keeps d columns s u left left' a b
  begin_fails stop kept chunk bytes s u left left' a b none is whole taken stops = record {
    bytes = bytes;
    taken = taken;
    mark = [];
    mark_is = sym whole;
    stops = subst (λ l. StopsText stop A keeps d columns [] l s u left' a b) (ap (λ k. k ++ chunk) none ∙ is ∙ sym whole) stops;
  }

  pub begin_ends : (stop : Stop) (kept chunk bytes rest : List ℕ) (s t u : State) (left left' a b c : Option (List ℕ)) → kept ≡ [] → chunk ≡ bytes → strip_bom bytes ≡ bytes → Consumes left left' bytes
      → FeedsRows A keeps d columns (kept ++ chunk) rest s t [] [] a b → StopsText stop A keeps d columns [] rest t u left' b c → RunsText stop A keeps d columns s u left left' a c
  begin_ends stop kept chunk bytes rest s t u left left' a b c none is whole taken fed stops =
      begin_fails stop kept chunk bytes s u left left' a c none is whole taken (stops_after stop [] (kept ++ chunk) rest s t u left' a a b c (Appends-nil a) fed stops)

  pub begin_other : (kept chunk bytes rest : List ℕ) (s t : State) (left left' a b : Option (List ℕ)) → kept ≡ [] → chunk ≡ bytes → ((more : List ℕ) → strip_bom (bytes ++ more) ≡ bytes ++ more)
      → Consumes left left' bytes → FeedsRows A keeps d columns (kept ++ chunk) rest s t [] [] a b → RunsOn A keeps d columns rest s t left left' a b
  begin_other kept chunk bytes rest s t left left' a b none is goes taken fed =
      let whole : strip_bom bytes ≡ bytes = strip_whole bytes goes in
      record {
        so_far = record {
          bytes = bytes;
          taken = taken;
          mark = [];
          mark_is = sym whole;
          between = a;
          marked = Appends-nil a;
          fed = subst (λ l. FeedsRows A keeps d columns l rest s t [] [] a b) (ap (λ k. k ++ chunk) none ∙ is ∙ sym whole) fed;
        };
        goes_on = λ more. goes more ∙ ap (λ l. l ++ more) (sym whole);
      }

  -- ---- equal counts
  ends_counts : (stop : Stop) (s u v : State) (rest part : List ℕ) (left : Option (List ℕ)) → SameCounts u v → Ends stop A keeps d columns s rest left part u → Ends stop A keeps d columns s rest left part v
  ends_counts Done s u v rest part left same (end, inl (none, empty, counts)) = (end, inl (none, empty, counts_both s u v counts same))
  ends_counts Done s u v rest part left same (end, inr (row, is, last, t, answer, counts)) = (end, inr (row, is, last, t, answer, counts_both t u v counts same))
  ends_counts ReadFault s u v rest part left same ends = (ends.0, ends.1, counts_both s u v ends.2 same)
  ends_counts WriteFault s u v rest part left same (inl (empty, counts)) = inl (empty, counts_both s u v counts same)
  ends_counts WriteFault s u v rest part left same (inr (row, next, inl (some, counts))) = inr (row, next, inl (some, counts_both s u v counts same))
  ends_counts WriteFault s u v rest part left same (inr (row, next, inr (t, answer, counts))) = inr (row, next, inr (t, answer, counts_both t u v counts same))
  ends_counts NoMemory s u v rest part left same ends = absurd ends
  ends_counts TooLong s u v rest part left same ends = (ends.0, ends.1, counts_both s u v ends.2 same)
  ends_counts Unclosed s u v rest part left same ends = (ends.0, ends.1, ends.2, ends.3, ends.4, counts_both s u v ends.5 same)
  ends_counts (NoColumn count) s u v rest part left same ends = (ends.0, ends.1, ends.2, ends.3, counts_both s u v ends.4 same)
  ends_counts NoName s u v rest part left same ends = (ends.0, ends.1, ends.2, ends.3, counts_both s u v ends.4 same)

  text_counts : (stop : Stop) (s u v : State) (left left' a b : Option (List ℕ)) → SameCounts u v → RunsText stop A keeps d columns s u left left' a b → RunsText stop A keeps d columns s v left left' a b
  text_counts stop s u v left left' a b same run = record {
    bytes = run.bytes;
    taken = run.taken;
    mark = run.mark;
    mark_is = run.mark_is;
    stops = record {
      rows = run.stops.rows;
      rest = run.stops.rest;
      split = run.stops.split;
      ended = run.stops.ended;
      text = run.stops.text;
      between = run.stops.between;
      answers = run.stops.answers;
      part = run.stops.part;
      ends = ends_counts stop run.stops.between u v run.stops.rest run.stops.part left' same run.stops.ends;
      output = run.stops.output;
    };
  }

  pub run_counts : (stop : Stop) (s u v : State) (left left' a b : Option (List ℕ)) → SameCounts u v
      → RunsText stop A keeps d columns s u left left' a b ⊎ IsEndless stop A keeps d columns s u left left' a b
      → RunsText stop A keeps d columns s v left left' a b ⊎ IsEndless stop A keeps d columns s v left left' a b
  run_counts stop s u v left left' a b same (inl run) = inl (text_counts stop s u v left left' a b same run)
  run_counts stop s u v left left' a b same (inr run) =
      inr (record { is_long = run.is_long; rest = run.rest; t = run.t; counts = counts_both run.t u v run.counts same; so_far = run.so_far; many = run.many })
