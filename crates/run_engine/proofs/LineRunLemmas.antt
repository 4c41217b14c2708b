-- Lines answered one after the other.
use Rattle.std.proofs.Common.{◌≡◌, ◌↔◌, ℕ, ◌+◌, ◌*◌, ◌≤◌, ◌<◌, ◌||◌, Bool, false, List, [], ◌∷◌, ◌++◌, length, take, refl, sym, ap, ◌∙◌, subst, arith, append-nil, append_assoc, length-append, ⊎_elim, mul-le-mul_left, add-zero}
use Rattle.std.proofs.lemmas.Bool.{cases_lt}
use Rattle.std.proofs.lemmas.Grind.{common_steps}
use Rattle.std.proofs.lemmas.List.{take_all, length-take}
use Rattle.line_engine.proofs.Public.{AreAnswers-append, any_fault-append, bytes_in-append, written_of-append}
use Rattle.line_engine.specs.AnswerText.{AnswerText}
use Rattle.line_engine.specs.Inner.Progress.{bytes_in, IsKept}
use Rattle.line_engine.specs.Lines.{ended_lines, kept_length, last_line, lines, unended}
use Rattle.line_engine.specs.Output.{AreAnswers, any_fault, reply_line, written_of}
use Rattle.run_engine.specs.LineRun.{AnswersLine, AnswersLines, AreOf, EndsLine, IsOf, MakesLines, SawAll, Tells, one_more}
use Rattle.run_engine.specs.Machines.{Goes, going, finished}
use Rattle.run_engine.specs.Seen.{Moment, moment, Puts, Seen}
use Rattle.run_engine.specs.declared.lines.Lines.{Lines}
use Rattle.line_engine.proofs.Public.{ended_lines_line, ended_lines_quiet, kept_unended, nothing_kept, take_kept, unended_line, unended_quiet}
use Rattle.run_engine.proofs.PutLemmas.{puts_both, puts_held, puts_none}

or_assoc : (a b c : Bool) → ((a || b) || c) ≡ (a || (b || c))
or_assoc a b c = grind (arith, common_steps)

or_false : (a : Bool) → (a || false) ≡ a
or_false a = grind (arith, common_steps)

-- a line of more than n bytes has the answers of its first n bytes
abbrev pub Keeping : (List ℕ → AnswerText → Type 0) → ℕ → Type 0
Keeping A n = (line : List ℕ) (reply : AnswerText) → n < length line → (A (take n line) reply) ↔ (A line reply)

pub keeps : (A : List ℕ → AnswerText → Type 0) (n : ℕ) (line : List ℕ) (reply : AnswerText) → Keeping A n → A (take n line) reply → A line reply
keeps A n line reply keeping here =
    ⊎_elim
    (λ (many : n < length line). (keeping line reply many).0 here)
    (λ (few : length line ≤ n). subst (λ l. A l reply) (take_all n line few) here)
    (cases_lt n (length line))

cheaper : (per_byte extra n : ℕ) (line : List ℕ) (steps steps' : ℕ) → steps' ≤ steps + per_byte * length (take n line) + extra → steps' ≤ steps + per_byte * length line + extra
cheaper per_byte extra n line steps steps' cost =
    let short : length (take n line) ≤ length line = omega (arith, length-take n line) in
    let less : per_byte * length (take n line) ≤ per_byte * length line = mul-le-mul_left per_byte short in
    omega arith

pub take_twice : (n : ℕ) (xs : List ℕ) → take n (take n xs) ≡ take n xs
take_twice n xs = take_all n (take n xs) (omega (arith, length-take n xs))

-- ---- one more line
module _ {T : Type 0} (Is : List ℕ → AnswerText → T → Type 0) where
  of_more : (ls : List (List ℕ)) (replies : List AnswerText) (results : List T) (line : List ℕ) (reply : AnswerText) (result : T) → AreOf Is ls replies results → IsOf Is line reply result → AreOf Is (ls ++ line ∷ []) (replies ++ reply ∷ []) (results ++ result ∷ [])
  of_more [] [] [] line reply result are is = (is, tt)
  of_more [] [] (t ∷ results) line reply result are is = absurd are
  of_more [] (r ∷ replies) results line reply result are is = absurd are
  of_more (l ∷ ls) [] results line reply result are is = absurd are
  of_more (l ∷ ls) (r ∷ replies) [] line reply result are is = absurd are
  of_more (l ∷ ls) (r ∷ replies) (t ∷ results) line reply result are is = (are.0, of_more ls replies results line reply result are.1 is)

module _ {W T : Type 0} (Saw : W → ℕ → List ℕ → T → W → Type 0) where
  saw_more : (watch : W) (count : ℕ) (ls : List (List ℕ)) (results : List T) (last : W) (total : ℕ) (line : List ℕ) (result : T) (then : W)
      → SawAll Saw watch count ls results last total → Tells Saw last (one_more total) line result then → SawAll Saw watch count (ls ++ line ∷ []) (results ++ result ∷ []) then (one_more total)
  saw_more watch count [] [] last total line result then saw tells =
      (then, subst (λ w. Tells Saw w (one_more count) line result then) saw.0 (subst (λ n. Tells Saw last (one_more n) line result then) saw.1 tells), (refl, ap one_more saw.1))
  saw_more watch count [] (t ∷ results) last total line result then saw tells = absurd saw
  saw_more watch count (l ∷ ls) [] last total line result then saw tells = absurd saw
  saw_more watch count (l ∷ ls) (t ∷ results) last total line result then saw tells = (saw.0, saw.1, saw_more saw.0 (one_more count) ls results last total line result then saw.2 tells)

module _ {R W T : Type 0} (A : List ℕ → AnswerText → Type 0) (Is : List ℕ → AnswerText → T → Type 0) (Saw : W → ℕ → List ℕ → T → W → Type 0) (per_byte extra : ℕ) where
  -- ---- one line
  pub line_ended : (line : List ℕ) (old new : Lines R W) (a b : Seen) (held held1 held2 held3 : List ℕ) (steps steps' : ℕ) (fault : Bool) (number : ℕ) (watch : W) → number ≡ one_more old.count → watch ≡ old.watch → Puts a b held held1 []
      → AnswersLine A Is Saw line number watch new.watch held1 held2 fault → held3 ≡ held2 ++ 10 ∷ [] → new.count ≡ one_more old.count → new.has_fault ≡ (old.has_fault || fault) → new.rule ≡ old.rule
      → steps' ≤ steps + per_byte * length line + extra → EndsLine A Is Saw per_byte extra line old new (moment a held steps) (moment b held3 steps')
  line_ended line old new a b held held1 held2 held3 steps steps' fault number watch number_is watch_is puts one newline count faulty rule cost = record {
    reply = one.reply;
    result = one.result;
    answer = one.answer;
    is = record { told = line; is = refl; holds = one.is };
    puts = puts_both a b b held held1 held3 [] (reply_line one.reply) puts (puts_held b held1 held3 (reply_line one.reply) (newline ∙ ap (λ l. l ++ 10 ∷ []) one.appended ∙ append_assoc held1 one.reply.text (10 ∷ [])));
    same = rule;
    faulty = faulty ∙ ap (λ f. old.has_fault || f) one.faulty;
    tells = record { told = line; is = refl; saw = subst (λ w. Saw w (one_more old.count) line one.result new.watch) watch_is (subst (λ n. Saw watch n line one.result new.watch) number_is one.saw) };
    count = count;
    cost = cost;
  }

  pub line_kept : (line : List ℕ) (old new : Lines R W) (a b : Moment) → Keeping A kept_length → EndsLine A Is Saw per_byte extra (take kept_length line) old new a b → EndsLine A Is Saw per_byte extra line old new a b
  line_kept line old new a b keeping one = record {
    reply = one.reply;
    result = one.result;
    answer = keeps A kept_length line one.reply keeping one.answer;
    is = record { told = one.is.told; is = one.is.is ∙ take_twice kept_length line; holds = one.is.holds };
    puts = one.puts;
    same = one.same;
    faulty = one.faulty;
    tells = record { told = one.tells.told; is = one.tells.is ∙ take_twice kept_length line; saw = one.tells.saw };
    count = one.count;
    cost = cheaper per_byte extra kept_length line a.steps b.steps one.cost;
  }

  pub lines_none : (s : Lines R W) → AnswersLines A Is Saw per_byte extra s [] [] 0 s
  lines_none s = record { replies = []; results = []; answers = tt; are = tt; text_is = refl; same = refl; faulty = sym (or_false s.has_fault); saw = (refl, refl); cost = omega arith }

  pub lines_more : (first old new : Lines R W) (ls : List (List ℕ)) (text : List ℕ) (spent : ℕ) (line : List ℕ) (a b : Moment) → AnswersLines A Is Saw per_byte extra first ls text spent old
      → (one : EndsLine A Is Saw per_byte extra line old new a b) → AnswersLines A Is Saw per_byte extra first (ls ++ line ∷ []) (text ++ reply_line one.reply) (spent + (per_byte * length line + extra)) new
  lines_more first old new ls text spent line a b made one = record {
    replies = made.replies ++ one.reply ∷ [];
    results = made.results ++ one.result ∷ [];
    answers = AreAnswers-append A ls (line ∷ []) made.replies (one.reply ∷ []) made.answers (one.answer, tt);
    are = of_more Is ls made.replies made.results line one.reply one.result made.are one.is;
    text_is = ap (λ l. l ++ reply_line one.reply) made.text_is ∙ ap (λ l. written_of made.replies ++ l) (sym (append-nil (reply_line one.reply))) ∙ sym (written_of-append made.replies (one.reply ∷ []));
    same = one.same ∙ made.same;
    faulty = one.faulty ∙ ap (λ f. f || one.reply.fault) made.faulty ∙ or_assoc first.has_fault (any_fault made.replies) one.reply.fault
        ∙ ap (λ f. first.has_fault || f) (ap (λ f. any_fault made.replies || f) (sym (or_false one.reply.fault)) ∙ sym (any_fault-append made.replies (one.reply ∷ [])));
    saw = subst (SawAll Saw first.watch first.count (ls ++ line ∷ []) (made.results ++ one.result ∷ []) new.watch) (sym one.count)
        (saw_more Saw first.watch first.count ls made.results old.watch old.count line one.result new.watch made.saw one.tells);
    cost = omega (arith, made.cost, ap (λ n. per_byte * n) (bytes_in-append ls (line ∷ [])), ap (λ n. extra * n) (length-append ls (line ∷ [])));
  }

  -- ---- the bytes of a chunk
  -- a line ends
  pub line_goes : (first old new : Lines R W) (bytes made : List ℕ) (spent : ℕ) (part : List ℕ) (a b : Moment) → MakesLines A Is Saw per_byte extra first bytes made spent going old → ended_lines part ≡ []
      → ((whole : List ℕ) → IsKept kept_length whole old.line → EndsLine A Is Saw per_byte extra (whole ++ part) old new a b) → new.line ≡ []
      → Goes (MakesLines A Is Saw per_byte extra first) bytes made spent (part ++ 10 ∷ []) going new a b
  line_goes first old new bytes made spent part a b makes quiet ends none =
      let one : EndsLine A Is Saw per_byte extra (unended bytes ++ part) old new a b = ends (unended bytes) (kept_unended kept_length bytes old.line makes.line) in
      let cost : ℕ = per_byte * length (unended bytes ++ part) + extra in
      record {
        more = reply_line one.reply;
        cost = cost;
        makes = record {
          made = subst (λ ls. AnswersLines A Is Saw per_byte extra first ls (made ++ reply_line one.reply) (spent + cost) new) (sym (ended_lines_line bytes part [] quiet))
              (lines_more first old new (ended_lines bytes) made spent (unended bytes ++ part) a b makes.made one);
          line = none ∙ sym (ap (take kept_length) (unended_line bytes part [] quiet) ∙ nothing_kept kept_length);
        };
        puts = one.puts;
        steps = omega (arith, one.cost);
      }

  -- bytes of a line that has not ended
  pub part_goes : (first old new : Lines R W) (bytes made : List ℕ) (spent : ℕ) (part : List ℕ) (a : Moment) → MakesLines A Is Saw per_byte extra first bytes made spent going old → ended_lines part ≡ []
      → new.line ≡ take kept_length (old.line ++ part) → new.watch ≡ old.watch → new.count ≡ old.count → new.has_fault ≡ old.has_fault → new.rule ≡ old.rule
      → Goes (MakesLines A Is Saw per_byte extra first) bytes made spent part going new a a
  part_goes first old new bytes made spent part a makes quiet line watch count fault rule = record {
    more = [];
    cost = 0;
    makes = record {
      made = record {
        replies = makes.made.replies;
        results = makes.made.results;
        answers = subst (λ ls. AreAnswers A ls makes.made.replies) (sym same) makes.made.answers;
        are = subst (λ ls. AreOf Is ls makes.made.replies makes.made.results) (sym same) makes.made.are;
        text_is = append-nil made ∙ makes.made.text_is;
        same = rule ∙ makes.made.same;
        faulty = fault ∙ makes.made.faulty;
        saw = subst (λ ls. SawAll Saw first.watch first.count ls makes.made.results new.watch new.count) (sym same)
            (subst (λ w. SawAll Saw first.watch first.count (ended_lines bytes) makes.made.results w new.count) (sym watch)
            (subst (λ n. SawAll Saw first.watch first.count (ended_lines bytes) makes.made.results old.watch n) (sym count) makes.made.saw));
        cost = omega (arith, makes.made.cost, ap (λ ls. per_byte * bytes_in ls) same, ap (λ (ls : List (List ℕ)). extra * length ls) same);
      };
      line = line ∙ ap (λ l. take kept_length (l ++ part)) makes.line ∙ take_kept kept_length (unended bytes) part ∙ ap (take kept_length) (sym (unended_quiet bytes part quiet));
    };
    puts = puts_none a.seen a.held;
    steps = omega arith;
  }
    where
      same : ended_lines (bytes ++ part) ≡ ended_lines bytes
      same = ended_lines_quiet bytes part quiet

  -- ---- the end of the input
  -- no byte is left after the last newline
  pub last_none : (first s : Lines R W) (bytes made : List ℕ) (spent : ℕ) (a : Moment) → MakesLines A Is Saw per_byte extra first bytes made spent going s → unended bytes ≡ []
      → Goes (MakesLines A Is Saw per_byte extra first) bytes made spent [] (finished s.has_fault) s a a
  last_none first s bytes made spent a makes none = record {
    more = [];
    cost = 0;
    makes = record {
      made = subst (λ l. AnswersLines A Is Saw per_byte extra first (lines l) (made ++ []) (spent + 0) s) (sym (append-nil bytes))
          (subst (λ l. AnswersLines A Is Saw per_byte extra first (lines bytes) l (spent + 0) s) (sym (append-nil made))
          (subst (λ n. AnswersLines A Is Saw per_byte extra first (lines bytes) made n s) (sym (add-zero spent))
          (subst (λ ls. AnswersLines A Is Saw per_byte extra first ls made spent s) (sym (append-nil (ended_lines bytes)) ∙ ap (λ l. ended_lines bytes ++ last_line l) (sym none)) makes.made)));
      is = refl;
    };
    puts = puts_none a.seen a.held;
    steps = omega arith;
  }

  -- a last line is left
  pub last_goes : (first old new : Lines R W) (bytes made : List ℕ) (spent : ℕ) (a b : Moment) → MakesLines A Is Saw per_byte extra first bytes made spent going old → (unended bytes ++ []) ∷ [] ≡ last_line (unended bytes)
      → ((whole : List ℕ) → IsKept kept_length whole old.line → EndsLine A Is Saw per_byte extra (whole ++ []) old new a b)
      → Goes (MakesLines A Is Saw per_byte extra first) bytes made spent [] (finished new.has_fault) new a b
  last_goes first old new bytes made spent a b makes some ends =
      let one : EndsLine A Is Saw per_byte extra (unended bytes ++ []) old new a b = ends (unended bytes) (kept_unended kept_length bytes old.line makes.line) in
      let cost : ℕ = per_byte * length (unended bytes ++ []) + extra in
      record {
        more = reply_line one.reply;
        cost = cost;
        makes = record {
          made = subst (λ l. AnswersLines A Is Saw per_byte extra first (lines l) (made ++ reply_line one.reply) (spent + cost) new) (sym (append-nil bytes))
              (subst (λ ls. AnswersLines A Is Saw per_byte extra first (ended_lines bytes ++ ls) (made ++ reply_line one.reply) (spent + cost) new) some
              (lines_more first old new (ended_lines bytes) made spent (unended bytes ++ []) a b makes.made one));
          is = refl;
        };
        puts = one.puts;
        steps = omega (arith, one.cost);
      }
