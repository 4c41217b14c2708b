-- Lines packed one after the other.
use Rattle.std.proofs.Common.{Result, Ok, Err, OnOk, ◌≡◌, ◌∙◌, ◌+◌, ℕ, true, false, List, [], ◌∷◌, ◌++◌, length, refl, sym, ap, subst, arith, append-nil, length-append}
use Rattle.line_engine.proofs.Public.{ended_lines_line, ended_lines_quiet, unended_line, unended_quiet}
use Rattle.line_engine.specs.Lines.{ended_lines, last_line, lines, unended}
use Rattle.run_engine.proofs.Public.{puts_both, puts_held, puts_none}
use Rattle.run_engine.specs.LineRun.{one_more}
use Rattle.run_engine.specs.Machines.{Feeds, Goes, Halts, How, going, finished, lacking, stopped}
use Rattle.run_engine.specs.Seen.{Moment, moment, Puts, Seen}
use Rattle.run_engine.specs.declared.machine.Halt.{Halt}
use Rattle.run_engine.specs.declared.machine.Halt.TheVariants.{WriteFault, NoMemory, Stopped}
use Rattle.fixed_pack.specs.Pack.{AreWordsOf}
use Rattle.fixed_pack.specs.Inner.Packing.{EndsLine}
use Rattle.fixed_pack.specs.Packed.{Appends, GoesOn, IsRefusal, MakesPacked, Packs, Refusal}
use Rattle.fixed_pack.specs.Recoded.{capped}
use Rattle.fixed_pack.specs.declared.packer.Packer.{Packer}
use Rattle.fixed_pack.proofs.RecodeLemmas.{capped_more, joined_more}

-- a rest that is not empty is the last line
some_last : (rest : List ℕ) → (rest ≡ [] → ⊥) → last_line rest ≡ rest ∷ []
some_last [] some = absurd (some refl)
some_last (b ∷ rest) some = refl

module _ (P : List ℕ → List ℕ → Type 0) where
  words_more : (ls ts : List (List ℕ)) (l t : List ℕ) → AreWordsOf P ls ts → P l t → AreWordsOf P (ls ++ l ∷ []) (ts ++ t ∷ [])
  words_more [] [] l t are one = (one, tt)
  words_more [] (u ∷ ts) l t are one = absurd are
  words_more (k ∷ ls) [] l t are one = absurd are
  words_more (k ∷ ls) (u ∷ ts) l t are one = (are.0, words_more ls ts l t are.1 one)

  packs_more : (ls : List (List ℕ)) (text l t : List ℕ) → Packs P ls text → P l t → Packs P (ls ++ l ∷ []) (text ++ t)
  packs_more ls text l t p one = record { words = p.words ++ t ∷ []; are = words_more ls p.words l t p.are one; text_is = ap (λ x. x ++ t) p.text_is ∙ sym (joined_more p.words t) }

  packs_same : (ls : List (List ℕ)) (text : List ℕ) → Packs P ls text → Packs P ls (text ++ [])
  packs_same ls text p = subst (Packs P ls) (sym (append-nil text)) p

  module _ {Q C : Type 0} (F : List ℕ → C → Type 0) (rule : Q) (old : Packer Q) (bytes made : List ℕ) (spent : ℕ) (makes : GoesOn P rule bytes made old) where
    abbrev Makes : List ℕ → List ℕ → ℕ → How C → Packer Q → Type 0
    Makes = MakesPacked P F rule

    -- why a machine stopped, with the number that it keeps
    abbrev refused : Packer Q → C → Refusal C
    refused it why = record { number = it.lines; cause = why }

    -- packs a line that ended
    line_goes : (new : Packer Q) (part : List ℕ) (a b : Seen) (held held1 held2 : List ℕ) (steps steps' : ℕ) → ended_lines part ≡ [] → Puts a b held held1 [] → Appends (P (old.line.items ++ part)) held1 held2 → new.rule ≡ old.rule → new.line.items ≡ [] → new.lines ≡ one_more old.lines
        → Goes Makes bytes made spent (part ++ 10 ∷ []) going new (moment a held steps) (moment b held2 steps')
    line_goes new part a b held held1 held2 steps steps' quiet puts one rule_is none count =
        let whole = ended_lines_line bytes part [] quiet in
        let line : old.line.items ++ part ≡ unended bytes ++ part = ap (λ l. l ++ part) makes.line in
        record {
          more = one.word;
          cost = steps';
          makes = record {
            packs = subst (λ ls. Packs P ls (made ++ one.word)) (sym whole) (packs_more (ended_lines bytes) made (unended bytes ++ part) one.word makes.packs (subst (λ l. P l one.word) line one.is));
            rule_is = rule_is ∙ makes.rule_is;
            line = none ∙ sym (unended_line bytes part [] quiet);
            count = capped_more new.lines old.lines (length (ended_lines bytes)) count makes.count
                ∙ (ap capped (sym (length-append (ended_lines bytes) ((unended bytes ++ part) ∷ []))) ∙ ap (λ ls. capped (length ls)) (sym whole));
          };
          puts = puts_both a b b held held1 held2 [] one.word puts (puts_held b held1 held2 one.word one.appended);
          steps = omega arith;
        }

    -- takes more bytes of a line that has not ended
    pub part_goes : (new : Packer Q) (part : List ℕ) (a : Moment) → ended_lines part ≡ [] → new.line.items ≡ old.line.items ++ part → new.lines ≡ old.lines → new.rule ≡ old.rule → Goes Makes bytes made spent part going new a a
    part_goes new part a quiet line count rule_is = record {
      more = [];
      cost = 0;
      makes = record {
        packs = subst (λ ls. Packs P ls (made ++ [])) (sym (ended_lines_quiet bytes part quiet)) (packs_same (ended_lines bytes) made makes.packs);
        rule_is = rule_is ∙ makes.rule_is;
        line = line ∙ (ap (λ l. l ++ part) makes.line ∙ sym (unended_quiet bytes part quiet));
        count = count ∙ (makes.count ∙ ap (λ ls. capped (length ls)) (sym (ended_lines_quiet bytes part quiet)));
      };
      puts = puts_none a.seen a.held;
      steps = omega arith;
    }

    -- the memory for a line is lacking
    lines_same : Packs P (ended_lines (bytes ++ [])) (made ++ [])
    lines_same = subst (λ l. Packs P (ended_lines l) (made ++ [])) (sym (append-nil bytes)) (packs_same (ended_lines bytes) made makes.packs)

    pub line_lacks : (new : Packer Q) (a b : Seen) (held held1 held2 : List ℕ) (steps steps' : ℕ) → Puts a b held held1 [] → held2 ≡ held1 → Goes Makes bytes made spent [] lacking new (moment a held steps) (moment b held2 steps')
    line_lacks new a b held held1 held2 steps steps' puts none = record {
      more = [];
      cost = steps';
      makes = lines_same;
      puts = subst (λ h. Puts a b held h []) (sym none) puts;
      steps = omega arith;
    }

    -- the refusal of the line after the ended ones
    refusal : (part : List ℕ) (r : Refusal C) (kept : List ℕ) → IsRefusal F (old.line.items ++ part) (one_more old.lines) r kept → IsRefusal F (unended bytes ++ part) (capped (length (ended_lines bytes) + 1)) r kept
    refusal part r kept one =
        let line : old.line.items ++ part ≡ unended bytes ++ part = ap (λ l. l ++ part) makes.line in
        subst (λ l. IsRefusal F l (capped (length (ended_lines bytes) + 1)) r kept) line
        (subst (λ n. IsRefusal F (old.line.items ++ part) n r kept) (capped_more (one_more old.lines) old.lines (length (ended_lines bytes)) refl makes.count) one)

    -- a line that ended is refused
    line_stops : (new : Packer Q) (part : List ℕ) (why : C) (a b : Seen) (held held1 held2 : List ℕ) (steps steps' : ℕ) → ended_lines part ≡ [] → Puts a b held held1 [] → IsRefusal F (old.line.items ++ part) (one_more old.lines) (refused new why) new.kept → held2 ≡ held1
        → Goes Makes bytes made spent (part ++ 10 ∷ []) (stopped false why) new (moment a held steps) (moment b held2 steps')
    line_stops new part why a b held held1 held2 steps steps' quiet puts one none = record {
      more = [];
      cost = steps';
      makes = record {
        before = ended_lines bytes;
        line = unended bytes ++ part;
        after = [];
        stands = ended_lines_line bytes part [] quiet;
        packs = packs_same (ended_lines bytes) made makes.packs;
        is = refusal part (refused new why) new.kept one;
      };
      puts = subst (λ h. Puts a b held h []) (sym none) puts;
      steps = omega arith;
    }

    -- a line that ended halts the machine: memory is lacking, or the line is refused
    line_halts : (new : Packer Q) (part : List ℕ) (a b : Seen) (held held1 held2 : List ℕ) (steps steps' : ℕ) (halt : Halt C) → ended_lines part ≡ [] → Puts a b held held1 [] → EndsLine P F (old.line.items ++ part) (one_more old.lines) held1 held2 new.lines new.kept (Err halt)
        → Halts Makes false bytes made spent (part ++ 10 ∷ []) new (moment a held steps) (moment b held2 steps') halt
    line_halts new part a b held held1 held2 steps steps' WriteFault quiet puts e = absurd e
    line_halts new part a b held held1 held2 steps steps' NoMemory quiet puts e = record { some = []; rest = part ++ 10 ∷ []; cut = refl; goes = line_lacks new a b held held1 held2 steps steps' puts e }
    line_halts new part a b held held1 held2 steps steps' (Stopped r) quiet puts e = line_stops new part r a b held held1 held2 steps steps' quiet puts e.0 e.1

    pub line_feeds : (new : Packer Q) (part : List ℕ) (byte : ℕ) (a b : Seen) (held held1 held2 : List ℕ) (steps steps' : ℕ) (result : Result (Unit {0}) (Halt C)) → byte ≡ 10 → ended_lines part ≡ [] → Puts a b held held1 []
        → EndsLine P F (old.line.items ++ part) (one_more old.lines) held1 held2 new.lines new.kept result → new.rule ≡ old.rule → OnOk result (new.line.items ≡ []) → OnOk result (new.lines ≡ one_more old.lines)
        → Feeds Makes bytes made spent (part ++ byte ∷ []) new (moment a held steps) (moment b held2 steps') result
    line_feeds new part byte a b held held1 held2 steps steps' (Ok u) is quiet puts e rule_is none count =
        subst (λ n. Goes Makes bytes made spent (part ++ n ∷ []) going new (moment a held steps) (moment b held2 steps')) (sym is) (line_goes new part a b held held1 held2 steps steps' quiet puts e rule_is none count)
    line_feeds new part byte a b held held1 held2 steps steps' (Err halt) is quiet puts e rule_is none count =
        subst (λ n. Halts Makes false bytes made spent (part ++ n ∷ []) new (moment a held steps) (moment b held2 steps') halt) (sym is) (line_halts new part a b held held1 held2 steps steps' halt quiet puts e)

    -- ---- the end of the input
    pub last_none : (a : Moment) → old.line.items ≡ [] → Goes Makes bytes made spent [] (finished false) old a a
    last_none a none = record {
      more = [];
      cost = 0;
      makes = (
        subst (λ l. Packs P (lines l) (made ++ [])) (sym (append-nil bytes))
            (subst (λ ls. Packs P ls (made ++ [])) (sym (append-nil (ended_lines bytes)) ∙ ap (λ l. ended_lines bytes ++ last_line l) (sym (sym makes.line ∙ none))) (packs_same (ended_lines bytes) made makes.packs)),
        refl,
      );
      puts = puts_none a.seen a.held;
      steps = omega arith;
    }

    -- if there is a last line without a newline
    module _ (some : old.line.items ≡ [] → ⊥) where
      last_is : last_line (unended bytes) ≡ unended bytes ∷ []
      last_is = some_last (unended bytes) (λ none. some (makes.line ∙ none))

      line_is : unended bytes ++ [] ≡ unended bytes
      line_is = append-nil (unended bytes)

      pub last_goes : (new : Packer Q) (a b : Seen) (held held1 held2 : List ℕ) (steps steps' : ℕ) → Puts a b held held1 [] → Appends (P (old.line.items ++ [])) held1 held2
          → Goes Makes bytes made spent [] (finished false) new (moment a held steps) (moment b held2 steps')
      last_goes new a b held held1 held2 steps steps' puts one = record {
        more = one.word;
        cost = steps';
        makes = (
          subst (λ l. Packs P (lines l) (made ++ one.word)) (sym (append-nil bytes))
              (subst (λ ls. Packs P (ended_lines bytes ++ ls) (made ++ one.word)) (sym last_is)
              (packs_more (ended_lines bytes) made (unended bytes) one.word makes.packs (subst (λ l. P l one.word) (append-nil old.line.items ∙ makes.line) one.is))),
          refl,
        );
        puts = puts_both a b b held held1 held2 [] one.word puts (puts_held b held1 held2 one.word one.appended);
        steps = omega arith;
      }

      last_stops : (new : Packer Q) (why : C) (a b : Seen) (held held1 held2 : List ℕ) (steps steps' : ℕ) → Puts a b held held1 [] → IsRefusal F (old.line.items ++ []) (one_more old.lines) (refused new why) new.kept → held2 ≡ held1
          → Goes Makes bytes made spent [] (stopped true why) new (moment a held steps) (moment b held2 steps')
      last_stops new why a b held held1 held2 steps steps' puts one none = record {
        more = [];
        cost = steps';
        makes = record {
          before = ended_lines (bytes ++ []);
          line = unended bytes;
          after = [];
          stands = (refl, ap (λ l. last_line (unended l)) (append-nil bytes) ∙ last_is);
          packs = lines_same;
          is = subst (λ l. IsRefusal F (unended bytes) (capped (length (ended_lines l) + 1)) (refused new why) new.kept) (sym (append-nil bytes))
              (subst (λ l. IsRefusal F l (capped (length (ended_lines bytes) + 1)) (refused new why) new.kept) line_is (refusal [] (refused new why) new.kept one));
        };
        puts = subst (λ h. Puts a b held h []) (sym none) puts;
        steps = omega arith;
      }

      pub last_halts : (new : Packer Q) (a b : Seen) (held held1 held2 : List ℕ) (steps steps' : ℕ) (halt : Halt C) → Puts a b held held1 [] → EndsLine P F (old.line.items ++ []) (one_more old.lines) held1 held2 new.lines new.kept (Err halt)
          → Halts Makes true bytes made spent [] new (moment a held steps) (moment b held2 steps') halt
      last_halts new a b held held1 held2 steps steps' WriteFault puts e = absurd e
      last_halts new a b held held1 held2 steps steps' NoMemory puts e = record { some = []; rest = []; cut = refl; goes = line_lacks new a b held held1 held2 steps steps' puts e }
      last_halts new a b held held1 held2 steps steps' (Stopped r) puts e = last_stops new r a b held held1 held2 steps steps' puts e.0 e.1

-- a new machine has packed nothing
pub nothing_packed : {Q : Type 0} (P : List ℕ → List ℕ → Type 0) (new : Packer Q) → new.line.items ≡ [] → new.lines ≡ 0 → GoesOn P new.rule [] [] new
nothing_packed P new line count = record { packs = record { words = []; are = tt; text_is = refl }; rule_is = refl; line = line; count = count }
