-- Blocks, written one after another.
use Rattle.std.proofs.Common.{◌≡◌, ℕ, List, [], ◌∷◌, ◌++◌, Bool, true, false, ◌||◌, flat_map, map, drop, get_or, length, ◌<◌, arith, refl, sym, ap, ◌∙◌, subst, append_assoc, append-nil}
use Rattle.std.specs.declared.option.Option.{Option}
use Rattle.std.specs.Io.KnownBytes.{Appends}
use Rattle.std.proofs.KnownBytes.{Appends-trans}
use Rattle.line_engine.specs.AnswerText.{AnswerText}
use Rattle.line_engine.specs.Output.{AppendsPrefix, any_fault}
use Rattle.line_engine.proofs.Public.{AreAnswers-append, any_fault-append}
use Rattle.fixed_show.specs.declared.form.Form.{Form}
use Rattle.fixed_command.specs.Blocks.{BreaksBlocks, IsAnswered, WritesBlocks, answers_text, ending, lead, next_text}
use Rattle.fixed_command.specs.declared.blocks.Question.{Question}

abbrev pub has_block : List AnswerText → Bool
has_block [] = false
has_block (b ∷ blocks) = true

-- the answers to the first words were written, and `rest` are the other words
pub record HasWritten (form : Form) (q : Question) (words rest : List (List ℕ)) (before now : Option (List ℕ)) (begun fault : Bool) : Type 0 where
  pub done : List (List ℕ)
  pub split : words ≡ done ++ rest
  pub writes : WritesBlocks form q done before now fault
  pub begins : begun ≡ has_block writes.blocks

next_more : (form : Form) (blocks : List AnswerText) (block : AnswerText) → flat_map (next_text form) (blocks ++ block ∷ []) ≡ flat_map (next_text form) blocks ++ next_text form block
next_more form [] block = append-nil (next_text form block)
next_more form (b ∷ blocks) block = ap (λ t. next_text form b ++ t) (next_more form blocks block) ∙ sym (append_assoc (next_text form b) (flat_map (next_text form) blocks) (next_text form block))

text_more : (form : Form) (blocks : List AnswerText) (block : AnswerText) → answers_text form (blocks ++ block ∷ []) ≡ answers_text form blocks ++ (lead form (has_block blocks) ++ (block.text ++ ending form))
text_more form [] block = ap (λ t. block.text ++ t) (append-nil (ending form))
text_more form (b ∷ blocks) block =
    ap (λ t. b.text ++ (ending form ++ t)) (next_more form blocks block)
    ∙ ap (λ t. b.text ++ t) (sym (append_assoc (ending form) (flat_map (next_text form) blocks) (next_text form block)))
    ∙ sym (append_assoc b.text (ending form ++ flat_map (next_text form) blocks) (next_text form block))

more_blocks : (blocks : List AnswerText) (block : AnswerText) → true ≡ has_block (blocks ++ block ∷ [])
more_blocks [] block = refl
more_blocks (b ∷ blocks) block = refl

fault_one : (block : AnswerText) → any_fault (block ∷ []) ≡ block.fault
fault_one block = by_flag block.fault
  where
    by_flag : (b : Bool) → (b || false) ≡ b
    by_flag true = refl
    by_flag false = refl

words_more : (words done rest : List (List ℕ)) (word : List ℕ) → words ≡ done ++ (word ∷ rest) → words ≡ (done ++ word ∷ []) ++ rest
words_more words done rest word split = split ∙ sym (append_assoc done (word ∷ []) rest)

pub none_written : (form : Form) (q : Question) (words : List (List ℕ)) (before : Option (List ℕ)) → Appends before before [] → HasWritten form q words words before before false false
none_written form q words before same = record { done = []; split = refl; writes = record { blocks = []; answers = tt; output = same; faulty = refl }; begins = refl }

pub one_more : (form : Form) (q : Question) (words rest : List (List ℕ)) (word : List ℕ) (block : AnswerText) (before now next : Option (List ℕ)) (begun fault both : Bool) → HasWritten form q words (word ∷ rest) before now begun fault → IsAnswered form q word block → Appends now next (lead form begun ++ (block.text ++ ending form)) → both ≡ (fault || block.fault) → HasWritten form q words rest before next true both
one_more form q words rest word block before now next begun fault both so_far is appends either =
    let w = so_far.writes in
    let same : Appends now next (lead form (has_block w.blocks) ++ (block.text ++ ending form)) = subst (λ b. Appends now next (lead form b ++ (block.text ++ ending form))) so_far.begins appends in
    record {
      done = so_far.done ++ word ∷ [];
      split = words_more words so_far.done rest word so_far.split;
      writes = record {
        blocks = w.blocks ++ block ∷ [];
        answers = AreAnswers-append (IsAnswered form q) so_far.done (word ∷ []) w.blocks (block ∷ []) w.answers (is, tt);
        output = rw (text_more form w.blocks block) (Appends-trans before now next (answers_text form w.blocks) (lead form (has_block w.blocks) ++ (block.text ++ ending form)) w.output same);
        faulty = any_fault-append w.blocks (block ∷ []) ∙ ap (λ b. any_fault w.blocks || b) (fault_one block) ∙ ap (λ b. b || block.fault) w.faulty ∙ sym either;
      };
      begins = more_blocks w.blocks block;
    }

pub broken : (form : Form) (q : Question) (words rest : List (List ℕ)) (word : List ℕ) (block : AnswerText) (before now next : Option (List ℕ)) (begun fault : Bool) → HasWritten form q words (word ∷ rest) before now begun fault → IsAnswered form q word block → AppendsPrefix now next (lead form begun ++ (block.text ++ ending form)) → BreaksBlocks form q words before next
broken form q words rest word block before now next begun fault so_far is cut =
    let w = so_far.writes in
    let part : AppendsPrefix now next (lead form (has_block w.blocks) ++ (block.text ++ ending form)) = subst (λ b. AppendsPrefix now next (lead form b ++ (block.text ++ ending form))) so_far.begins cut in
    record {
      some = so_far.done ++ word ∷ [];
      more = rest;
      cut = words_more words so_far.done rest word so_far.split;
      blocks = w.blocks ++ block ∷ [];
      answers = AreAnswers-append (IsAnswered form q) so_far.done (word ∷ []) w.blocks (block ∷ []) w.answers (is, tt);
      output = record {
        prefix = answers_text form w.blocks ++ part.prefix;
        rest = part.rest;
        split = text_more form w.blocks block ∙ ap (λ t. answers_text form w.blocks ++ t) part.split ∙ sym (append_assoc (answers_text form w.blocks) part.prefix part.rest);
        appends = Appends-trans before now next (answers_text form w.blocks) part.prefix w.output part.appends;
      };
    }

pub all_written : (form : Form) (q : Question) (words : List (List ℕ)) (before now : Option (List ℕ)) (begun fault : Bool) → HasWritten form q words [] before now begun fault → WritesBlocks form q words before now fault
all_written form q words before now begun fault so_far = subst (λ ws. WritesBlocks form q ws before now fault) (sym (so_far.split ∙ append-nil so_far.done)) so_far.writes

-- ---- the remaining words, one by one
pub first_and_rest : {X : Type 0} (f : X → List ℕ) (xs : List X) (d : X) → 0 < length xs → map f xs ≡ f (get_or xs 0 d) ∷ map f (drop 1 xs)
first_and_rest f [] d some = absurd (omega (arith, some))
first_and_rest f (x ∷ xs) d some = refl
