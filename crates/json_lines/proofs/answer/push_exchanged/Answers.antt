use Rattle.std.proofs.Common.{◌≡◌, ◌==◌, ◌||◌, ◌∷◌, ◌++◌, ◌∙◌, [], ap, sym, take, true}
use Rattle.line_engine.specs.Lines.{kept_length}
use Rattle.json_lines.specs.Pieces.{head}
use Rattle.json_lines.proofs.AnswerLemmas.{is_quoted, quoted_reply, three_parts}
use Rattle.json_lines.proofs.answer.push_exchanged.Goals as goal
use Rattle.json_lines.proofs.answer.push_exchanged.Goals.{then-quotes, else-quotes}

pub returns-then-is_string : goal.returns-then-is_string
returns-then-is_string c =
    let quote = 34 ∷ [] in
    let old = c.args.answer.now in
    let reply = c.args.reply.now in
    let asks : (c.args.quotes || (head c.args.piece.now == 34)) ≡ true = elim c.if-quotes.branch [
      | then-quotes w ↦ ap (λ b. b || (head c.args.piece.now == 34)) w.if-quotes.true
      | else-quotes w ↦ is_quoted c.args.quotes (head c.args.piece.now == 34) (sym (w.value-is ∙ w.is_string.ensures) ∙ c.if-is_string.true)
    ] in
    c.append-then-is_string-3.ensures
    ∙ (ap (λ l. take kept_length (l ++ quote)) (c.append-then-is_string-2.ensures ∙ ap (λ l. take kept_length (l ++ reply)) c.append-then-is_string.ensures)
    ∙ (three_parts kept_length old quote reply quote
    ∙ ap (λ l. take kept_length (old ++ l)) (sym (quoted_reply c.args.quotes c.args.piece.now reply (sym c.is_empty.ensures ∙ c.if-is_empty.false) asks))))
