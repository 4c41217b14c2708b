use Rattle.std.proofs.Common.{◌≡◌, ◌++◌, ◌∙◌, ◌∷◌, ap, drop, get_or, sym, arith, ◌+◌}
use Rattle.std.proofs.lemmas.List.{drop_more}
use Rattle.fixed_constants.specs.Plain.{plain_from, plain_line}
use Rattle.fixed_constants.proofs.PlainLemmas.{line_all, line_more}
use Rattle.fixed_constants.proofs.plain.push_plain_line.Goals as goal

pub loop-byte-preserved : goal.loop-byte-preserved
loop-byte-preserved c =
    let i = c.loop-byte.byte-index in
    let line = c.args.line.now in
    let place = c.loop-byte.place in
    let byte = get_or line i 0 in
    let start = c.args.text.now.items ++ plain_line line in
    let more = drop (i + 1) line in
    let here : drop i line ≡ byte ∷ more = drop_more line i 0 (omega arith) in
    let before : start ≡ c.loop-byte.text.items ++ plain_from place (byte ∷ more) = c.loop-byte.invariant ∙ ap (λ l. c.loop-byte.text.items ++ plain_from place l) here in
    line_more place byte more start c.loop-byte.text.items c.push_kept.new.text.items before c.in_ok-push_kept.ensures ∙ ap (λ q. c.push_kept.new.text.items ++ plain_from q more) (sym c.next_place-place.ensures)

pub returns : goal.returns
returns c = line_all c.loop-byte.place c.args.line.now (c.args.text.now.items ++ plain_line c.args.line.now) c.loop-byte.text.items c.loop-byte.byte-index (omega arith) c.loop-byte.invariant
