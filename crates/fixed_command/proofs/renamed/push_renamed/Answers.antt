use Rattle.std.proofs.Common.{rules, ◌≡◌, ◌∷◌, [], List, ℕ, ap, refl}
use Rattle.fixed_respell.specs.LineWords.{spaced}
use Rattle.fixed_respell.specs.Words.{format_text}
use Rattle.fixed_command.proofs.RenamedLemmas.{kept_by, kept_few, renamed_by}
use Rattle.fixed_command.proofs.renamed.push_renamed.Goals as goal

pub returns-in_ok-extend_from_slice-in-None : goal.returns-in_ok-extend_from_slice-in-None
returns-in_ok-extend_from_slice-in-None c =
    (c.args.line.now, kept_few c.args.line.now c.in-None.ensures, c.in_ok-extend_from_slice-in-None.ensures.items)

pub returns-in_ok-extend_from_slice-in-None-type_named : goal.returns-in_ok-extend_from_slice-in-None-type_named
returns-in_ok-extend_from_slice-in-None-type_named c =
    let f = c.in-Some.fields in
    let words : List (List ℕ) = f.name.now ∷ f.equals.now ∷ f.literal.now ∷ [] in
    (c.args.line.now, kept_by c.args.line.now words f.format.now c.in-Some.ensures refl c.in-None-type_named.ensures, c.in_ok-extend_from_slice-in-None-type_named.ensures.items)

pub returns-in_ok-push_words-in-Some-type_named : goal.returns-in_ok-push_words-in-Some-type_named
returns-in_ok-push_words-in-Some-type_named c =
    let f = c.in-Some.fields in
    let words : List (List ℕ) = f.name.now ∷ f.equals.now ∷ f.literal.now ∷ [] in
    let format = c.in-Some-type_named.format in
    let named = c.in-Some-type_named.ensures in
    let same : c.as_bytes.result.now ≡ format_text format = search rules in
    (spaced words c.as_bytes.result.now, renamed_by c.args.line.now words f.format.now (spaced words c.as_bytes.result.now) format c.in-Some.ensures refl named.0 named.1 (ap (spaced words) same), c.in_ok-push_words-in-Some-type_named.ensures)
