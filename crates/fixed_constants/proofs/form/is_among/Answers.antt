use Rattle.std.proofs.Common.{rules, ◌≡◌, ◌∷◌, ◌++◌, []}
use Rattle.fixed_respell.specs.LineWords.{space}
use Rattle.fixed_constants.proofs.FormLemmas.{among_by}
use Rattle.fixed_constants.proofs.form.is_among.Goals as goal

pub returns : goal.returns
returns c =
    let same : c.as_bytes.result.now ≡ space ∷ (c.args.word.now ++ space ∷ []) = search rules in
    among_by c.args.words.now c.args.word.now c.as_bytes.result.now c.find.result c.is_some.result same c.find.ensures c.is_some.ensures
