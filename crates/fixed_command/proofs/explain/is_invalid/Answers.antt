use lib.Pointwise.{bytes_decides, pointwise}
use Rattle.std.proofs.Common.{◌≡◌, ◌∙◌, eqb, true}
use Rattle.fixed_command.specs.Lemmas.MovedLemmas.{no_source_by, source_or_not}
use Rattle.fixed_command.proofs.explain.is_invalid.Goals as goal

pub returns-in-Ok-clause-not : goal.returns-in-Ok-clause-not
returns-in-Ok-clause-not g c = λ is has.
    source_or_not c.args.settings.now.spelling c.args.settings.now c.args.text.now c.args.cause.now c.in-Ok.field-0.bits c.in-Ok.field-0.overflowed c.in-Ok.ensures.source has

pub returns-in-Err-clause-not : goal.returns-in-Err-clause-not
returns-in-Err-clause-not g c = λ is has.
    let same : c.in-Err.message.now ≡ c.args.cause.now = no_source_by c.args.settings.now.spelling c.args.settings.now c.args.text.now c.in-Err.message.now c.args.cause.now c.in-Err.ensures.source has in
    let equal : pointwise eqb c.as_bytes.result.now c.args.cause.now ≡ true = (bytes_decides c.as_bytes.result.now c.args.cause.now).1 (c.as_bytes.ensures.value ∙ same) in
    cc (equal, c.eq.ensures, is)
