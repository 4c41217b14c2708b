use Rattle.std.proofs.Common.{subst, sym}
use Rattle.fixed_names.specs.Names.{IsName}
use Rattle.fixed.proofs.settings.format_of.Goals as goal

pub returns-in-None-clause-refused : goal.returns-in-None-clause-refused
returns-in-None-clause-refused c f named =
    c.in-None.ensures f (subst (λ w. IsName w f) (sym c.as_bytes.ensures.value) named)
