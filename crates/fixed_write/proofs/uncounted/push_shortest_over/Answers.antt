use Rattle.std.proofs.Common.{rules}
use Rattle.fixed_write.proofs.StyledLemmas.{shortest_body, body_appended}
use Rattle.fixed_write.proofs.uncounted.push_shortest_over.Goals as goal

pub returns : goal.returns
returns g c = body_appended _ _ _ _ _ _ _ (shortest_body _ _ _ _ c.push_signed_shortest.ensures.shortest (search rules)) c.push_signed_shortest.ensures.appended
