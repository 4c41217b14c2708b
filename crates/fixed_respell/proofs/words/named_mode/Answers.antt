use Rattle.std.proofs.Common.{arith}
use Rattle.fixed_respell.proofs.KeyLemmas.{each_below}
use Rattle.fixed_respell.proofs.NameLemmas.{line_mode, mode_sound}
use Rattle.fixed_respell.proofs.words.named_mode.Goals as goal

pub returns-then-has_ends : goal.returns-then-has_ends
returns-then-has_ends c =
    let name = c.args.name.now in
    let place = c.from-place.result in
    rw c.mode_at.ensures (mode_sound name place (omega (arith, c.from-place.ensures)) c.if-name-place.false (each_below name (λ k. omega (arith, c.type_inv.name k))) (c.has_ends.ensures.0 c.if-has_ends.true), line_mode place)
