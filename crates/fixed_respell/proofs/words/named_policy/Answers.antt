use Rattle.std.proofs.Common.{◌%◌, length, refl, arith}
use Rattle.fixed_respell.proofs.KeyLemmas.{each_below}
use Rattle.fixed_respell.proofs.NameLemmas.{line_policy, name_sound}
use Rattle.fixed_respell.proofs.words.named_policy.Goals as goal

pub returns-then-has_bytes : goal.returns-then-has_bytes
returns-then-has_bytes c =
    let name = c.args.name.now in
    rw c.policy_at.ensures (name_sound name (length name % 4) refl c.if-name-place.false (each_below name (λ k. omega (arith, c.type_inv.name k))) (c.has_bytes.ensures.0 c.if-has_bytes.true), line_policy (length name % 4))
