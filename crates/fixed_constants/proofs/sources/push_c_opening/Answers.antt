use Rattle.std.proofs.Common.{rules, ◌≡◌, ◌++◌, List, ℕ}
use Rattle.fixed_constants.specs.Forms.{c_opening, guard_test}
use Rattle.fixed_constants.proofs.CanonicalLemmas.{two_pieces}
use Rattle.fixed_constants.proofs.sources.push_c_opening.Goals as goal

pub returns : goal.returns
unfolding c_opening
returns c =
    let t : List ℕ = c.args.text.now.items in
    let a : c.push_guard_test.new.text.items ≡ t ++ guard_test c.args.guard.now = search rules in
    two_pieces t _ _ _ _ a c.in_ok-extend_from_slice.ensures.items
