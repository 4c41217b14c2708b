use Rattle.std.proofs.Common.{rules, ◌≡◌, ◌++◌, List, ℕ}
use Rattle.std.specs.Prelude.{codes}
use Rattle.fixed_constants.specs.Forms.{c_constant, c_lowest}
use Rattle.fixed_constants.proofs.CanonicalLemmas.{three_pieces}
use Rattle.fixed_constants.proofs.sources.push_c_lowest.Goals as goal

pub returns : goal.returns
unfolding c_lowest
returns c =
    let t : List ℕ = c.args.text.now.items in
    let a : c.extend_from_slice.new.self.items ≡ t ++ codes "(-" = c.in_ok-extend_from_slice.ensures.items in
    let b : c.push_c_constant.new.text.items ≡ c.extend_from_slice.new.self.items ++ c_constant c.args.format c.args.above = search rules in
    let d : c.extend_from_slice-2.new.self.items ≡ c.push_c_constant.new.text.items ++ codes " - 1)" = c.in_ok-extend_from_slice-2.ensures.items in
    three_pieces t _ _ _ _ _ _ a b d
