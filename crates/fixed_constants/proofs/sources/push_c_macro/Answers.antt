use Rattle.std.proofs.Common.{rules, ◌≡◌, ◌++◌, List, ℕ}
use Rattle.std.specs.Prelude.{codes}
use Rattle.std.specs.Fmt.{decimal}
use Rattle.fixed_constants.specs.Forms.{c_macro, macro_stem}
use Rattle.fixed_constants.proofs.CanonicalLemmas.{three_pieces}
use Rattle.fixed_constants.proofs.sources.push_c_macro.Goals as goal

pub returns : goal.returns
unfolding c_macro
returns c =
    let t : List ℕ = c.args.text.now.items in
    let a : c.extend_from_slice.new.self.items ≡ t ++ macro_stem c.args.format.signed = search rules in
    let b : c.extend_from_slice-2.new.self.items ≡ c.extend_from_slice.new.self.items ++ decimal c.args.format.width = search rules in
    let d : c.extend_from_slice-3.new.self.items ≡ c.extend_from_slice-2.new.self.items ++ codes "_C" = c.in_ok-extend_from_slice-3.ensures.items in
    three_pieces t _ _ _ _ _ _ a b d
