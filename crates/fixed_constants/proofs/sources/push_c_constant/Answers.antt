use Rattle.std.proofs.Common.{rules, ◌≡◌, ◌++◌, List, ℕ, pos}
use Rattle.std.specs.Prelude.{codes}
use Rattle.fixed_constants.specs.Canonical.{literal_text}
use Rattle.fixed_constants.specs.Forms.{c_constant, c_macro}
use Rattle.fixed_constants.proofs.CanonicalLemmas.{four_pieces}
use Rattle.fixed_constants.proofs.sources.push_c_constant.Goals as goal

pub returns : goal.returns
unfolding c_constant
returns c =
    let t : List ℕ = c.args.text.now.items in
    let a : c.push_c_macro.new.text.items ≡ t ++ c_macro c.args.format = search rules in
    let b : c.extend_from_slice.new.self.items ≡ c.push_c_macro.new.text.items ++ codes "(" = c.in_ok-extend_from_slice.ensures.items in
    let d : c.push_hexadecimal.new.text.items ≡ c.extend_from_slice.new.self.items ++ literal_text (pos c.args.number) 0 = search rules in
    let e : c.extend_from_slice-2.new.self.items ≡ c.push_hexadecimal.new.text.items ++ codes ")" = c.in_ok-extend_from_slice-2.ensures.items in
    four_pieces t _ _ _ _ _ _ _ _ a b d e
