use Rattle.std.proofs.Common.{rules, ◌≡◌, ◌++◌, ◌∙◌, List, ℕ, ap, FitsSigned}
use Rattle.std.specs.Prelude.{codes}
use Rattle.std.specs.Int.{w128}
use Rattle.std.proofs.lemmas.Int.{to_z-of_z}
use Rattle.fixed_respell.specs.Words.{format_text}
use Rattle.fixed_write.specs.Texts.{shortest_text}
use Rattle.fixed_constants.specs.Forms.{c_comment}
use Rattle.fixed_constants.proofs.CanonicalLemmas.{five_pieces}
use Rattle.fixed_constants.proofs.sources.push_c_comment.Goals as goal

pub returns : goal.returns
unfolding c_comment
returns g c =
    let fits : FitsSigned w128 c.args.bits = search rules in
    let shown = rw (to_z-of_z w128 c.args.bits fits) at c.push_shortest.ensures.appended in
    let t : List ℕ = c.args.text.now.items in
    let a : c.extend_from_slice.new.self.items ≡ t ++ codes " /* " = c.in_ok-extend_from_slice.ensures.items in
    let b : c.extend_from_slice-2.new.self.items ≡ c.extend_from_slice.new.self.items ++ format_text c.args.format = search rules in
    let d : c.extend_from_slice-3.new.self.items ≡ c.extend_from_slice-2.new.self.items ++ codes ", " = c.in_ok-extend_from_slice-3.ensures.items in
    let e : c.extend_from_slice-4.new.self.items ≡ c.extend_from_slice-3.new.self.items ++ shortest_text c.args.bits c.args.format.frac =
    c.in_ok-extend_from_slice-4.ensures.items ∙ ap (λ x. c.extend_from_slice-3.new.self.items ++ x) (c.as_bytes-2.ensures.value ∙ (shown ∙ (ap (λ x. x ++ shortest_text c.args.bits c.frac.result) c.new-value.ensures ∙ ap (shortest_text c.args.bits) c.frac.ensures.frac))) in
    let f : c.extend_from_slice-5.new.self.items ≡ c.extend_from_slice-4.new.self.items ++ codes " */\n" = c.in_ok-extend_from_slice-5.ensures.items in
    five_pieces t _ _ _ _ _ _ _ _ _ _ a b d e f
