use Rattle.std.proofs.Common.{rules, ◌≡◌, ◌++◌, ◌∷◌, []}
use Rattle.fixed_respell.specs.Words.{format_text}
use Rattle.fixed_constants.specs.Canonical.{literal_text}
use Rattle.fixed_constants.proofs.CanonicalLemmas.{entry_pieces}
use Rattle.fixed_constants.proofs.canonical.push_entry.Goals as goal

pub returns : goal.returns
returns c =
    let l : c.as_bytes.result.now ≡ literal_text c.args.constant.now.bits c.args.constant.now.format.frac = search rules in
    let f : c.as_bytes-2.result.now ≡ format_text c.args.constant.now.format = search rules in
    let a : c.extend_from_slice.new.self.items ≡ c.args.text.now.items ++ c.args.constant.now.name = search rules in
    let b : c.extend_from_slice-2.new.self.items ≡ c.extend_from_slice.new.self.items ++ (32 ∷ 61 ∷ 32 ∷ []) = c.in_ok-extend_from_slice-2.ensures.items in
    let d : c.extend_from_slice-3.new.self.items ≡ c.extend_from_slice-2.new.self.items ++ c.as_bytes.result.now = c.in_ok-extend_from_slice-3.ensures.items in
    let e : c.push.new.self.items ≡ c.extend_from_slice-3.new.self.items ++ 32 ∷ [] = c.in_ok-push.ensures.items in
    let g : c.extend_from_slice-4.new.self.items ≡ c.push.new.self.items ++ c.as_bytes-2.result.now = c.in_ok-extend_from_slice-4.ensures.items in
    let h : c.push-2.new.self.items ≡ c.extend_from_slice-4.new.self.items ++ 10 ∷ [] = c.in_ok-push-2.ensures.items in
    entry_pieces c.args.text.now.items c.args.constant.now _ _ _ _ _ _ _ _ l f a b d e g h
