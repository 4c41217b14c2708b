use Rattle.std.proofs.Common.{ap, sym, ◌∙◌, refl, ◌≡◌}
use Rattle.fixed_numeral.specs.Numeral.{is_minus}
use Rattle.fixed_numeral.specs.Literal.{prefix_of, radix_by, rest_by, literal_radix, literal_rest}
use Rattle.fixed_numeral.proofs.LiteralScanLemmas.{incomplete_rest, literal_cause, no_literal, is_literal, literal_rest_of, sign_is_one}
use Rattle.fixed_numeral.proofs.literal.scan_lit.Goals as goal

pub returns-in-Err-clause-literal : goal.returns-in-Err-clause-literal
returns-in-Err-clause-literal g c =
    let er : c.after_prefix-radix.result.0 ≡ literal_radix c.args.signed c.args.bytes.now = c.after_prefix-radix.ensures.radix ∙ ap (λ bs. radix_by (prefix_of bs)) c.after_sign-neg.ensures.rest in
    let eb : c.after_prefix-radix.result.1.now ≡ literal_rest c.args.signed c.args.bytes.now = c.after_prefix-radix.ensures.rest ∙ ap (λ bs. rest_by (prefix_of bs) bs) c.after_sign-neg.ensures.rest in
    (λ e. absurd (cc), λ n. absurd (no_literal c.args.signed c.args.bytes.now c.in-Err.kind (literal_cause c.args.signed c.args.bytes.now _ _ c.in-Err.kind er eb c.in-Err.ensures.end) n))

pub returns-in-Ok-check_complete-clause-literal : goal.returns-in-Ok-check_complete-clause-literal
returns-in-Ok-check_complete-clause-literal g c =
    let er : c.after_prefix-radix.result.0 ≡ literal_radix c.args.signed c.args.bytes.now = c.after_prefix-radix.ensures.radix ∙ ap (λ bs. radix_by (prefix_of bs)) c.after_sign-neg.ensures.rest in
    let eb : c.after_prefix-radix.result.1.now ≡ literal_rest c.args.signed c.args.bytes.now = c.after_prefix-radix.ensures.rest ∙ ap (λ bs. rest_by (prefix_of bs) bs) c.after_sign-neg.ensures.rest in
    (λ e. is_literal c.args.signed c.args.bytes.now _ _ c.in-Ok.state er eb c.in-Ok.ensures.end c.in-Ok-check_complete.ensures.1, λ n. refl)

pub returns-in-Ok-check_complete-clause-value : goal.returns-in-Ok-check_complete-clause-value
returns-in-Ok-check_complete-clause-value g c =
    let er : c.after_prefix-radix.result.0 ≡ literal_radix c.args.signed c.args.bytes.now = c.after_prefix-radix.ensures.radix ∙ ap (λ bs. radix_by (prefix_of bs)) c.after_sign-neg.ensures.rest in
    let eb : c.after_prefix-radix.result.1.now ≡ literal_rest c.args.signed c.args.bytes.now = c.after_prefix-radix.ensures.rest ∙ ap (λ bs. rest_by (prefix_of bs) bs) c.after_sign-neg.ensures.rest in
    λ p h. c.rest_views.ensures.value p (literal_rest_of c.args.signed c.args.bytes.now _ _ p er eb h) (rw h.sign (sign_is_one c.args.signed c.args.bytes.now)) (c.after_sign-neg.ensures.sign ∙ ap is_minus (sym h.sign))

pub returns-in-Err-check_complete-clause-literal : goal.returns-in-Err-check_complete-clause-literal
returns-in-Err-check_complete-clause-literal g c =
    let er : c.after_prefix-radix.result.0 ≡ literal_radix c.args.signed c.args.bytes.now = c.after_prefix-radix.ensures.radix ∙ ap (λ bs. radix_by (prefix_of bs)) c.after_sign-neg.ensures.rest in
    let eb : c.after_prefix-radix.result.1.now ≡ literal_rest c.args.signed c.args.bytes.now = c.after_prefix-radix.ensures.rest ∙ ap (λ bs. rest_by (prefix_of bs) bs) c.after_sign-neg.ensures.rest in
    (λ e. absurd (cc), λ n. absurd (no_literal c.args.signed c.args.bytes.now c.in-Err-check_complete.kind (literal_cause c.args.signed c.args.bytes.now _ _ c.in-Err-check_complete.kind er eb (incomplete_rest _ _ c.in-Ok.state c.in-Err-check_complete.kind c.in-Ok.ensures.end c.in-Err-check_complete.ensures)) n))

pub returns-in-Err-check_complete-clause-cause : goal.returns-in-Err-check_complete-clause-cause
returns-in-Err-check_complete-clause-cause g c =
    let er : c.after_prefix-radix.result.0 ≡ literal_radix c.args.signed c.args.bytes.now = c.after_prefix-radix.ensures.radix ∙ ap (λ bs. radix_by (prefix_of bs)) c.after_sign-neg.ensures.rest in
    let eb : c.after_prefix-radix.result.1.now ≡ literal_rest c.args.signed c.args.bytes.now = c.after_prefix-radix.ensures.rest ∙ ap (λ bs. rest_by (prefix_of bs) bs) c.after_sign-neg.ensures.rest in
    rw c.new-in-Err-check_complete.ensures (literal_cause c.args.signed c.args.bytes.now _ _ c.in-Err-check_complete.kind er eb (incomplete_rest _ _ c.in-Ok.state c.in-Err-check_complete.kind c.in-Ok.ensures.end c.in-Err-check_complete.ensures))
