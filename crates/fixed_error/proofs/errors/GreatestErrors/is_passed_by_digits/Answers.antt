use Rattle.std.proofs.Common.{◌≡◌, ℕ, ◌-◌, ◌≤◌, List, length, take, drop, ap, ◌∙◌, sym, subst, arith}
use Rattle.std.specs.Prelude.{min}
use Rattle.std.proofs.lemmas.List.{length-drop, length-take, take_all}
use Rattle.fixed_error.specs.Errors.{AreBoundsNearHalf, AreWordsWithin}
use Rattle.fixed_error.specs.declared.errors.LengthError.{LengthError}
use Rattle.fixed_error.proofs.WordLemmas.{near_dropped, near_taken, words_joined}
use Rattle.fixed_error.proofs.errors.GreatestErrors.is_passed_by_digits.Goals as goal

pub slice_bounds-are_within_by_digits-end : goal.slice_bounds-are_within_by_digits-end
slice_bounds-are_within_by_digits-end c =
    let long : length c.deref-2.result.now ≡ length c.args.self.now.errors.items = ap length c.deref-2.ensures.value in
    let taken : length (take 53 c.deref-2.result.now) ≡ min 53 (length c.deref-2.result.now) = length-take 53 c.deref-2.result.now in
    let more = c.if-len-le-MOST_LENGTHS.false in
    omega (arith, taken, long, more, c.len.ensures)

pub are_within_by_digits-requires-2-clause-few : goal.are_within_by_digits-requires-2-clause-few
are_within_by_digits-requires-2-clause-few c = let long : length (take 53 c.deref-2.result.now) ≡ min 53 (length c.deref-2.result.now) = length-take 53 c.deref-2.result.now in omega (arith, long)

pub are_within_by_digits-requires-2-clause-near : goal.are_within_by_digits-requires-2-clause-near
are_within_by_digits-requires-2-clause-near c = near_taken c.deref-2.result.now 53 (subst AreBoundsNearHalf (sym c.deref-2.ensures.value) (c.requires.near c.if-not-self.false))

pub are_within_by_digits-requires-then-are_within_by_digits-clause-near : goal.are_within_by_digits-requires-then-are_within_by_digits-clause-near
are_within_by_digits-requires-then-are_within_by_digits-clause-near c =
    let errors = c.deref-then-are_within_by_digits.result.now in
    near_taken (drop 53 errors) (length errors - 53) (near_dropped 53 errors (subst AreBoundsNearHalf (sym c.deref-then-are_within_by_digits.ensures.value) (c.requires.near c.if-not-self.false)))

pub returns-then-are_within_by_digits : goal.returns-then-are_within_by_digits
returns-then-are_within_by_digits c = λ is.
    let word = c.args.word in
    let errors = c.args.self.now.errors.items in
    let later = c.deref-then-are_within_by_digits.result.now in
    let same : later ≡ errors = c.deref-then-are_within_by_digits.ensures.value in
    let first : AreWordsWithin word (take 53 errors) = subst (λ (xs : List LengthError). AreWordsWithin word (take 53 xs)) c.deref-2.ensures.value (c.are_within_by_digits-2.ensures c.if-are_within_by_digits.true) in
    let long : length (drop 53 later) ≤ length later - 53 = omega (arith, length-drop 53 later) in
    let whole : take (length later - 53) (drop 53 later) ≡ drop 53 errors = take_all (length later - 53) (drop 53 later) long ∙ ap (drop 53) same in
    let rest : AreWordsWithin c.word_at.result (drop 53 errors) = subst (AreWordsWithin c.word_at.result) whole (c.are_within_by_digits-then-are_within_by_digits.ensures is) in
    words_joined word 53 errors c.requires.word first (subst (λ (w : ℕ). AreWordsWithin w (drop 53 errors)) c.word_at.ensures rest)
