use Rattle.std.proofs.Common.{rules, ◌||◌, Bool, true, false, ◌≡◌, suc, ◌+◌, ◌^◌, ◌<◌, ◌≤◌, ◌++◌, ◌∷◌, [], length, take, get_or, ◌∙◌, refl, sym, ap, subst, arith}
use Rattle.std.proofs.lemmas.List.{drop-set-lt, length-set, length-take, take_all, take_more_set}
use Rattle.std.proofs.lemmas.Bool.{false≢true}
use Rattle.std.specs.Prelude.{min}
use Rattle.fixed_error.specs.Errors.{AreBoundsNearHalf, AreLengthErrors, ArePassed}
use Rattle.fixed_error.specs.Greatest.{Entry}
use Rattle.fixed_error.specs.Inner.Rest.{IsRest}
use Rattle.fixed_error.proofs.ErrorsLemmas.{element, error_more, left_one_less, rest_moved, some_error, within_moved}
use Rattle.fixed_error.proofs.WordLemmas.{all_written, none_passed, unchanged}
use Rattle.fixed_error.proofs.RestLemmas.{parts_most, power_within, rest_halved}
use Rattle.fixed_error.proofs.errors.GreatestErrors.add_rest.Goals as goal

pub add-requires-clause-known : goal.add-requires-clause-known
add-requires-clause-known g c =
    let inv = c.loop-error.invariant in
    let has = c.requires.known.3 in
    let less : c.loop-error.error-index < length c.loop-error.error-items = let test = c.loop-error-test.true in omega (arith, test, inv.long) in
    let all = subst (AreLengthErrors c.requires.known.0 0 c.requires.known.2) (sym c.deref_mut-error-items.ensures.value) has.errors in
    let x = get_or c.loop-error.error-items c.loop-error.error-index c.error-item.result in
    (c.requires.known.2, some_error c.requires.known.0 c.loop-error.error-index c.requires.known.2 x (element c.requires.known.0 c.requires.known.2 c.loop-error.error-items c.deref_mut-error-items.result.now c.loop-error.error-index c.error-item.result less inv.long inv.left all))

pub add-requires-clause-within : goal.add-requires-clause-within
add-requires-clause-within g c =
    let inv = c.loop-error.invariant in
    let has = c.requires.known.3 in
    let less : c.loop-error.error-index < length c.loop-error.error-items = let test = c.loop-error-test.true in omega (arith, test, inv.long) in
    let all = subst (AreLengthErrors c.requires.known.0 0 c.requires.known.2) (sym c.deref_mut-error-items.ensures.value) has.errors in
    let x = get_or c.loop-error.error-items c.loop-error.error-index c.error-item.result in
    let h = element c.requires.known.0 c.requires.known.2 c.loop-error.error-items c.deref_mut-error-items.result.now c.loop-error.error-index c.error-item.result less inv.long inv.left all in
    let long : length c.deref_mut-error-items.result.now ≡ length c.args.self.now.errors.items = ap length c.deref_mut-error-items.ensures.value in
    within_moved c.args.self.now.radix x.greatest.radix c.loop-error.error-index x.greatest.frac c.args.numeral.now (has.radix ∙ sym h.is_greatest.radix) (sym h.is_greatest.frac) (c.requires.within c.loop-error.error-index (omega (arith, less, inv.long, long)))

pub add-requires-clause-rest : goal.add-requires-clause-rest
add-requires-clause-rest g c =
    let inv = c.loop-error.invariant in
    let has = c.requires.known.3 in
    let less : c.loop-error.error-index < length c.loop-error.error-items = let test = c.loop-error-test.true in omega (arith, test, inv.long) in
    let all = subst (AreLengthErrors c.requires.known.0 0 c.requires.known.2) (sym c.deref_mut-error-items.ensures.value) has.errors in
    let x = get_or c.loop-error.error-items c.loop-error.error-index c.error-item.result in
    let h = element c.requires.known.0 c.requires.known.2 c.loop-error.error-items c.deref_mut-error-items.result.now c.loop-error.error-index c.error-item.result less inv.long inv.left all in
    rest_moved c.args.self.now.radix x.greatest.radix c.loop-error.error-index x.greatest.frac c.args.numeral.now c.loop-error.rest (has.radix ∙ sym h.is_greatest.radix) (sym h.is_greatest.frac) inv.rest

pub halved-rest-requires-clause-one : goal.halved-rest-requires-clause-one
halved-rest-requires-clause-one g c = let one = c.loop-error.invariant.rest.one in omega (arith, one, parts_most c.args.self.now.radix)

pub halved-rest-requires-clause-slack : goal.halved-rest-requires-clause-slack
halved-rest-requires-clause-slack g c =
    let inv = c.loop-error.invariant in
    let has = c.requires.known.3 in
    let k = c.loop-error.error-index in
    let long : length c.deref_mut-error-items.result.now ≡ length c.args.self.now.errors.items = ap length c.deref_mut-error-items.ensures.value in
    let less = c.loop-error-test.true in
    let few = inv.rest.few in
    let most : k + 3 ≤ 67 = omega (arith, less, inv.long, long, has.count_is, has.most) in
    let m : 2 ^ (k + 3) ≤ 2 ^ 67 = power_within 2 (k + 3) 67 (omega arith) most in
    omega (arith, few, m)

neither : (one other : Bool) → (one || other) ≡ false → (one ≡ false) × (other ≡ false)
neither true other e = absurd (false≢true (sym e))
neither false other e = (refl, e)

pub loop-error-preserved : goal.loop-error-preserved
loop-error-preserved g c =
    let inv = c.loop-error.invariant in
    let k = c.loop-error.error-index in
    let items = c.loop-error.error-items in
    let initial = c.deref_mut-error-items.result.now in
    let new = c.add.new.self in
    let next : suc k ≡ k + 1 = omega arith in
    let less : k < length items = let test = c.loop-error-test.true in omega (arith, test, inv.long) in
    record {
      rest = subst (λ f. IsRest c.args.self.now.radix f c.args.numeral.now c.halved-rest.result) next (rest_halved c.args.self.now.radix k c.args.numeral.now c.loop-error.rest c.halved-rest.result inv.rest c.halved-rest.ensures.one c.halved-rest.ensures.rest c.halved-rest.ensures.below c.halved-rest.ensures.slack);
      same = λ is.
          let either = neither c.loop-error.is_changed c.in_ok-changes.changes is in
          unchanged items initial k c.error-item.result new (c.in_ok-changes.ensures.same either.1) (inv.same either.0);
      long = length-set items k new ∙ inv.long;
      left = drop-set-lt (k + 1) items k new (omega arith) ∙ left_one_less items initial k inv.left;
      done = λ r entries all.
          let e : Entry = record { place = c.args.place; numeral = c.args.numeral.now } in
          let at = element r entries items initial k c.error-item.result less inv.long inv.left all in
          let grown = c.in_ok-changes.ensures.added r k entries at in
          subst (AreLengthErrors r 0 (entries ++ e ∷ [])) (sym (take_more_set items k new less)) (error_more r 0 k (entries ++ e ∷ []) (take k items) new (let long : length (take k items) ≡ min k (length items) = length-take k items in omega (arith, long, less)) (inv.done r entries all) grown);
    }

pub returns-then-not-is_changed : goal.returns-then-not-is_changed
returns-then-not-is_changed g c = λ r count entries h.
    let inv = c.loop-error.invariant in
    let items = c.loop-error.error-items in
    let k = c.loop-error.error-index in
    let entry : Entry = record { place = c.args.place; numeral = c.args.numeral.now } in
    let long : length items ≡ c.args.self.now.errors.len = inv.long ∙ c.deref_mut-error-items.ensures.len in
    let all = subst (AreLengthErrors r 0 entries) (sym c.deref_mut-error-items.ensures.value) h.errors in
    let done : take k items ≡ items = take_all k items (let test = c.loop-error-test.false in omega (arith, test, inv.long)) in
    let whole = all_written c.args.self.now.errors.len items c.args.self.now.errors.items long in
    let same = whole ∙ inv.same c.if-not-is_changed.true ∙ c.deref_mut-error-items.ensures.value in
    record {
      radix = h.radix;
      most = h.most;
      count_is = ap length same ∙ h.count_is;
      errors = subst (AreLengthErrors r 0 (entries ++ entry ∷ [])) (done ∙ sym whole) (inv.done r entries all);
      near = λ is. subst AreBoundsNearHalf (sym same) (h.near is);
      passed = subst (ArePassed c.args.self.now.passed) (sym same) h.passed;
    }

pub returns : goal.returns
returns g c = λ r count entries h.
    let inv = c.loop-error.invariant in
    let items = c.loop-error.error-items in
    let k = c.loop-error.error-index in
    let entry : Entry = record { place = c.args.place; numeral = c.args.numeral.now } in
    let long : length items ≡ c.args.self.now.errors.len = inv.long ∙ c.deref_mut-error-items.ensures.len in
    let all = subst (AreLengthErrors r 0 entries) (sym c.deref_mut-error-items.ensures.value) h.errors in
    let done : take k items ≡ items = take_all k items (let test = c.loop-error-test.false in omega (arith, test, inv.long)) in
    let whole = all_written c.args.self.now.errors.len items c.args.self.now.errors.items long in
    record {
      radix = h.radix;
      most = h.most;
      count_is = search rules;
      errors = subst (AreLengthErrors r 0 (entries ++ entry ∷ [])) (done ∙ sym whole) (inv.done r entries all);
      near = search rules;
      passed = rw c.no_words-self.ensures (none_passed 1024 _);
    }
