use Rattle.std.proofs.Common.{◌≡◌, ◌++◌, ◌∷◌, [], ◌∙◌, ap, subst, sym}
use Rattle.fixed_error.specs.ErrorSize.{HasNoGreaterError}
use Rattle.fixed_error.specs.Greatest.{IsFirstGreatest}
use Rattle.fixed_error.proofs.GreatestLemmas.{kept_new, kept_old, kept_within, self_not_greater, turned}
use Rattle.fixed_error.proofs.greatest.GreatestError.add.Goals as goal

pub returns-in_ok-extend_from_slice-clause-one_more : goal.returns-in_ok-extend_from_slice-clause-one_more
returns-in_ok-extend_from_slice-clause-one_more g c = λ entries h.
    let old = c.args.self.now in
    let items : c.extend_from_slice.new.self.items ≡ c.args.numeral.now = c.in_ok-extend_from_slice.ensures.items ∙ ap (λ l. l ++ c.args.numeral.now) c.clear.ensures.items in
    record {
      frac = h.frac;
      kept = subst (λ l. IsFirstGreatest old.mode old.radix old.frac (entries ++ record { place = c.args.place; numeral = c.args.numeral.now } ∷ []) c.args.place l) (sym items) (kept_new old.mode old.radix old.frac entries old.is_some old.place old.numeral.items c.args.place c.args.numeral.now c.requires.within h.kept (c.is_greater.ensures.greatest.greater c.if-is_greater.true));
    }

pub returns-else-is_greater-clause-one_more : goal.returns-else-is_greater-clause-one_more
returns-else-is_greater-clause-one_more g c = λ entries h.
    let old = c.args.self.now in
    record {
      frac = h.frac;
      kept = kept_old old.mode old.radix old.frac entries old.is_some old.place old.numeral.items c.args.place c.args.numeral.now (c.is_greater.ensures.greatest.some c.if-is_greater.false) h.kept (c.is_greater.ensures.greatest.not c.if-is_greater.false);
    }

pub returns-in_ok-extend_from_slice-clause-not_below : goal.returns-in_ok-extend_from_slice-clause-not_below
returns-in_ok-extend_from_slice-clause-not_below g c =
    let old = c.args.self.now in
    let items : c.extend_from_slice.new.self.items ≡ c.args.numeral.now = c.in_ok-extend_from_slice.ensures.items ∙ ap (λ l. l ++ c.args.numeral.now) c.clear.ensures.items in
    subst (λ l. HasNoGreaterError old.mode old.radix old.frac c.args.numeral.now l) (sym items) (self_not_greater old.mode old.radix old.frac c.args.numeral.now c.requires.within)

pub returns-in_ok-extend_from_slice-clause-not_less : goal.returns-in_ok-extend_from_slice-clause-not_less
returns-in_ok-extend_from_slice-clause-not_less g c = λ some.
    let old = c.args.self.now in
    let items : c.extend_from_slice.new.self.items ≡ c.args.numeral.now = c.in_ok-extend_from_slice.ensures.items ∙ ap (λ l. l ++ c.args.numeral.now) c.clear.ensures.items in
    subst (λ l. HasNoGreaterError old.mode old.radix old.frac old.numeral.items l) (sym items) (turned old.mode old.radix old.frac c.args.numeral.now old.numeral.items (c.is_greater.ensures.greatest.greater c.if-is_greater.true some))

pub returns-else-is_greater-clause-not_less : goal.returns-else-is_greater-clause-not_less
returns-else-is_greater-clause-not_less g c = λ some.
    let old = c.args.self.now in
    self_not_greater old.mode old.radix old.frac old.numeral.items (kept_within old.mode old.radix old.frac c.requires.known.0 old.is_some old.place old.numeral.items some c.requires.known.1.kept)
