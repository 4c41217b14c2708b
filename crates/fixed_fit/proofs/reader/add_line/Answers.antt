use Rattle.std.proofs.Common.{◌≡◌, IfSome, ◌+◌, ◌<◌, ◌∷◌, ◌++◌, [], ℕ, List, max, min, None, true, false, refl, sym, ap, subst, ◌∙◌, arith}
use Rattle.std.proofs.lemmas.Grind.{common_steps}
use Rattle.fixed_bits.specs.declared.mode.ReadMode.TheVariants.{NearestEven}
use Rattle.fixed_error.specs.ErrorSize.{IsReadWithin}
use Rattle.fixed_error.specs.Short.{IsShortRead}
use Rattle.fixed_numeral.specs.Numeral.{IsNumeral}
use Rattle.fixed_numeral.specs.declared.radix.Radix.{Radix}
use Rattle.fixed_fit.specs.ErrorWord.{entries_from}
use Rattle.fixed_fit.specs.Fitting.{choice}
use Rattle.fixed_fit.specs.Inner.Progress.{HasProgress}
use Rattle.fixed_fit.specs.Inner.Serving.{AreServed, HasServing}
use Rattle.fixed_fit.proofs.LineLemmas.{ended, errors_longer, line_numeral, line_within, some_errors, some_served}
use Rattle.fixed_fit.proofs.ProgressLemmas.{is_none}
use Rattle.fixed_fit.proofs.reader.add_line.Goals as goal

pub add_read-requires : goal.add_read-requires
add_read-requires g c =
    let old = c.args.progress.now in
    let new = c.push.new.self in
    let r = c.requires.0 in
    let n = c.requires.1 in
    let done = c.requires.2 in
    let h = c.requires.3 in
    let line : List ℕ = c.args.line.now in
    let none : new.fault ≡ None = is_none new.fault (grind (arith, common_steps, c.is_some.ensures, c.if-is_some.false)) in
    let errors = some_errors r n done c.count.result old c.args.errors.now c.shorten.new.self c.args.within.now h (c.push.ensures.sound none) c.shorten.ensures in
    let known : HasProgress n.width (done ++ line ∷ []) new = c.push.ensures.one_more n.width done h.progress in
    let radix : new.radix ≡ r = c.push.ensures.radix ∙ h.radix in
    record {
      known = (r, _, entries_from 1 done, errors);
      within = λ f less.
          let few : f < max new.plain.count new.signed.count = omega (arith, less, errors.count_is, c.count.ensures) in
          let here : IsReadWithin NearestEven r f line = line_within r n.width f done line new h.width known radix none few in
          subst (λ (x : Radix). IsReadWithin NearestEven x f line) (sym errors.radix) here;
      numeral = subst (λ (x : Radix). IsNumeral x line) (sym errors.radix) (line_numeral r n.width done line new known radix none);
      short = subst (λ (x : Radix). IfSome c.read_short-short.result (IsShortRead x line)) (h.radix ∙ sym errors.radix) c.read_short-short.ensures.read;
    }

pub returns-then-is_some : goal.returns-then-is_some
returns-then-is_some g c = λ r n done h.
    let old = c.args.progress.now in
    let some : c.push.new.self.fault ≡ None → ⊥ = grind (arith, common_steps, c.is_some.ensures, c.if-is_some.true) in
    ended r n done c.args.line.now old c.push.new.self c.args.errors.now c.args.errors.now c.args.within.now c.args.within.now c.push.ensures.one_more c.push.ensures.radix c.push.ensures.fractions (λ none. absurd (some none)) refl (λ is none. absurd (some none)) h

pub returns-in-Ok : goal.returns-in-Ok
returns-in-Ok g c = λ r n done h.
    let old = c.args.progress.now in
    let new = c.push.new.self in
    let line : List ℕ = c.args.line.now in
    let count : ℕ = max old.plain.count old.signed.count in
    let errors = λ (none : new.fault ≡ None).
    let before = some_errors r n done c.count.result old c.args.errors.now c.shorten.new.self c.args.within.now h (c.push.ensures.sound none) c.shorten.ensures in
    let after = c.in-Ok.ensures r (min c.count.result count) (entries_from 1 done) before in
    errors_longer r done line new.lines c.count.result count new.plain.count new.signed.count c.add_read.new.self
    (c.push.ensures.lines ∙ ap (λ (k : ℕ). k + 1) h.progress.count)
    (omega (arith, c.push.ensures.plain)) (omega (arith, c.push.ensures.signed)) c.count.ensures after in
    let radix : new.radix ≡ r = c.push.ensures.radix ∙ h.radix in
    let within = λ (is : n.is_bounded ≡ true) (none : new.fault ≡ None).
    let before : AreServed new.radix n done c.args.within.now = subst (λ (x : Radix). AreServed x n done c.args.within.now) (sym radix) (h.within is (c.push.ensures.sound none)) in
    let after = c.add.ensures.one_more n done (h.is_bounded ∙ is) before (c.push.ensures.lines ∙ ap (λ (k : ℕ). k + 1) h.progress.count) in
    subst (λ (x : Radix). AreServed x n (done ++ line ∷ []) c.add.new.self) radix after in
    ended r n done line old new c.args.errors.now c.add_read.new.self c.args.within.now c.add.new.self c.push.ensures.one_more c.push.ensures.radix c.push.ensures.fractions errors c.add.ensures.is_bounded within h

pub add-requires-clause-numeral : goal.add-requires-clause-numeral
add-requires-clause-numeral g c =
    let new = c.push.new.self in
    let r = c.requires.0 in
    let n = c.requires.1 in
    let done = c.requires.2 in
    let h = c.requires.3 in
    let none : new.fault ≡ None = is_none new.fault (grind (arith, common_steps, c.is_some.ensures, c.if-is_some.false)) in
    let radix : new.radix ≡ r = c.push.ensures.radix ∙ h.radix in
    subst (λ (x : Radix). IsNumeral x c.args.line.now) (sym radix) (line_numeral r n.width done c.args.line.now new (c.push.ensures.one_more n.width done h.progress) radix none)

pub add-requires-clause-plain : goal.add-requires-clause-plain
add-requires-clause-plain g c = λ is.
    let new = c.push.new.self in
    let r = c.requires.0 in
    let n = c.requires.1 in
    let done = c.requires.2 in
    let h = c.requires.3 in
    let none : new.fault ≡ None = is_none new.fault (grind (arith, common_steps, c.is_some.ensures, c.if-is_some.false)) in
    let served = some_served r n done c.args.progress.now c.args.errors.now c.args.within.now is (c.push.ensures.sound none) h in
    (n.is_range, choice false n.fractions, n.widths, n.one, done, subst (λ (x : Radix). HasServing n.is_range x (choice false n.fractions) n.widths n.one done c.args.within.now.plain) (sym (c.push.ensures.radix ∙ h.radix)) served.plain)

pub add-requires-clause-signed : goal.add-requires-clause-signed
add-requires-clause-signed g c = λ is.
    let new = c.push.new.self in
    let r = c.requires.0 in
    let n = c.requires.1 in
    let done = c.requires.2 in
    let h = c.requires.3 in
    let none : new.fault ≡ None = is_none new.fault (grind (arith, common_steps, c.is_some.ensures, c.if-is_some.false)) in
    let served = some_served r n done c.args.progress.now c.args.errors.now c.args.within.now is (c.push.ensures.sound none) h in
    (n.is_range, choice true n.fractions, n.widths, n.one, done, subst (λ (x : Radix). HasServing n.is_range x (choice true n.fractions) n.widths n.one done c.args.within.now.signed) (sym (c.push.ensures.radix ∙ h.radix)) served.signed)
