use Rattle.std.proofs.Common.{◌≡◌, ◌≤◌, ◌<◌, [], ◌∷◌, ◌++◌, None, Some, length, ◌∙◌, subst, arith}
use Rattle.std.proofs.lemmas.Grind.{common_steps}
use Rattle.fixed_error.specs.Cut.{IsCutError}
use Rattle.fixed_error.specs.ErrorSize.{HasSteps}
use Rattle.fixed_error.specs.Greatest.{Entry}
use Rattle.fixed_report.proofs.ReportLemmas.{kept_in, kept_out, kept_short, lost_long, lost_out, lost_short, none_of, not_long}
use Rattle.fixed_report.proofs.SumLemmas.{sums_in, sums_out}
use Rattle.fixed_report.specs.Report.{Kept, NeedsMemory, longest_kept}
use Rattle.fixed_report.specs.declared.report.Lost.TheVariants.{NoMemory}
use Rattle.fixed_report.proofs.report.ErrorReport.add.Goals as goal

pub returns-in-None-clause-one_more : goal.returns-in-None-clause-one_more
returns-in-None-clause-one_more g c = λ entries known.
    let inside : Kept = record { radix = c.self.inside.radix; format = c.self.inside.format; mode = c.self.inside.mode; greatest = c.self.inside.greatest; sums = c.self.inside.sums; lost = c.self.inside.lost } in
    kept_out inside c.args.self.now entries (record { place = c.args.place; numeral = c.args.numeral.now }) c.self.view_is c.in-None.ensures.out known

pub returns-in-None-clause-sums : goal.returns-in-None-clause-sums
returns-in-None-clause-sums g c = λ entries known.
    let inside : Kept = record { radix = c.self.inside.radix; format = c.self.inside.format; mode = c.self.inside.mode; greatest = c.self.inside.greatest; sums = c.self.inside.sums; lost = c.self.inside.lost } in
    sums_out inside c.args.self.now entries (record { place = c.args.place; numeral = c.args.numeral.now }) c.self.view_is c.in-None.ensures.out known

pub returns-in-None-clause-lost : goal.returns-in-None-clause-lost
returns-in-None-clause-lost g c =
    let inside : Kept = record { radix = c.self.inside.radix; format = c.self.inside.format; mode = c.self.inside.mode; greatest = c.self.inside.greatest; sums = c.self.inside.sums; lost = c.self.inside.lost } in
    lost_out inside c.args.self.now c.args.numeral.now c.self.view_is c.in-None.ensures.out

pub returns-then-numeral-gt-LONGEST-clause-lost : goal.returns-then-numeral-gt-LONGEST-clause-lost
returns-then-numeral-gt-LONGEST-clause-lost g c =
    let inside : Kept = record { radix = c.self.inside.radix; format = c.self.inside.format; mode = c.self.inside.mode; greatest = c.self.inside.greatest; sums = c.self.inside.sums; lost = c.self.inside.lost } in
    let none : c.self.inside.lost ≡ None = none_of c.self.inside.lost (grind (arith, common_steps, c.is_some.ensures, c.if-is_some.false)) in
    let more : longest_kept < length c.args.numeral.now = omega (arith, c.if-numeral-gt-LONGEST.true) in
    lost_long inside c.args.self.now c.args.numeral.now c.self.view_is none c.in-Some.ensures.in_range more

pub invariant_of-self-in-Ok : goal.invariant_of-self-in-Ok
invariant_of-self-in-Ok g c =
    let e : Entry = record { place = c.args.place; numeral = c.args.numeral.now } in
    let few : length c.args.numeral.now ≤ longest_kept = omega (arith, c.if-numeral-gt-LONGEST.false) in
    record {
      radix = c.add.ensures.radix ∙ c.self.invariant.radix;
      frac = c.add.ensures.frac ∙ c.self.invariant.frac;
      mode = c.add.ensures.mode ∙ c.self.invariant.mode;
      sums = c.add-in-Ok.ensures.known;
      short = kept_short c.self.inside.greatest.numeral.items c.add.new.self.numeral.items c.args.numeral.now longest_kept c.self.invariant.short few c.in-Ok.ensures.kept;
      known = λ none. let old = c.self.invariant.known none in (old.0 ++ e ∷ [], c.in-Ok.ensures.one_more old.0 old.1);
    }

pub returns-in-Ok-clause-one_more : goal.returns-in-Ok-clause-one_more
returns-in-Ok-clause-one_more g c = λ entries known.
    let inside : Kept = record { radix = c.self.inside.radix; format = c.self.inside.format; mode = c.self.inside.mode; greatest = c.self.inside.greatest; sums = c.self.inside.sums; lost = c.self.inside.lost } in
    let none : c.self.inside.lost ≡ None = none_of c.self.inside.lost (grind (arith, common_steps, c.is_some.ensures, c.if-is_some.false)) in
    let e : Entry = record { place = c.args.place; numeral = c.args.numeral.now } in
    kept_in inside c.args.self.now entries e c.self.inside.lost c.add.new.self c.self.view_is none c.in-Some.ensures.in_range c.in-Ok.ensures.one_more known

pub returns-in-Ok-clause-sums : goal.returns-in-Ok-clause-sums
returns-in-Ok-clause-sums g c = λ entries known.
    let inside : Kept = record { radix = c.self.inside.radix; format = c.self.inside.format; mode = c.self.inside.mode; greatest = c.self.inside.greatest; sums = c.self.inside.sums; lost = c.self.inside.lost } in
    let none : c.self.inside.lost ≡ None = none_of c.self.inside.lost (grind (arith, common_steps, c.is_some.ensures, c.if-is_some.false)) in
    let e : Entry = record { place = c.args.place; numeral = c.args.numeral.now } in
    let mode = c.self.inside.mode in
    let r = c.self.inside.radix in
    let error = c.cut_error-error.result in
    let cut : IsCutError mode r c.self.inside.format.frac c.args.numeral.now error = subst (λ f. HasSteps mode r f c.args.numeral.now c.in-Some.ulps → IsCutError mode r f c.args.numeral.now error) c.frac-frac.ensures.frac (c.cut_error-error.ensures.cut mode) c.in-Some.ensures.ulps in
    sums_in inside c.args.self.now entries e error c.self.inside.lost c.add-in-Ok.new.self c.self.view_is none c.in-Some.ensures.in_range cut (λ few. omega (arith, few, c.add-in-Ok.ensures.counted)) c.add-in-Ok.ensures.one_more known

pub returns-in-Err-clause-lost : goal.returns-in-Err-clause-lost
returns-in-Err-clause-lost g c =
    let inside : Kept = record { radix = c.self.inside.radix; format = c.self.inside.format; mode = c.self.inside.mode; greatest = c.self.inside.greatest; sums = c.self.inside.sums; lost = c.self.inside.lost } in
    let none : c.self.inside.lost ≡ None = none_of c.self.inside.lost (grind (arith, common_steps, c.is_some.ensures, c.if-is_some.false)) in
    let few : length c.args.numeral.now ≤ longest_kept = omega (arith, c.if-numeral-gt-LONGEST.false) in
    let needs : NeedsMemory c.self.inside.greatest c.args.numeral.now = record { greater = c.in-Err.ensures.greater; no_room = c.in-Err.ensures.no_room } in
    lost_short inside c.args.self.now c.args.numeral.now (Some NoMemory) c.self.view_is none c.in-Some.ensures.in_range few not_long needs
