use Rattle.fixed_fit.specs.Inner.Serving.{asked_of}
use Rattle.fixed_fit.proofs.ReadingLemmas.{fresh_reader}
use Rattle.fixed_fit.proofs.reader.new_reader.Goals as goal

pub returns : goal.returns
returns c = λ is range bound widths one same served.
    fresh_reader c.args.radix (asked_of c.args.width c.args.fractions is range bound widths one) c.args.layout.now (record { line = c.new-2.result; progress = c.new-progress.result; errors = c.in_ok-errors.errors; within = c.args.within; layout = c.same_layout.result }) c.count.result
    c.requires c.same_layout.ensures c.new-2.ensures.items c.new-progress.ensures.none c.new-progress.ensures.radix c.new-progress.ensures.fractions c.count.ensures c.in_ok-errors.ensures same served
