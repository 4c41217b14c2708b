use Rattle.std.proofs.Common.{◌≡◌, ◌∙◌, ◌*◌, ◌≤◌, List, ℕ, ap, arith, length, subst, sym, take}
use Rattle.run_engine.proofs.Public.{goes_none}
use Rattle.run_engine.specs.Machines.{Goes, going}
use Rattle.run_engine.specs.Seen.{moment}
use Rattle.fixed_pack.proofs.RecodeLemmas.{front_goes, front_within}
use Rattle.fixed_pack.specs.Recoded.{AreFront, MakesWords}
use Rattle.fixed_pack.proofs.recoder.Recoder.recode_front.Goals as goal

pub returns-then-not-is_empty-clause-goes : goal.returns-then-not-is_empty-clause-goes
returns-then-not-is_empty-clause-goes g c = λ rule watch before made spent makes.
    goes_none (MakesWords (g.R.Recode.size rule) (g.R.Recode.Recodes rule) (g.R.Recode.Refuses rule) g.W.WordWatch.Saw rule watch) before made spent c.args.self.now
    (moment (g.I.Streams.seen c.args.out.now.io) c.args.out.now.text c.args._steps.now) makes

pub overflow_mul-result : goal.overflow_mul-result
overflow_mul-result g c =
    let rule = c.args.self.now.rule in
    let count : ℕ = c.recode_front-count.result in
    let within : g.R.Recode.size rule * count ≤ length c.args.bytes.now = front_within (g.R.Recode.size rule) (g.R.Recode.Recodes rule) c.args.bytes.now c.args.out.now.text c.recode_front-count.new._out count c.recode_front-count.ensures in
    let product : c.count.result * count ≡ g.R.Recode.size rule * count = ap (λ n. n * count) c.count.ensures.value in
    omega (arith, within, product)

pub returns-clause-within : goal.returns-clause-within
returns-clause-within g c =
    let rule = c.args.self.now.rule in
    let count : ℕ = c.recode_front-count.result in
    let within : g.R.Recode.size rule * count ≤ length c.args.bytes.now = front_within (g.R.Recode.size rule) (g.R.Recode.Recodes rule) c.args.bytes.now c.args.out.now.text c.recode_front-count.new._out count c.recode_front-count.ensures in
    let product : c.count.result * count ≡ g.R.Recode.size rule * count = ap (λ n. n * count) c.count.ensures.value in
    omega (arith, within, product)

pub returns-clause-goes : goal.returns-clause-goes
returns-clause-goes g c = λ rule watch before made spent makes.
    let old = c.args.self.now in
    let bytes : List ℕ = c.args.bytes.now in
    let count : ℕ = c.recode_front-count.result in
    let held : List ℕ = c.args.out.now.text in
    let held1 : List ℕ = c.recode_front-count.new._out in
    let seen = g.I.Streams.seen c.args.out.now.io in
    let steps : ℕ = c.args._steps.now in
    let Makes = MakesWords (g.R.Recode.size rule) (g.R.Recode.Recodes rule) (g.R.Recode.Refuses rule) g.W.WordWatch.Saw rule watch in
    let front : AreFront (g.R.Recode.size rule) (g.R.Recode.Recodes rule) bytes held held1 count =
    subst (λ (r : g.row.R.Denot). AreFront (g.R.Recode.size r) (g.R.Recode.Recodes r) bytes held held1 count) makes.rule_is c.recode_front-count.ensures in
    let size : g.R.Recode.size rule ≡ c.count.result = sym (c.count.ensures.value ∙ ap g.R.Recode.size makes.rule_is) in
    subst (λ n. Goes Makes before made spent (take (n * count) bytes) going (record { rule = old.rule; part = old.part; words = c.saturating_add-self.result; has_fault = old.has_fault; watch = old.watch }) (moment seen held steps) (moment seen held1 steps)) size
    (front_goes (g.R.Recode.size rule) (g.R.Recode.Recodes rule) (g.R.Recode.Refuses rule) g.W.WordWatch.Saw rule watch before made spent old makes
    (c.is_blind.ensures c.if-not-is_blind.false) bytes held held1 count c.saturating_add-self.result seen steps
    (c.is_empty.ensures.0 c.if-not-is_empty.false) front c.saturating_add-self.ensures)
