use Rattle.std.proofs.Common.{◌≡◌, ◌∙◌, ◌++◌, ◌+◌, ◌-◌, [], false, List, ℕ, ap, append-nil, append_assoc, arith, drop, length, refl, subst, sym, take}
use Rattle.std.proofs.lemmas.List.{length-take, take-append-drop, take_rest}
use Rattle.run_engine.proofs.Public.{goes_more, goes_none, halts_after, halts_before}
use Rattle.run_engine.specs.Machines.{Goes, Halts, going}
use Rattle.run_engine.specs.Seen.{moment}
use Rattle.fixed_pack.proofs.RecodeLemmas.{cut_both, nil_of}
use Rattle.fixed_pack.specs.Lemmas.RecodedLaws.{recoded_stays}
use Rattle.fixed_pack.specs.Recoded.{MakesWords}
use Rattle.fixed_pack.proofs.recoder.RecoderMachine.feed.Goals as goal

pub loop-rest-init : goal.loop-rest-init
loop-rest-init g c = record {
  prefix = [];
  split = refl;
  goes = λ rule watch bytes made spent makes. goes_none (MakesWords (g.R.Recode.size rule) (g.R.Recode.Recodes rule) (g.R.Recode.Refuses rule) g.W.WordWatch.Saw rule watch) bytes made spent c.args.self.now (moment (g.I.Streams.seen c.args.out.now.io) c.args.out.now.text c.args.steps.now) makes;
}

pub push-requires : goal.push-requires
push-requires g c =
    let after : List ℕ = take (length c.loop-rest.rest.now - c.recode_front-front.result) (drop c.recode_front-front.result c.loop-rest.rest.now) in
    omega (arith, c.lacks.ensures.value, c.lesser-size.ensures.first, length-take c.lesser-size.result after)

pub loop-rest-preserved : goal.loop-rest-preserved
loop-rest-preserved g c =
    let inv = c.loop-rest.invariant in
    let rest = c.loop-rest.rest.now in
    let m : ℕ = c.recode_front-front.result in
    let front : List ℕ = take m rest in
    let after : List ℕ = take (length rest - m) (drop m rest) in
    let n : ℕ = c.lesser-size.result in
    let piece : List ℕ = take n after in
    let more : List ℕ = take (length after - n) (drop n after) in
    let first : rest ≡ front ++ after = sym (take-append-drop m rest) ∙ ap (λ l. front ++ l) (sym (take_rest rest m)) in
    let second : after ≡ piece ++ more = sym (take-append-drop n after) ∙ ap (λ l. piece ++ l) (sym (take_rest after n)) in
    let a = moment (g.I.Streams.seen c.args.out.now.io) c.args.out.now.text c.args.steps.now in
    let b = moment (g.I.Streams.seen c.loop-rest.out.io) c.loop-rest.out.text c.loop-rest.steps in
    let mid = moment (g.I.Streams.seen c.recode_front-front.new.out.io) c.recode_front-front.new.out.text c.recode_front-front.new._steps in
    let d = moment (g.I.Streams.seen c.push.new.out.io) c.push.new.out.text c.push.new.steps in
    record {
      prefix = (inv.prefix ++ front) ++ piece;
      split = cut_both c.args.chunk.now inv.prefix rest front after piece more inv.split first second;
      goes = λ rule watch bytes made spent makes.
          let Makes = MakesWords (g.R.Recode.size rule) (g.R.Recode.Recodes rule) (g.R.Recode.Refuses rule) g.W.WordWatch.Saw rule watch in
          let far = inv.goes rule watch bytes made spent makes in
          let farther = goes_more Makes bytes made spent inv.prefix front going c.loop-rest.self c.recode_front-front.new.self a b mid far
          (c.recode_front-front.ensures.goes rule watch (bytes ++ inv.prefix) (made ++ far.more) (spent + far.cost) far.makes) in
          goes_more Makes bytes made spent (inv.prefix ++ front) piece going c.recode_front-front.new.self c.push.new.self a mid d farther
          (c.in-Ok.ensures rule watch (bytes ++ (inv.prefix ++ front)) (made ++ farther.more) (spent + farther.cost) farther.makes);
    }

pub returns-in-Err : goal.returns-in-Err
returns-in-Err g c = λ first bytes made spent makes.
    let Makes = MakesWords (g.R.Recode.size first.rule) (g.R.Recode.Recodes first.rule) (g.R.Recode.Refuses first.rule) g.W.WordWatch.Saw first.rule first.watch in
    let inv = c.loop-rest.invariant in
    let rest = c.loop-rest.rest.now in
    let m : ℕ = c.recode_front-front.result in
    let front : List ℕ = take m rest in
    let after : List ℕ = take (length rest - m) (drop m rest) in
    let n : ℕ = c.lesser-size.result in
    let piece : List ℕ = take n after in
    let whole : c.args.chunk.now ≡ (inv.prefix ++ front) ++ after =
    inv.split ∙ (ap (λ l. inv.prefix ++ l) (sym (take-append-drop m rest) ∙ ap (λ l. front ++ l) (sym (take_rest rest m))) ∙ sym (append_assoc inv.prefix front after)) in
    let a = moment (g.I.Streams.seen c.args.out.now.io) c.args.out.now.text c.args.steps.now in
    let b = moment (g.I.Streams.seen c.loop-rest.out.io) c.loop-rest.out.text c.loop-rest.steps in
    let mid = moment (g.I.Streams.seen c.recode_front-front.new.out.io) c.recode_front-front.new.out.text c.recode_front-front.new._steps in
    let d = moment (g.I.Streams.seen c.push.new.out.io) c.push.new.out.text c.push.new.steps in
    let far = inv.goes first.rule first.watch bytes made spent makes in
    let farther = goes_more Makes bytes made spent inv.prefix front going c.loop-rest.self c.recode_front-front.new.self a b mid far
    (c.recode_front-front.ensures.goes first.rule first.watch (bytes ++ inv.prefix) (made ++ far.more) (spent + far.cost) far.makes) in
    subst (λ l. Halts Makes false bytes made spent l c.push.new.self a d c.in-Err.halt) (sym whole)
    (halts_after Makes bytes made spent false (inv.prefix ++ front) after c.recode_front-front.new.self c.push.new.self a mid d c.in-Err.halt farther
    (subst (λ l. Halts Makes false (bytes ++ (inv.prefix ++ front)) (made ++ farther.more) (spent + farther.cost) l c.push.new.self mid d c.in-Err.halt) (take-append-drop n after)
    (halts_before Makes (bytes ++ (inv.prefix ++ front)) (made ++ farther.more) (spent + farther.cost) piece (drop n after) c.push.new.self mid d c.in-Err.halt
    (λ bs ms text k why h. (recoded_stays (g.R.Recode.size first.rule) (g.R.Recode.Recodes first.rule) (g.R.Recode.Refuses first.rule) g.W.WordWatch.Saw first.watch bs ms text why c.push.new.self h.0, h.1))
    (c.in-Err.ensures first.rule first.watch (bytes ++ (inv.prefix ++ front)) (made ++ farther.more) (spent + farther.cost) farther.makes))))

pub returns : goal.returns
returns g c = λ first bytes made spent makes.
    let Makes = MakesWords (g.R.Recode.size first.rule) (g.R.Recode.Recodes first.rule) (g.R.Recode.Refuses first.rule) g.W.WordWatch.Saw first.rule first.watch in
    let inv = c.loop-rest.invariant in
    let rest = c.loop-rest.rest.now in
    let a = moment (g.I.Streams.seen c.args.out.now.io) c.args.out.now.text c.args.steps.now in
    let b = moment (g.I.Streams.seen c.loop-rest.out.io) c.loop-rest.out.text c.loop-rest.steps in
    let none : rest ≡ [] = nil_of rest (omega (arith, c.loop-rest-test.false)) in
    let whole : c.args.chunk.now ≡ inv.prefix = inv.split ∙ ap (λ l. inv.prefix ++ l) none ∙ append-nil inv.prefix in
    subst (λ l. Goes Makes bytes made spent l going c.loop-rest.self a b) (sym whole) (inv.goes first.rule first.watch bytes made spent makes)
