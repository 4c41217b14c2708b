use Rattle.std.proofs.Common.{[], ◌≡◌, ◌<◌, ◌+◌, ◌-◌, ◌++◌, ◌∷◌, refl, length, arith, ap, subst, ◌∙◌, length-append, take, drop}
use Rattle.std.proofs.lemmas.List.{take_rest}
use Rattle.column_engine.specs.Answers.{before_field}
use Rattle.column_engine.specs.Gathered.{GathersFields, ahead}
use Rattle.column_engine.specs.Rows.{raw_fields}
use Rattle.column_engine.specs.declared.place.Place.TheVariants.{Start}
use Rattle.column_engine.specs.Limits.{longest_record}
use Rattle.column_engine.proofs.FieldsLemmas.{ahead_next, ahead_rest, field_at, fields_next, fields_rest, flushes_rest, none_after, part_next}
use Rattle.column_engine.proofs.GatherLemmas.{before_later, fields_none, fields_on, on_err, part_all}
use Rattle.column_engine.proofs.RowLemmas.{cut_more}
use Rattle.column_engine.proofs.SeenLemmas.{sees_first, sees_next, sees_rest}
use Rattle.column_engine.proofs.fields.answer_fields.Goals as goal

pub fields-init : goal.fields-init
fields-init g c = record {
  same = refl;
  some = [];
  cut = refl;
  many = refl;
  low = omega arith;
  fits = omega arith;
  span = omega arith;
  few = omega arith;
  before = c.args.work.now.out;
  fields = fields_none (g.A.FieldRule.Answers c.args.task.now.rule.now) c.args.task.now.keeps c.args.task.now.delimiter c.args.asked.now c.args.work.now.out (g.K.Sink.written c.args.sink.now);
  seen = sees_first (g.A.FieldRule.Answers c.args.task.now.rule.now) (g.W.FieldWatch.Saw c.args.task.now.rule.now) c.args.asked.now c.args.work.now.records;
  held = refl;
}

pub returns-in_err-next-clause-err : goal.returns-in_err-next-clause-err
returns-in_err-next-clause-err g c =
    let inv = c.fields.invariant in
    let d = c.args.task.now.delimiter in
    let body = c.args.body.now in
    let start = c.fields.start in
    let end = start + c.field_end.result in
    let found = field_at d body _ start c.field_end.result inv.fits (take_rest body start) c.field_end.ensures.within c.field_end.ensures.last c.field_end.ensures.more c.field_end.ensures.delimiter in
    let raw = take (end - start) (drop start body) in
    on_err c.from_residual.result
    (part_next (g.A.FieldRule.Answers c.args.task.now.rule.now) c.args.task.now.keeps d c.args.asked.now (raw_fields d Start body) inv.some found.others raw c.fields.column c.fields.refused
    c.args.work.now.out inv.before (ahead c.fields.work.out body c.fields.from start) (g.K.Sink.written c.args.sink.now) (g.K.Sink.written c.fields.sink) (g.K.Sink.written c.pass_field.new.sink)
    (cut_more (raw_fields d Start body) inv.some (raw_fields d Start (drop start body)) found.others raw inv.cut found.cut) inv.many inv.fields inv.held c.in_err-next.ensures.err)

pub returns-in_err-put-clause-err : goal.returns-in_err-put-clause-err
returns-in_err-put-clause-err g c =
    let inv = c.fields.invariant in
    let A = g.A.FieldRule.Answers c.args.task.now.rule.now in
    let keeps = c.args.task.now.keeps in
    let d = c.args.task.now.delimiter in
    let asked = c.args.asked.now in
    let body = c.args.body.now in
    let start = c.fields.start in
    let end = start + c.field_end.result in
    let found = field_at d body _ start c.field_end.result inv.fits (take_rest body start) c.field_end.ensures.within c.field_end.ensures.last c.field_end.ensures.more c.field_end.ensures.delimiter in
    let raw = take (end - start) (drop start body) in
    let a = g.K.Sink.written c.args.sink.now in
    let z = g.K.Sink.written c.put.new.sink in
    let out = c.pass_field.new.work.out in
    let rest = take (length body - c.in_ok-next.next) (drop c.in_ok-next.next body) in
    let one = fields_next A keeps d asked inv.some raw c.fields.column c.fields.refused c.in_ok-next.count c.args.work.now.out inv.before (ahead c.fields.work.out body c.fields.from start)
    (ahead out body c.in_ok-next.next end) a (g.K.Sink.written c.fields.sink) (g.K.Sink.written c.pass_field.new.sink) inv.many inv.fields inv.held c.in_ok-next.ensures.ok in
    let all : GathersFields A keeps d asked 0 (inv.some ++ raw ∷ []) (c.fields.refused + c.in_ok-next.count) c.args.work.now.out (out ++ rest) a (g.K.Sink.written c.pass_field.new.sink) =
    subst (λ n. GathersFields A keeps d asked 0 (inv.some ++ raw ∷ []) (c.fields.refused + c.in_ok-next.count) c.args.work.now.out
    (ahead out body c.in_ok-next.next n) a (g.K.Sink.written c.pass_field.new.sink)) c.if-end-body.true one in
    let part = c.in_err-put.ensures.err in
    let fields = fields_on A keeps d asked (inv.some ++ raw ∷ []) (c.fields.refused + c.in_ok-next.count) c.args.work.now.out out rest part.0 a (g.K.Sink.written c.pass_field.new.sink) z all part.1 in
    let cut : raw_fields d Start body ≡ inv.some ++ raw ∷ [] = inv.cut ∙ ap (λ l. inv.some ++ l) (found.last c.if-end-body.true) in
    on_err c.from_residual-in_err-put.result (rw cut (part_all A keeps d asked (inv.some ++ raw ∷ []) (c.fields.refused + c.in_ok-next.count) c.args.work.now.out part.0 a z fields))

pub returns-then-end-body-clause-ok : goal.returns-then-end-body-clause-ok
returns-then-end-body-clause-ok g c =
    let inv = c.fields.invariant in
    let A = g.A.FieldRule.Answers c.args.task.now.rule.now in
    let keeps = c.args.task.now.keeps in
    let d = c.args.task.now.delimiter in
    let asked = c.args.asked.now in
    let body = c.args.body.now in
    let start = c.fields.start in
    let end = start + c.field_end.result in
    let found = field_at d body _ start c.field_end.result inv.fits (take_rest body start) c.field_end.ensures.within c.field_end.ensures.last c.field_end.ensures.more c.field_end.ensures.delimiter in
    let raw = take (end - start) (drop start body) in
    let a = g.K.Sink.written c.args.sink.now in
    let z = g.K.Sink.written c.put.new.sink in
    let out = c.pass_field.new.work.out in
    let rest = take (length body - c.in_ok-next.next) (drop c.in_ok-next.next body) in
    let one = fields_next A keeps d asked inv.some raw c.fields.column c.fields.refused c.in_ok-next.count c.args.work.now.out inv.before (ahead c.fields.work.out body c.fields.from start)
    (ahead out body c.in_ok-next.next end) a (g.K.Sink.written c.fields.sink) (g.K.Sink.written c.pass_field.new.sink) inv.many inv.fields inv.held c.in_ok-next.ensures.ok in
    let all : GathersFields A keeps d asked 0 (inv.some ++ raw ∷ []) (c.fields.refused + c.in_ok-next.count) c.args.work.now.out (out ++ rest) a (g.K.Sink.written c.pass_field.new.sink) =
    subst (λ n. GathersFields A keeps d asked 0 (inv.some ++ raw ∷ []) (c.fields.refused + c.in_ok-next.count) c.args.work.now.out
    (ahead out body c.in_ok-next.next n) a (g.K.Sink.written c.pass_field.new.sink)) c.if-end-body.true one in
    let cut : raw_fields d Start body ≡ inv.some ++ raw ∷ [] = inv.cut ∙ ap (λ l. inv.some ++ l) (found.last c.if-end-body.true) in
    rw cut (fields_on A keeps d asked (inv.some ++ raw ∷ []) (c.fields.refused + c.in_ok-next.count) c.args.work.now.out out rest c.put.new.out a (g.K.Sink.written c.pass_field.new.sink) z all c.in_ok-put.ensures.ok)

pub fields-preserved : goal.fields-preserved
fields-preserved g c =
    let inv = c.fields.invariant in
    let A = g.A.FieldRule.Answers c.args.task.now.rule.now in
    let keeps = c.args.task.now.keeps in
    let d = c.args.task.now.delimiter in
    let body = c.args.body.now in
    let start = c.fields.start in
    let end = start + c.field_end.result in
    let found = field_at d body _ start c.field_end.result inv.fits (take_rest body start) c.field_end.ensures.within c.field_end.ensures.last c.field_end.ensures.more c.field_end.ensures.delimiter in
    let raw = take (end - start) (drop start body) in
    let low : end < length body = omega (arith, found.within, c.if-end-body.false) in
    let out = c.pass_field.new.work.out in
    record {
      same = c.in_ok-next.ensures.failures.same ∙ inv.same;
      some = inv.some ++ raw ∷ [];
      cut = cut_more (raw_fields d Start body) inv.some (raw_fields d Start (drop start body)) (raw_fields d Start (drop (end + 1) body)) raw inv.cut (found.more low);
      many = omega (arith, inv.many, length-append inv.some (raw ∷ []));
      low = omega (arith, c.in_ok-next.ensures.from);
      fits = omega (arith, low);
      span = omega (arith, inv.span);
      few = omega (arith, inv.few, c.in_ok-next.ensures.most);
      before = ahead out body c.in_ok-next.next end;
      fields = fields_next A keeps d c.args.asked.now inv.some raw c.fields.column c.fields.refused c.in_ok-next.count c.args.work.now.out inv.before (ahead c.fields.work.out body c.fields.from start)
          (ahead out body c.in_ok-next.next end) (g.K.Sink.written c.args.sink.now) (g.K.Sink.written c.fields.sink) (g.K.Sink.written c.pass_field.new.sink) inv.many inv.fields inv.held c.in_ok-next.ensures.ok;
      seen = sees_next A (g.W.FieldWatch.Saw c.args.task.now.rule.now) c.args.asked.now inv.some raw c.fields.column c.args.work.now.records c.fields.work.records c.pass_field.new.work.records
          inv.many inv.seen c.in_ok-next.ensures.saw;
      held = rw (before_later d c.fields.column) (ahead_next out body d c.in_ok-next.next end c.in_ok-next.ensures.from (found.delimiter low));
    }

pub returns-in_err-put-2-clause-err : goal.returns-in_err-put-2-clause-err
returns-in_err-put-2-clause-err g c =
    let inv = c.fields.invariant in
    let A = g.A.FieldRule.Answers c.args.task.now.rule.now in
    let keeps = c.args.task.now.keeps in
    let d = c.args.task.now.delimiter in
    let asked = c.args.asked.now in
    let body = c.args.body.now in
    let start = c.fields.start in
    let a = g.K.Sink.written c.args.sink.now in
    let b = g.K.Sink.written c.fields.sink in
    let z = g.K.Sink.written c.put-2.new.sink in
    let part = c.in_err-put-2.ensures.err in
    let last = flushes_rest inv.before (before_field d c.fields.column) (drop start body) c.fields.work.out (take (length body - c.fields.from) (drop c.fields.from body)) part.0 b z
    (ap (λ l. l ++ drop start body) inv.held ∙ ahead_rest c.fields.work.out body c.fields.from start inv.low inv.fits) part.1 in
    let none = none_after d asked body c.past_asked-past.result c.fields.column start longest_record (omega (arith, c.fields-test.false)) inv.span inv.fits c.requires (omega arith) c.past_asked-past.ensures in
    let fields = fields_rest A keeps d asked c.fields.column c.fields.refused inv.some (drop start body) c.args.work.now.out inv.before part.0 a b z inv.many none inv.fields last in
    on_err c.from_residual-in_err-put-2.result (rw inv.cut (part_all A keeps d asked (inv.some ++ raw_fields d Start (drop start body)) c.fields.refused c.args.work.now.out part.0 a z fields))

pub returns-clause-ok : goal.returns-clause-ok
returns-clause-ok g c =
    let inv = c.fields.invariant in
    let A = g.A.FieldRule.Answers c.args.task.now.rule.now in
    let keeps = c.args.task.now.keeps in
    let d = c.args.task.now.delimiter in
    let asked = c.args.asked.now in
    let body = c.args.body.now in
    let start = c.fields.start in
    let a = g.K.Sink.written c.args.sink.now in
    let b = g.K.Sink.written c.fields.sink in
    let z = g.K.Sink.written c.put-2.new.sink in
    let last = flushes_rest inv.before (before_field d c.fields.column) (drop start body) c.fields.work.out (take (length body - c.fields.from) (drop c.fields.from body)) c.put-2.new.out b z
    (ap (λ l. l ++ drop start body) inv.held ∙ ahead_rest c.fields.work.out body c.fields.from start inv.low inv.fits) c.in_ok-put-2.ensures.ok in
    let none = none_after d asked body c.past_asked-past.result c.fields.column start longest_record (omega (arith, c.fields-test.false)) inv.span inv.fits c.requires (omega arith) c.past_asked-past.ensures in
    rw inv.cut (fields_rest A keeps d asked c.fields.column c.fields.refused inv.some (drop start body) c.args.work.now.out inv.before c.put-2.new.out a b z inv.many none inv.fields last)

pub returns-then-end-body-clause-saw : goal.returns-then-end-body-clause-saw
returns-then-end-body-clause-saw g c =
    let inv = c.fields.invariant in
    let d = c.args.task.now.delimiter in
    let body = c.args.body.now in
    let start = c.fields.start in
    let end = start + c.field_end.result in
    let found = field_at d body _ start c.field_end.result inv.fits (take_rest body start) c.field_end.ensures.within c.field_end.ensures.last c.field_end.ensures.more c.field_end.ensures.delimiter in
    let raw = take (end - start) (drop start body) in
    let cut : raw_fields d Start body ≡ inv.some ++ raw ∷ [] = inv.cut ∙ ap (λ l. inv.some ++ l) (found.last c.if-end-body.true) in
    rw cut (sees_next (g.A.FieldRule.Answers c.args.task.now.rule.now) (g.W.FieldWatch.Saw c.args.task.now.rule.now) c.args.asked.now inv.some raw c.fields.column
    c.args.work.now.records c.fields.work.records c.pass_field.new.work.records inv.many inv.seen c.in_ok-next.ensures.saw)

pub returns-clause-saw : goal.returns-clause-saw
returns-clause-saw g c =
    let inv = c.fields.invariant in
    let d = c.args.task.now.delimiter in
    let asked = c.args.asked.now in
    let body = c.args.body.now in
    let start = c.fields.start in
    let none = none_after d asked body c.past_asked-past.result c.fields.column start longest_record (omega (arith, c.fields-test.false)) inv.span inv.fits c.requires (omega arith) c.past_asked-past.ensures in
    rw inv.cut (sees_rest (g.A.FieldRule.Answers c.args.task.now.rule.now) (g.W.FieldWatch.Saw c.args.task.now.rule.now) asked inv.some (raw_fields d Start (drop start body)) c.fields.column
    c.args.work.now.records c.fields.work.records inv.many none inv.seen)
