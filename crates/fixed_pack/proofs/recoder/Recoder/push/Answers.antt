use Rattle.std.proofs.Common.{◌≡◌, ◌∙◌, ◌++◌, ◌<◌, ◌+◌, [], ap, arith, length, refl, subst, sym}
use Rattle.run_engine.proofs.Public.{goes_breaks, goes_none}
use Rattle.run_engine.specs.Seen.{moment}
use Rattle.fixed_pack.proofs.RecodeLemmas.{part_goes, word_feeds}
use Rattle.fixed_pack.specs.Recoded.{EndsWord, MakesWords}
use Rattle.fixed_pack.specs.declared.recoder.Recoder.{Recoder}
use Rattle.fixed_pack.proofs.recoder.Recoder.push.Goals as goal

pub returns-then-piece-lacks : goal.returns-then-piece-lacks
returns-then-piece-lacks g c = λ rule watch bytes made spent makes.
    let old = c.args.self.now in
    let new : Recoder g.row.R.Denot g.row.W.Denot = record { rule = old.rule; part = c.keep.new.self; words = old.words; has_fault = old.has_fault; watch = old.watch } in
    let short : length old.part.bytes + length c.args.piece.now < old.part.size = omega (arith, c.lacks.ensures.value, c.if-piece-lacks.true) in
    part_goes (g.R.Recode.size rule) (g.R.Recode.Recodes rule) (g.R.Recode.Refuses rule) g.W.WordWatch.Saw rule watch bytes made spent old makes new c.args.piece.now
    (moment (g.I.Streams.seen c.args.out.now.io) c.args.out.now.text c.args.steps.now) short c.keep.ensures refl refl refl refl

pub returns-in-Err : goal.returns-in-Err
returns-in-Err g c = λ rule watch bytes made spent makes.
    let Makes = MakesWords (g.R.Recode.size rule) (g.R.Recode.Recodes rule) (g.R.Recode.Refuses rule) g.W.WordWatch.Saw rule watch in
    let a = moment (g.I.Streams.seen c.args.out.now.io) c.args.out.now.text c.args.steps.now in
    let b = moment (g.I.Streams.seen c.make_room.new.self.io) c.make_room.new.self.text c.args.steps.now in
    goes_breaks Makes bytes made spent [] c.args.piece.now c.args.piece.now c.args.self.now a a b refl (goes_none Makes bytes made spent c.args.self.now a makes) c.in-Err.ensures.err refl

pub returns-in-Ok : goal.returns-in-Ok
returns-in-Ok g c = λ rule watch bytes made spent makes.
    let old = c.args.self.now in
    let new = c.end_word.new.self in
    let whole : length old.part.bytes + length c.args.piece.now ≡ old.part.size = omega (arith, c.requires, c.lacks.ensures.value, c.if-piece-lacks.false) in
    word_feeds (g.R.Recode.size rule) (g.R.Recode.Recodes rule) (g.R.Recode.Refuses rule) g.W.WordWatch.Saw rule watch bytes made spent old makes c.args.piece.now whole new
    (g.I.Streams.seen c.args.out.now.io) (g.I.Streams.seen c.make_room.new.self.io) c.args.out.now.text c.make_room.new.self.text c.end_word.new.out c.args.steps.now c.end_word.new.steps c.end_word.result c.in-Ok.ensures.ok
    (subst (λ r. EndsWord (g.R.Recode.Recodes r) (g.R.Recode.Refuses r) g.W.WordWatch.Saw (old.part.bytes ++ c.args.piece.now) old.words old.has_fault old.watch new c.make_room.new.self.text c.end_word.new.out c.end_word.result) makes.rule_is (c.end_word.ensures.ended (makes.size_is ∙ ap g.R.Recode.size (sym makes.rule_is))))
    c.end_word.ensures.rule c.end_word.ensures.part
