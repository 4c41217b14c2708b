use Rattle.fixed_point.proofs.AnswerLemmas.{image_one_reading, literal_one, overflowing_one, plain_one, refusing_one}
use Rattle.fixed_point.proofs.laws.reading_is_the_one.Goals as goal

pub returns : goal.returns
returns g c = record {
  plain = plain_one g.I.Inner.number;
  image = image_one_reading g.I.Inner.number;
  overflowing = overflowing_one g.I.Inner.number;
  refusing = refusing_one g.I.Inner.number;
  literal = literal_one g.I.Inner.number;
}
