use Rattle.std.proofs.Common.{refl}
use Rattle.fixed_write.specs.Shortest.{least_places_from, nearest_number, reads_back_at, shortest_number, shortest_places}
use Rattle.fixed_write.specs.Texts.{decimal_text, fraction_part, last_digits, point_text, shortest_text, whole_digits}
use Rattle.fixed_write.proofs.laws.worked_texts.Goals as goal

pub returns-clause-fewer_digits : goal.returns-clause-fewer_digits
unfolding shortest_text decimal_text point_text whole_digits fraction_part last_digits shortest_number shortest_places least_places_from reads_back_at nearest_number
returns-clause-fewer_digits c = refl

pub returns-clause-tie_to_even : goal.returns-clause-tie_to_even
unfolding shortest_text decimal_text point_text whole_digits fraction_part last_digits shortest_number shortest_places least_places_from reads_back_at nearest_number
returns-clause-tie_to_even c = refl

pub returns-clause-three_places : goal.returns-clause-three_places
unfolding shortest_text decimal_text point_text whole_digits fraction_part last_digits shortest_number shortest_places least_places_from reads_back_at nearest_number
returns-clause-three_places c = refl

pub returns-clause-leading_zero : goal.returns-clause-leading_zero
unfolding shortest_text decimal_text point_text whole_digits fraction_part last_digits shortest_number shortest_places least_places_from reads_back_at nearest_number
returns-clause-leading_zero c = refl

pub returns-clause-one_place : goal.returns-clause-one_place
unfolding shortest_text decimal_text point_text whole_digits fraction_part last_digits shortest_number shortest_places least_places_from reads_back_at nearest_number
returns-clause-one_place c = refl

pub returns-clause-negative : goal.returns-clause-negative
unfolding shortest_text decimal_text point_text whole_digits fraction_part last_digits shortest_number shortest_places least_places_from reads_back_at nearest_number
returns-clause-negative c = refl

pub returns-clause-whole : goal.returns-clause-whole
unfolding shortest_text decimal_text point_text whole_digits fraction_part last_digits shortest_number shortest_places least_places_from reads_back_at nearest_number
returns-clause-whole c = refl

pub returns-clause-zero : goal.returns-clause-zero
unfolding shortest_text decimal_text point_text whole_digits fraction_part last_digits shortest_number shortest_places least_places_from reads_back_at nearest_number
returns-clause-zero c = refl
