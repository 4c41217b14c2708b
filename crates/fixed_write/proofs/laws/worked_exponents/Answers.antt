use Rattle.std.proofs.Common.{◌≡◌, refl, arith, pos, negsuc}
use Rattle.std.specs.Fmt.{digits}
use Rattle.fixed_write.specs.Shortest.{IsShortest, least_places_from, nearest_number, reads_back_at, shortest_number, shortest_places}
use Rattle.fixed_write.specs.Texts.{whole_digits}
use Rattle.fixed_write.proofs.ComputedLemmas.{shortest_pair_is}
use Rattle.fixed_write.proofs.laws.worked_exponents.Goals as goal

-- 1200 is its own shortest decimal, and 25 / 256 is 0.098
number_1200 : shortest_number 1200 0 ≡ 1200
unfolding shortest_number shortest_places least_places_from reads_back_at nearest_number
number_1200 = refl

places_1200 : shortest_places 1200 0 ≡ 0
unfolding shortest_places least_places_from reads_back_at nearest_number
places_1200 = refl

number_25 : shortest_number 25 8 ≡ 98
unfolding shortest_number shortest_places least_places_from reads_back_at nearest_number
number_25 = refl

places_25 : shortest_places 25 8 ≡ 3
unfolding shortest_places least_places_from reads_back_at nearest_number
places_25 = refl

shortest_1200 : IsShortest 1200 0 1200 0
shortest_1200 = rw (number_1200, places_1200) at (shortest_pair_is 1200 0)

shortest_25 : IsShortest 25 8 98 3
shortest_25 = rw (number_25, places_25) at (shortest_pair_is 25 8)

pub returns-clause-without_zeros : goal.returns-clause-without_zeros
unfolding whole_digits digits
returns-clause-without_zeros c = record {
  figures = 12;
  exponent = pos 3;
  are_figures = record { number = 1200; places = 0; zeros = 2; shortest = shortest_1200; figures = refl; last = λ e. absurd (omega arith); exponent = refl };
  body_is = refl;
}

pub returns-clause-below_one : goal.returns-clause-below_one
unfolding whole_digits digits
returns-clause-below_one c = record {
  figures = 98;
  exponent = negsuc 1;
  are_figures = record { number = 98; places = 3; zeros = 0; shortest = shortest_25; figures = refl; last = λ e. absurd (omega arith); exponent = refl };
  body_is = refl;
}

pub returns-clause-zero : goal.returns-clause-zero
unfolding digits
returns-clause-zero c = refl

pub returns-clause-zero_with_places : goal.returns-clause-zero_with_places
unfolding digits
returns-clause-zero_with_places c = refl

-- 1250 is halfway between 12 and 13 hundreds
pub returns-clause-tie_to_even : goal.returns-clause-tie_to_even
unfolding whole_digits digits
returns-clause-tie_to_even c = record {
  figures = 12;
  exponent = pos 3;
  are_figures = record {
    decade = pos 3;
    is_decade = record { low = omega arith; high = omega arith };
    number = 12;
    near = record { near = omega arith; tie = λ e. refl };
    kept = λ e. (refl, refl);
    carried = λ e. absurd (omega arith);
  };
  body_is = refl;
}

-- 999 is nearer to 100 tens than to 99
pub returns-clause-next_power_of_ten : goal.returns-clause-next_power_of_ten
unfolding whole_digits digits
returns-clause-next_power_of_ten c = record {
  figures = 10;
  exponent = pos 3;
  are_figures = record {
    decade = pos 2;
    is_decade = record { low = omega arith; high = omega arith };
    number = 100;
    near = record { near = omega arith; tie = λ e. refl };
    kept = λ e. absurd (e refl);
    carried = λ e. (refl, refl);
  };
  body_is = refl;
}

pub returns-clause-no_places : goal.returns-clause-no_places
unfolding whole_digits digits
returns-clause-no_places c = record {
  figures = 3;
  exponent = negsuc 0;
  are_figures = record {
    decade = negsuc 0;
    is_decade = record { low = omega arith; high = omega arith };
    number = 3;
    near = record { near = omega arith; tie = λ e. absurd (omega arith) };
    kept = λ e. (refl, refl);
    carried = λ e. absurd (omega arith);
  };
  body_is = refl;
}
