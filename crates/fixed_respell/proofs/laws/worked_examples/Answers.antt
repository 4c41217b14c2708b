use Rattle.std.proofs.Common.{Some, None, refl}
use Rattle.std.specs.Prelude.{codes}
use Rattle.fixed_bits.specs.Down.{down}
use Rattle.fixed_respell.proofs.ExampleLemmas.{by_two, overflows, plain, reached}
use Rattle.fixed_respell.proofs.laws.worked_examples.Goals as goal

pub returns : goal.returns
unfolding down
returns c = record {
  to_the_source_step_first = reached (plain None (codes "2") (Some (codes "99"))) 48 refl;
  down_below_zero = reached (plain (Some 45) (codes "2") (Some (codes "5"))) 40 refl;
  source_wraps = reached (plain None (codes "300") None) 300 refl;
  source_saturates = reached (plain None (codes "300") None) 300 refl;
  source_refuses = overflows (plain None (codes "300") None) 300 refl;
  target_wraps = reached (plain None (codes "17") None) 17 refl;
  target_saturates = reached (plain None (codes "17") None) 17 refl;
  target_refuses = overflows (plain None (codes "17") None) 17 refl;
  in_the_mode = reached (plain None (codes "2") (Some (codes "1"))) 3 refl;
  tie_above_zero = reached (plain None (codes "2") (Some (codes "5"))) 2 refl;
  tie_below_zero = reached (plain (Some 45) (codes "2") (Some (codes "5"))) 2 refl;
  floor_below_zero = reached (plain (Some 45) (codes "2") (Some (codes "5"))) 3 refl;
  ceil_below_zero = reached (plain (Some 45) (codes "2") (Some (codes "5"))) 2 refl;
  towards_zero_below_zero = reached (plain (Some 45) (codes "2") (Some (codes "5"))) 2 refl;
  tie_away_from_zero = reached (plain (Some 45) (codes "2") (Some (codes "5"))) 3 refl;
  tie_towards_zero = reached (plain (Some 45) (codes "2") (Some (codes "5"))) 2 refl;
  tie_up_below_zero = reached (plain (Some 45) (codes "2") (Some (codes "5"))) 2 refl;
  tie_down_below_zero = reached (plain (Some 45) (codes "2") (Some (codes "5"))) 3 refl;
  away_from_zero = reached (plain (Some 45) (codes "2") (Some (codes "1"))) 3 refl;
  saturates_below = reached (plain (Some 45) (codes "300") None) 300 refl;
  negative_wraps = reached (plain (Some 45) (codes "1") None) 1 refl;
  octal_exponent = reached (by_two (codes "0") (codes "1") 49) 64 refl;
  binary_exponent = reached (by_two (codes "1") (codes "1") 51) 12 refl;
  hexadecimal_wraps = reached (plain None (codes "C0F") (Some (codes "FE"))) 790526 refl;
}
