use Rattle.fixed_numeral.proofs.NumberLemmas.{left_digits, right_digits, left_fits, right_fits, after_fits, number_is}
use Rattle.fixed_numeral.proofs.digit_view.DigitView.number.Goals as goal

pub number_onto-left-requires-clause-digits : goal.number_onto-left-requires-clause-digits
number_onto-left-requires-clause-digits c = left_digits c.args.base c.self.inside.before c.self.inside.left c.self.inside.right c.self.inside.after c.args.self.now c.self.view_is c.requires.digits

pub number_onto-left-requires-clause-room : goal.number_onto-left-requires-clause-room
number_onto-left-requires-clause-room c = left_fits c.args.base c.self.inside.before c.self.inside.left c.self.inside.right c.self.inside.after c.args.self.now c.self.view_is c.requires.least c.requires.room

pub number_onto-right-requires-clause-digits : goal.number_onto-right-requires-clause-digits
number_onto-right-requires-clause-digits c = right_digits c.args.base c.self.inside.before c.self.inside.left c.self.inside.right c.self.inside.after c.args.self.now c.self.view_is c.requires.digits

pub number_onto-right-requires-clause-room : goal.number_onto-right-requires-clause-room
number_onto-right-requires-clause-room c = right_fits c.args.base c.self.inside.before c.self.inside.left c.self.inside.right c.self.inside.after c.args.self.now c.number_onto-left.result c.self.view_is c.requires.least c.requires.digits c.requires.room c.number_onto-left.ensures

pub times_power-requires-clause-room : goal.times_power-requires-clause-room
times_power-requires-clause-room c = after_fits c.args.base c.self.inside.before c.self.inside.left c.self.inside.right c.self.inside.after c.args.self.now c.number_onto-left.result c.number_onto-right.result c.self.view_is c.requires.least c.requires.digits c.requires.room c.number_onto-left.ensures c.number_onto-right.ensures

pub returns : goal.returns
returns c = number_is c.args.base c.self.inside.before c.self.inside.left c.self.inside.right c.self.inside.after c.args.self.now c.number_onto-left.result c.number_onto-right.result c.times_power.result c.self.view_is c.number_onto-left.ensures c.number_onto-right.ensures c.times_power.ensures
