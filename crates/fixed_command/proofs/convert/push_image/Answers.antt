use Rattle.fixed_bits.specs.Numbers.{number_of_image}
use Rattle.fixed_command.proofs.AskingLemmas.{image_pushed}
use Rattle.fixed_command.proofs.convert.push_image.Goals as goal

pub returns-in-Some-clause-pushed : goal.returns-in-Some-clause-pushed
returns-in-Some-clause-pushed g c =
    let image = c.in-Some.image in
    let found = c.args.found.now in
    image_pushed c.args.settings.now found.bits found.overflowed (number_of_image image) image.is_out_of_range c.args.out.now c.push_part.new.out c.in-Some.ensures.image c.push_part.ensures.appended c.push_part.ensures.short
