use Rattle.std.proofs.Common.{◌+◌, length, refl}
use Rattle.fixed_write.proofs.PutLemmas.{put_part}
use Rattle.fixed_write.proofs.styled_text.put.Goals as goal

pub returns : goal.returns
returns c = put_part c.args.part.now c.args.out.now c.copy_from_slice.new.self c.args.at (c.args.at + length c.args.part.now) c.copy_from_slice.ensures.after refl c.requires
