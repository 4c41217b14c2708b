use Rattle.fixed_c.specs.Words.{IsFormatNamed, WordIsRefused}
use Rattle.fixed_c.proofs.EndLemmas.{handed}
use Rattle.fixed_c.proofs.exports.fixed_format_of_word.Goals as goal

pub returns : goal.returns
returns c = handed c.named_format.result (IsFormatNamed c.args.word.now) (WordIsRefused c.args.word.now) c.args.out.now c.hand_over.new.out c.hand_over.result (rw c.given_text.ensures at c.named_format.ensures) c.hand_over.ensures
