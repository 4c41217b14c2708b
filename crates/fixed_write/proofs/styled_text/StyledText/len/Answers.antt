use Rattle.std.proofs.Common.{◌∙◌, sym, ap, length}
use Rattle.fixed_write.proofs.PutLemmas.{laid_length}
use Rattle.fixed_write.proofs.styled_text.StyledText.len.Goals as goal

pub returns : goal.returns
returns c =
    rw (c.len.ensures.value, c.len-2.ensures.value, c.len-3.ensures.value, c.len-4.ensures.value)
    (sym (sym (ap length c.self.view_is) ∙ laid_length c.self.inside.fill c.self.inside.prefix c.self.inside.digits c.self.inside.tail c.self.inside.before c.self.inside.inner c.self.inside.zeros c.self.inside.after))
