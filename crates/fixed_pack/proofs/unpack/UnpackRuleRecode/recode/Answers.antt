use Rattle.std.proofs.Common.{◌∙◌, ◌<◌, ◌^◌, ◌++◌, ◌∷◌, [], List, ℕ, ap, append_assoc, refl, subst}
use Rattle.fixed_command.specs.Convert.{IsReply}
use Rattle.run_engine.specs.Reply.{reply_of}
use Rattle.fixed_pack.specs.Floats.{refusal_text}
use Rattle.fixed_pack.specs.Unpack.{count_of, for_words, number_text}
use Rattle.fixed_pack.proofs.unpack.UnpackRuleRecode.recode.Goals as goal

pub returns : goal.returns
returns g c whole =
    let r = c.args.self.now in
    let number : ℕ = c.word_number.result in
    let below : number < 256 ^ count_of r = subst (λ (n : ℕ). number < 256 ^ n) whole c.word_number.ensures.below in
    let p = c.push_reply-cause.ensures.reply below in
    let cause = c.push_reply-cause.result in
    let line : List ℕ = (reply_of refusal_text p.text cause).text in
    record {
      made = line ++ 10 ∷ [];
      is = record {
        text = p.text;
        reply = subst (λ (n : ℕ). IsReply (for_words r.settings) (number_text (count_of r) n) (reply_of refusal_text p.text cause)) c.word_number.ensures.value p.reply;
        line_is = refl;
      };
      appended = c.push.ensures ∙ (ap (λ l. l ++ 10 ∷ []) p.appended ∙ append_assoc c.args.out.now line (10 ∷ []));
    }
