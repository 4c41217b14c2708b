use Rattle.std.proofs.Common.{◌≡◌, ◌≤◌, ◌++◌, sym, List, ℕ, ℤ, Ok, Err, length, arith, ap, subst, true, length-append}
use Rattle.fixed_bits.specs.Numbers.{number_of_image}
use Rattle.fixed_numeral.specs.Messages.{message_of}
use Rattle.fixed_numeral.proofs.Public.{message_short}
use Rattle.fixed_respell.specs.Answer.{respelled_answer}
use Rattle.fixed_respell.specs.LineWords.{longest_line}
use Rattle.fixed_write.specs.Texts.{shortest_text}
use Rattle.fixed_write.proofs.Public.{shortest_text_is}
use Rattle.run_engine.specs.Reply.{Replies}
use Rattle.fixed_command.specs.Convert.{IsReply, asking_line, asks_a_line}
use Rattle.fixed_command.specs.Message.{message_text}
use Rattle.fixed_command.specs.Printed.{printed}
use Rattle.fixed_command.specs.declared.convert.Settings.{Settings}
use Rattle.fixed_command.specs.declared.message.Message.{Message}
use Rattle.fixed_command.proofs.AskingLemmas.{err_replies, ok_replies, refused_reply, respelled_reply}
use Rattle.fixed_command.proofs.convert.ConvertRule.push_answer.Goals as goal

pub returns-in-Ok-clause-reply : goal.returns-in-Ok-clause-reply
returns-in-Ok-clause-reply g c =
    let s = c.self.inside.settings in
    let image = c.in-Ok.image in
    let number : ℤ = number_of_image image in
    let shortest : List ℕ = shortest_text number s.target.frac in
    let text : List ℕ = printed s.print s.target (respelled_answer shortest number image.is_out_of_range).text shortest number in
    let short : length (asking_line s c.args.numeral.now) ≤ longest_line = subst (λ t. length (asking_line t c.args.numeral.now) ≤ longest_line) (sym c.self.view_is) c.requires.short in
    let line : asks_a_line s.spelling s.target_mode ≡ true = subst (λ t. asks_a_line t.spelling t.target_mode ≡ true) (sym c.self.view_is) c.requires.line in
    let appended : c.push_part.new.out ≡ c.args.out.now ++ text = c.push_part.ensures.appended in
    let P : Settings → Type 0 = λ t. Replies {N = Unit {0}} (IsReply t) message_text 192 c.args.numeral.now c.args.out.now c.push_part.new.out (Ok tt) in
    subst P c.self.view_is (ok_replies (IsReply s) 192 c.args.numeral.now c.args.out.now c.push_part.new.out (record {
      text = text;
      answer = respelled_reply s c.args.numeral.now shortest number image.is_out_of_range line (record { source = c.self.invariant.0; target = c.self.invariant.1 }) short
          c.in-Ok.ensures.reached (shortest_text_is number s.target.frac) c.in-Ok.ensures.wide;
      appended = appended;
      short = omega (arith, c.push_part.ensures.short, ap length appended, length-append c.args.out.now text);
    }))

pub returns-in-Err-clause-reply : goal.returns-in-Err-clause-reply
returns-in-Err-clause-reply g c =
    let s = c.self.inside.settings in
    let short : length (asking_line s c.args.numeral.now) ≤ longest_line = subst (λ t. length (asking_line t c.args.numeral.now) ≤ longest_line) (sym c.self.view_is) c.requires.short in
    let line : asks_a_line s.spelling s.target_mode ≡ true = subst (λ t. asks_a_line t.spelling t.target_mode ≡ true) (sym c.self.view_is) c.requires.line in
    let m : Message = record { text = c.message.result } in
    let P : Settings → Type 0 = λ t. Replies {N = Unit {0}} (IsReply t) message_text 192 c.args.numeral.now c.args.out.now c.args.out.now (Err m) in
    let answer = refused_reply s c.args.numeral.now c.in-Err.error line (record { source = c.self.invariant.0; target = c.self.invariant.1 }) short c.in-Err.ensures.refused in
    subst P c.self.view_is (err_replies (IsReply s) 192 c.args.numeral.now c.args.out.now (message_of c.in-Err.error) m (omega arith) c.message.ensures (message_short c.in-Err.error) answer)
