use Rattle.std.proofs.Common.{◌≡◌, ◌≤◌, List, ℕ, Ok, Err, arith, length, refl, sym, subst, false}
use Rattle.fixed_bits.specs.Numbers.{number_of_image}
use Rattle.fixed_numeral.proofs.Public.{message_short}
use Rattle.fixed_numeral.specs.Messages.{message_of}
use Rattle.fixed_numeral.specs.declared.error.ParseErrorKind.TheVariants.{Overflow}
use Rattle.fixed_respell.specs.LineWords.{longest_line}
use Rattle.run_engine.specs.Reply.{Replies}
use Rattle.fixed_command.specs.Convert.{AreFormats, IsReply, asking_line, asks_a_line}
use Rattle.fixed_command.specs.Message.{message_text}
use Rattle.fixed_command.specs.declared.convert.Settings.{Settings}
use Rattle.fixed_command.specs.declared.message.Message.{Message}
use Rattle.fixed_command.proofs.AskingLemmas.{err_replies, image_pushed, moved_answer, ok_replies, unmoved_answer, unsourced_answer}
use Rattle.fixed_command.proofs.convert.ConvertRule.push_moved.Goals as goal

pub returns-in-Some-clause-reply : goal.returns-in-Some-clause-reply
returns-in-Some-clause-reply g c =
    let s = c.self.inside.settings in
    let numeral : List ℕ = c.args.numeral.now in
    let formats : AreFormats s = record { source = c.self.invariant.0; target = c.self.invariant.1 } in
    let short : length (asking_line s numeral) ≤ longest_line = subst (λ t. length (asking_line t numeral) ≤ longest_line) (sym c.self.view_is) c.requires.short in
    let moved : asks_a_line s.spelling s.target_mode ≡ false = subst (λ t. asks_a_line t.spelling t.target_mode ≡ false) (sym c.self.view_is) c.requires.moved in
    let image = c.in-Some.image in
    let found = c.in-Ok.found in
    let P : Settings → Type 0 = λ t. Replies {N = Unit {0}} (IsReply t) message_text 192 numeral c.args.out.now c.push_part.new.out (Ok tt) in
    let pushed = image_pushed s found.bits found.overflowed (number_of_image image) image.is_out_of_range c.args.out.now c.push_part.new.out c.in-Some.ensures.image c.push_part.ensures.appended c.push_part.ensures.short in
    subst P c.self.view_is (ok_replies (IsReply s) 192 numeral c.args.out.now c.push_part.new.out (moved_answer s numeral found.bits found.overflowed c.args.out.now c.push_part.new.out formats moved short c.in-Ok.ensures.source pushed))

pub returns-in-None-clause-reply : goal.returns-in-None-clause-reply
returns-in-None-clause-reply g c =
    let s = c.self.inside.settings in
    let numeral : List ℕ = c.args.numeral.now in
    let formats : AreFormats s = record { source = c.self.invariant.0; target = c.self.invariant.1 } in
    let short : length (asking_line s numeral) ≤ longest_line = subst (λ t. length (asking_line t numeral) ≤ longest_line) (sym c.self.view_is) c.requires.short in
    let moved : asks_a_line s.spelling s.target_mode ≡ false = subst (λ t. asks_a_line t.spelling t.target_mode ≡ false) (sym c.self.view_is) c.requires.moved in
    let found = c.in-Ok.found in
    let m : Message = record { text = c.message.result } in
    let P : Settings → Type 0 = λ t. Replies {N = Unit {0}} (IsReply t) message_text 192 numeral c.args.out.now c.args.out.now (Err m) in
    subst P c.self.view_is (err_replies (IsReply s) 192 numeral c.args.out.now (message_of Overflow) m (omega arith) (rw c.new.ensures at c.message.ensures) (message_short Overflow)
    (unmoved_answer s numeral found.bits found.overflowed formats moved short c.in-Ok.ensures.source c.in-None.ensures.image))

pub returns-in-Err-clause-reply : goal.returns-in-Err-clause-reply
returns-in-Err-clause-reply g c =
    let s = c.self.inside.settings in
    let numeral : List ℕ = c.args.numeral.now in
    let short : length (asking_line s numeral) ≤ longest_line = subst (λ t. length (asking_line t numeral) ≤ longest_line) (sym c.self.view_is) c.requires.short in
    let moved : asks_a_line s.spelling s.target_mode ≡ false = subst (λ t. asks_a_line t.spelling t.target_mode ≡ false) (sym c.self.view_is) c.requires.moved in
    let m : Message = record { text = c.in-Err.text } in
    let P : Settings → Type 0 = λ t. Replies {N = Unit {0}} (IsReply t) message_text 192 numeral c.args.out.now c.args.out.now (Err m) in
    subst P c.self.view_is (err_replies (IsReply s) 192 numeral c.args.out.now c.in-Err.text.now m (omega arith) refl c.in-Err.ensures.short (unsourced_answer s numeral c.in-Err.text.now moved short c.in-Err.ensures.source))
