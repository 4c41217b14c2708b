use Rattle.std.proofs.Common.{◌≡◌, ◌≤◌, ◌++◌, [], List, ℕ, ℤ, inr, inl, refl, arith, ap, sym, append-nil, length, length-append, codes}
use Rattle.fixed_bits.specs.Numbers.{number_of_image}
use Rattle.fixed_write.specs.Texts.{IsShortestText, shortest_text}
use Rattle.fixed_numeral.specs.Messages.{message_of}
use Rattle.fixed_numeral.proofs.Public.{message_short}
use Rattle.fixed_respell.specs.Answer.{respelled_answer, task_of}
use Rattle.fixed_respell.proofs.answering.answer_or_refuse.Goals as goal

pub returns-in-Ok-reach-clause-answer : goal.returns-in-Ok-reach-clause-answer
returns-in-Ok-reach-clause-answer g c =
    let t = c.in-Ok.task in
    let found = c.in-Ok-reach in
    let number : ℤ = number_of_image found.reached in
    let text : List ℕ = (respelled_answer (shortest_text number t.target.frac) number found.reached.is_out_of_range).text in
    let appended : c.push_respelled.new.out ≡ c.args.out.now ++ text = rw c.frac.ensures.frac at c.push_respelled.ensures.appended in
    let shortest : IsShortestText number t.target.frac (shortest_text number t.target.frac) = rw c.frac.ensures.frac at c.push_respelled.ensures.shortest in
    record {
      text = text;
      answer = inr (record {
        task = task_of t.radix t.source t.target t.policy t.mode t.numeral.now;
        asks = c.in-Ok.ensures.task;
        answered = inr (record {
          bits = number;
          overflowed = found.reached.is_out_of_range;
          respelled = found.ensures.reached;
          text = shortest_text number t.target.frac;
          shortest = shortest;
          answer_is = refl;
        });
      });
      appended = appended;
      none = tt;
      short = omega (arith, c.push_respelled.ensures.short, ap length appended, length-append c.args.out.now text);
    }

short : (message : List ℕ) → length message ≤ 64 → length (codes "error: " ++ message) ≤ 192
short message few = omega (arith, length-append (codes "error: ") message)

pub returns-in-Err-reach-clause-answer : goal.returns-in-Err-reach-clause-answer
returns-in-Err-reach-clause-answer g c =
    let t = c.in-Ok.task in
    let refused = c.in-Err-reach in
    record {
      text = [];
      answer = inr (record {
        task = task_of t.radix t.source t.target t.policy t.mode t.numeral.now;
        asks = c.in-Ok.ensures.task;
        answered = inl (record { kind = refused.error; refusal = refused.ensures.refused; answer_is = refl });
      });
      appended = sym (append-nil c.args.out.now);
      none = refl;
      short = short (message_of refused.error) (message_short refused.error);
    }
