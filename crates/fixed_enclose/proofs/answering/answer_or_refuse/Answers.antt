use Rattle.std.proofs.Common.{◌≡◌, ◌≤◌, ◌++◌, ◌↔◌, IsTrue, List, [], ℕ, ℤ, FitsSigned, inr, inl, refl, rules, arith, ap, append-nil, codes, length, length-append, sym}
use Rattle.std.specs.Int.{w128}
use Rattle.std.proofs.lemmas.Int.{to_z-of_z}
use Rattle.fixed_bits.proofs.Public.{width_most}
use Rattle.fixed_write.specs.Texts.{IsShortestText, shortest_text}
use Rattle.fixed_numeral.specs.Messages.{message_of}
use Rattle.fixed_numeral.proofs.Public.{message_short}
use Rattle.fixed_enclose.specs.Answer.{ends_answer, task_of}
use Rattle.fixed_enclose.proofs.answering.answer_or_refuse.Goals as goal

pub push_ends-requires : goal.push_ends-requires
push_ends-requires g c =
    let lo : ℤ = c.in-Ok-enclose.ends.lo in
    let hi : ℤ = c.in-Ok-enclose.ends.hi in
    let low : FitsSigned w128 lo = search rules in
    let high : FitsSigned w128 hi = search rules in
    let valid = c.frac.ensures.valid in
    let most = width_most c.in-Ok.task.format.width valid.is_width in
    (search rules, (rw (to_z-of_z w128 lo low) c.in-Ok-enclose.ensures.low_wide, (rw (to_z-of_z w128 hi high) c.in-Ok-enclose.ensures.high_wide, (omega (arith, c.frac.ensures.frac, valid.within, most), search rules))))

pub returns-in-Ok-enclose-clause-answer : goal.returns-in-Ok-enclose-clause-answer
returns-in-Ok-enclose-clause-answer g c =
    let t = c.in-Ok.task in
    let lo : ℤ = c.in-Ok-enclose.ends.lo in
    let hi : ℤ = c.in-Ok-enclose.ends.hi in
    let low : FitsSigned w128 lo = search rules in
    let high : FitsSigned w128 hi = search rules in
    let exact = c.is_exact-exact.result in
    let text : List ℕ = (ends_answer (shortest_text lo t.format.frac) lo (shortest_text hi t.format.frac) hi exact).text in
    let appended : c.push_ends.new.out ≡ c.args.out.now ++ text = rw (to_z-of_z w128 lo low, to_z-of_z w128 hi high, c.frac.ensures.frac) at c.push_ends.ensures.appended in
    let low_text : IsShortestText lo t.format.frac (shortest_text lo t.format.frac) = rw (to_z-of_z w128 lo low, c.frac.ensures.frac) at c.push_ends.ensures.low_shortest in
    let high_text : IsShortestText hi t.format.frac (shortest_text hi t.format.frac) = rw (to_z-of_z w128 hi high, c.frac.ensures.frac) at c.push_ends.ensures.high_shortest in
    let is_exact : IsTrue exact ↔ (lo ≡ hi) = rw (to_z-of_z w128 lo low, to_z-of_z w128 hi high) at c.is_exact-exact.ensures in
    record {
      text = text;
      answer = inr (record {
        task = task_of t.radix t.format t.numeral.now;
        asks = c.in-Ok.ensures.task;
        answered = inr (record {
          lo = lo;
          hi = hi;
          enclosed = c.in-Ok-enclose.ensures.pair;
          low_text = shortest_text lo t.format.frac;
          low_shortest = low_text;
          high_text = shortest_text hi t.format.frac;
          high_shortest = high_text;
          exact = exact;
          is_exact = is_exact;
          answer_is = refl;
        });
      });
      appended = appended;
      none = tt;
      short = omega (arith, c.push_ends.ensures.short, ap length appended, length-append c.args.out.now text);
    }

short : (message : List ℕ) → length message ≤ 64 → length (codes "error: " ++ message) ≤ 192
short message few = omega (arith, length-append (codes "error: ") message)

pub returns-in-Err-enclose-clause-answer : goal.returns-in-Err-enclose-clause-answer
returns-in-Err-enclose-clause-answer g c =
    let t = c.in-Ok.task in
    let refused = c.in-Err-enclose in
    record {
      text = [];
      answer = inr (record {
        task = task_of t.radix t.format t.numeral.now;
        asks = c.in-Ok.ensures.task;
        answered = inl (record { kind = refused.error; refusal = refused.ensures.refused; answer_is = refl });
      });
      appended = sym (append-nil c.args.out.now);
      none = refl;
      short = short (message_of refused.error) (message_short refused.error);
    }
