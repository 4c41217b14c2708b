use Rattle.std.proofs.Common.{◌≡◌, ◌++◌, List, ℕ, arith, refl}
use Rattle.fixed_show.specs.JsonText.{object_text}
use Rattle.fixed_show.proofs.JsonLemmas.{object_pushed, object_refused, object_short}
use Rattle.fixed_show.proofs.LineLemmas.{pushed_length, text_short}
use Rattle.fixed_show.proofs.parts.part_object.Goals as goal

pub returns-clause-object : goal.returns-clause-object
returns-clause-object g c =
    let old : List ℕ = c.args.out.now in
    let facts = c.push_part_facts-refused.ensures.facts in
    let text : List ℕ = object_text c.args.text.now facts.text in
    let more = pushed_length c.push_given.new.out c.push_part_facts-refused.new.out facts.text 281 facts.appended facts.short in
    let appended : c.push.new.self ≡ old ++ text = object_pushed old c.push_given.new.out c.push_part_facts-refused.new.out c.push.new.self c.args.text.now facts.text c.push_given.ensures.appended facts.appended c.push.ensures in
    let short = object_short old c.push_given.new.out c.push_part_facts-refused.new.out c.push.new.self 281 c.push_given.ensures.short more c.push.ensures in
    record {
      text = text;
      is_text = record { members = facts.text; are_facts = facts.is_text; object_is = refl };
      appended = appended;
      short = text_short old c.push.new.self text 8000 appended (omega (arith, short));
    }

pub returns-clause-refused : goal.returns-clause-refused
returns-clause-refused g c = object_refused _ _ _ _ _ _ c.push_given.ensures.appended c.push_part_facts-refused.ensures.refused c.push.ensures
