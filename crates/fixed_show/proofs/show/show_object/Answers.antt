use Rattle.fixed_show.proofs.JsonLemmas.{object_refused, show_object}
use Rattle.fixed_show.proofs.show.show_object.Goals as goal

pub returns-clause-object : goal.returns-clause-object
returns-clause-object g c =
    show_object c.args.mode c.args.radix c.args.text.now c.args.format c.args.policy _ c.args.out.now c.push_given.new.out c.push_show_facts-refused.new.out c.push.new.self c.push_given.ensures.appended c.push_given.ensures.short c.push_show_facts-refused.ensures.facts c.push.ensures

pub returns-clause-refused : goal.returns-clause-refused
returns-clause-refused g c = object_refused _ _ _ _ _ _ c.push_given.ensures.appended c.push_show_facts-refused.ensures.refused c.push.ensures
