use Rattle.fixed_show.specs.Forms.{refusal}
use Rattle.fixed_show.specs.declared.form.Form.TheVariants.{Members}
use Rattle.fixed_show.proofs.JsonLemmas.{object_pushed}
use Rattle.fixed_show.proofs.json.push_refused_object.Goals as goal

pub returns-clause-appended : goal.returns-clause-appended
returns-clause-appended g c = object_pushed c.args.out.now c.push_given.new.out c.push_refusal.new.out c.push.new.self c.args.text.now (refusal Members c.args.message.now) c.push_given.ensures.appended c.push_refusal.ensures.appended c.push.ensures
