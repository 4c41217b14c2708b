use Rattle.std.proofs.Common.{ap, refl}
use Rattle.fixed_command.specs.declared.convert.Settings.{Settings}
use Rattle.fixed.specs.declared.commands.json.ValueRule.TheVariants as value
use Rattle.fixed.proofs.RunLemmas.{json_ends}
use Rattle.fixed.proofs.commands.json.run_on.Goals as goal

pub returns-in-Binary : goal.returns-in-Binary
returns-in-Binary g c =
    let ran = c.run_rule-end.ensures in
    json_ends _ (value.Binary c.in-Binary.rule) _ _ _ _ c.in-Binary.is (
      ran.0,
      ran.1,
      record {
        before = ran.2.before;
        after = ran.2.after;
        runs = (_, record { rule_is = refl; radix_is = ap (λ (s : Settings). s.radix) c.settings.ensures; form_is = refl }, ran.2.runs);
        input = ran.2.input;
        from = ran.2.from;
        to = ran.2.to;
        no_read_failed = ran.2.no_read_failed;
        no_write_failed = ran.2.no_write_failed;
      },
    )

pub returns-in-Amount : goal.returns-in-Amount
returns-in-Amount g c =
    let ran = c.run_rule-end-in-Amount.ensures in
    json_ends _ (value.Amount c.in-Amount.rule) _ _ _ _ c.in-Amount.is (
      ran.0,
      ran.1,
      record {
        before = ran.2.before;
        after = ran.2.after;
        runs = (_, record { rule_is = refl; radix_is = refl; form_is = refl }, ran.2.runs);
        input = ran.2.input;
        from = ran.2.from;
        to = ran.2.to;
        no_read_failed = ran.2.no_read_failed;
        no_write_failed = ran.2.no_write_failed;
      },
    )
