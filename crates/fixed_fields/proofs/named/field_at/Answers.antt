use Rattle.std.proofs.Common.{◌≡◌, ◌≤◌, ◌+◌, ◌-◌, ◌∙◌, ap, drop, length, subst, sym, take}
use Rattle.fixed_bits.specs.Formats.{FormatParts}
use Rattle.fixed_names.proofs.Public.{name_one}
use Rattle.fixed_names.specs.Names.{IsName}
use Rattle.fixed_fields.specs.Names.{field_text}
use Rattle.fixed_fields.proofs.NameLemmas.{back_is, front_is, name_after, word_is}
use Rattle.fixed_fields.proofs.named.field_at.Goals as goal

pub returns-in-None : goal.returns-in-None
returns-in-None c = λ field at.
    c.in-None.ensures field.format (subst (λ n. IsName n field.format) (sym (name_after c.split_at.result.1.now at.named.name (c.split_at.ensures.back ∙ back_is c.args.word.now c.args.index field at))) at.named.is_field.is_name)

pub returns-in-None-field_named : goal.returns-in-None-field_named
returns-in-None-field_named c = λ field at.
    let name = name_after c.split_at.result.1.now at.named.name (c.split_at.ensures.back ∙ back_is c.args.word.now c.args.index field at) in
    let same : field.format ≡ c.in-Some.format = name_one at.named.name field.format c.in-Some.format at.named.is_field.is_name (subst (λ n. IsName n c.in-Some.format) name c.in-Some.ensures) in
    c.in-None-field_named.ensures field.low (subst (λ (f : FormatParts). field.low + f.width ≤ 64) same at.named.is_field.within)
    (c.split_at.ensures.front ∙ front_is c.args.word.now c.args.index field at ∙ at.named.is_field.bits_are ∙ ap (λ (f : FormatParts). field_text f.width field.low) same)

pub returns-in-Some-field_named : goal.returns-in-Some-field_named
returns-in-Some-field_named c = record {
  named = record {
    bits = c.split_at.result.0.now;
    name = take (length c.split_at.result.1.now - 1) (drop 1 c.split_at.result.1.now);
    is_field = record { is_name = c.in-Some.ensures; within = c.in-Some-field_named.ensures.0; bits_are = c.in-Some-field_named.ensures.1 };
    word_is = word_is c.args.word.now c.split_at.result.0.now c.split_at.result.1.now c.args.index c.requires.within c.if-word-index-ne58.false c.split_at.ensures.front c.split_at.ensures.back;
  };
  index_is = sym c.split_at.ensures.front_len;
}
