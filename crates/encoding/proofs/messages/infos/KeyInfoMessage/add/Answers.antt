use Rattle.std.proofs.Common.{refl, rules}
use Rattle.encoding.specs.Known.{key_info_knows}
use Rattle.encoding.specs.Views.{fields_of_key_info}
use Rattle.encoding.specs.Shapes.{at-field, stranger}
use Rattle.encoding.specs.KeyInfos.{sound, take1, take2, take3, take4}
use Rattle.encoding.proofs.messages.infos.KeyInfoMessage.add.Goals as goal

pub returns-in-1-clause-took : goal.returns-in-1-clause-took
returns-in-1-clause-took c = at-field fields_of_key_info _ c.args.self.now _ c.args.field 1 c.args.content c.in-1.is (take1 _ c.args.self.now _ c.args.content refl (c.fill.ensures.step 1))

pub returns-in-2-clause-took : goal.returns-in-2-clause-took
returns-in-2-clause-took c = at-field fields_of_key_info _ c.args.self.now _ c.args.field 2 c.args.content c.in-2.is (take2 _ c.args.self.now _ c.args.content refl refl (c.fill-in-2.ensures.step 2))

pub returns-in-3-clause-took : goal.returns-in-3-clause-took
returns-in-3-clause-took c = at-field fields_of_key_info _ c.args.self.now _ c.args.field 3 c.args.content c.in-3.is (take3 _ c.args.self.now _ c.args.content refl refl refl (c.fill-in-3.ensures.step 3))

pub returns-in-4-clause-took : goal.returns-in-4-clause-took
returns-in-4-clause-took c = at-field fields_of_key_info _ c.args.self.now _ c.args.field 4 c.args.content c.in-4.is (take4 _ c.args.self.now _ c.args.content refl refl refl (c.fill-in-4.ensures.step 4))

pub returns-in_default-clause-took : goal.returns-in_default-clause-took
returns-in_default-clause-took c = stranger fields_of_key_info key_info_knows 94 sound c.args.self.now c.args.field c.args.content (λ v. search rules) (λ b. search rules)
