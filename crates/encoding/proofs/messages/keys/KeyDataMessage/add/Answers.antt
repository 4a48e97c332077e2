use Rattle.std.proofs.Common.{refl, rules}
use Rattle.encoding.specs.Known.{key_data_knows}
use Rattle.encoding.specs.Views.{fields_of_key_data}
use Rattle.encoding.specs.Shapes.{at-field, stranger}
use Rattle.encoding.specs.KeyDatas.{sound, take1, take2, take3}
use Rattle.encoding.proofs.messages.keys.KeyDataMessage.add.Goals as goal

pub returns-in-1-clause-took : goal.returns-in-1-clause-took
returns-in-1-clause-took c = at-field fields_of_key_data _ c.args.self.now _ c.args.field 1 c.args.content c.in-1.is (take1 _ c.args.self.now _ c.args.content refl (c.fill.ensures.step 1))

pub returns-in-2-clause-took : goal.returns-in-2-clause-took
returns-in-2-clause-took c = at-field fields_of_key_data _ c.args.self.now _ c.args.field 2 c.args.content c.in-2.is (take2 _ c.args.self.now _ c.args.content refl refl (c.fill-in-2.ensures.step 2))

pub returns-in-3-clause-took : goal.returns-in-3-clause-took
returns-in-3-clause-took c = at-field fields_of_key_data _ c.args.self.now _ c.args.field 3 c.args.content c.in-3.is (take3 _ c.args.self.now _ c.args.content refl refl (c.fill-in-3.ensures.step 3))

pub returns-in_default-clause-took : goal.returns-in_default-clause-took
returns-in_default-clause-took c = stranger fields_of_key_data key_data_knows 208 sound c.args.self.now c.args.field c.args.content (λ v. search rules) (λ b. search rules)
