use Rattle.std.proofs.Common.{sym, refl, rules}
use Rattle.keysets.proofs.Banks.{registered_at_is}
use Rattle.keysets.proofs.registry.Registry.register_key_manager.Goals as goal

pub returns : goal.returns
returns g c =
    record {
      answer = search rules;
      bank = sym (registered_at_is c.args.self.now.bank.now c.args.number c.index-self-number.result c.if-number-self.false);
      lent = refl;
    }
