use Rattle.encoding.proofs.Backs.{wrote-front, back}
use Rattle.encoding.proofs.claims.write_and_read.Goals as goal

pub returns-clause-back : goal.returns-clause-back
returns-clause-back g c =
    back g.R.Message.fields g.R.Message.knows (λ r. (g.met.R.Message.sound r).ordered) g.R.Message.same g.met.R.Message.told _ c.args.record.now _ c.read.result (wrote-front _ _ _ _ c.in_ok-n.ensures) c.read.ensures
