use Rattle.std.proofs.Common.{◌≡◌, length, rules}
use Rattle.ciphers.proofs.Columns.{loaded}
use Rattle.ciphers.proofs.aes.rounds.load.Goals as goal

pub returns : goal.returns
returns c =
    let whole : length c.args.b ≡ 16 = search rules in
    loaded c.args.b _ _ _ _ whole c.word.ensures c.word-2.ensures c.word-3.ensures c.word-4.ensures
