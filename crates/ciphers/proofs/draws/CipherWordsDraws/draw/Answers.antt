use Rattle.std.proofs.Common.{ℕ, Ok, sym, ap, ◌∙◌}
use Rattle.ciphers.specs.Drawn.{first_word, other_words}
use Rattle.ciphers.specs.Fips197.{cipher}
use Rattle.ciphers.specs.Keys.{aes_key}
use Rattle.ciphers.proofs.Words.{cipher_words_more}
use Rattle.ciphers.proofs.draws.CipherWordsDraws.draw.Goals as goal

pub returns : goal.returns
returns c =
    let self = c.args.self.now in
    let more = cipher_words_more (cipher (aes_key self.aes)) self.next self.end c.if-n-self.false in
    record { word = ap (λ (w : ℕ). Ok w) c.word-w.ensures ∙ ap first_word (sym more); rest = ap other_words (sym more) }
