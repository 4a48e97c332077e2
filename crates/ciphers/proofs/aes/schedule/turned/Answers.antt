use Rattle.std.proofs.Common.{◌≡◌, ℕ, List, [], ◌∷◌, get_or, ap, ◌∙◌, rules}
use Rattle.ciphers.specs.Bytes.{word_bytes}
use Rattle.ciphers.specs.Fips197.{x_power}
use Rattle.ciphers.specs.Gf256.{s_box}
use Rattle.ciphers.proofs.Columns.{xor_of}
use Rattle.ciphers.proofs.aes.schedule.turned.Goals as goal

pub returns : goal.returns
returns c =
    let picked = ap (λ (t : List ℕ). s_box (get_or t 1 0) ∷ s_box (get_or t 2 0) ∷ s_box (get_or t 3 0) ∷ s_box (get_or t 0 0) ∷ []) c.to_be_bytes-t.ensures in
    let constant : word_bytes c.from_be_bytes.result ≡ x_power c.args.n ∷ 0 ∷ 0 ∷ 0 ∷ [] = search rules in
    xor_of _ _ _ _ (c.sub_bytes.ensures ∙ picked) constant
