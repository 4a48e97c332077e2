use Rattle.std.proofs.Common.{◌≡◌, ℕ, List, ◌++◌, length, take, drop, ap, ◌∙◌, subst, arith, length-drop, rules}
use Rattle.std.proofs.lemmas.List.{take_all, take-append-drop}
use Rattle.ciphers.specs.declared.siv.Siv.{Siv}
use Rattle.ciphers.specs.Keys.{aes_key}
use Rattle.ciphers.specs.Rfc5297.{OpensSealed}
use Rattle.ciphers.specs.Sivs.{siv_key}
use Rattle.ciphers.specs.Tagging.{mac_key}
use Rattle.ciphers.proofs.Reopening.{siv_opens}
use Rattle.ciphers.proofs.siv.Siv.new.Goals as goal

-- the halves one after the other
key : (c : goal.After-new-ctr) → mac_key c.new-mac.result ++ aes_key c.new-ctr.result ≡ c.args.key
key c =
    let k = c.args.key in
    let whole : length k ≡ 32 = search rules in
    let rest : length (drop 16 k) ≡ 16 = length-drop 16 k ∙ omega arith in
    let twice = take_all 16 (drop 16 k) (omega arith) in
    let first = c.new-mac.ensures ∙ c.front.ensures in
    let second = c.new-ctr.ensures ∙ (c.front-2.ensures ∙ (ap (take 16) twice ∙ twice)) in
    ap (λ (l : List ℕ). l ++ aes_key c.new-ctr.result) first ∙ (ap (λ (l : List ℕ). take 16 k ++ l) second ∙ take-append-drop 16 k)

pub returns : goal.returns
unfolding siv_key
returns c =
    let s : Siv = record { mac = c.new-mac.result; ctr = c.new-ctr.result } in
    record { key = key c; opens = subst OpensSealed (key c) (siv_opens s) }
