-- The inverse S-box of FIPS 197, section 5.3.2, takes each value back to its byte.
use Rattle.std.proofs.Common.{◌≡◌, ℕ, ◌<◌, sym, refl, ap, ◌∙◌, zero-add}
use lib.Bits.{bit_xor}
use Rattle.ciphers.specs.Gf256.{mul, inverse, turned, s_box}
use Rattle.known.proofs.Bytewise.{agree}
use Rattle.known.proofs.sbox_tells_apart.Goals as goal

-- bit i of the result is b(i+2) + b(i+5) + b(i+7) + d(i), indices modulo 8, with d = {05}
abbrev unaffine : ℕ → ℕ
unaffine b =
    let b1 = turned b in
    let b3 = turned (turned b1) in
    let b6 = turned (turned (turned b3)) in
    bit_xor 0x05 (bit_xor b1 (bit_xor b3 b6))

abbrev back : ℕ → ℕ
back b = inverse (unaffine b)

pub returns : goal.returns
unfolding mul s_box
returns c =
    let goes : (x : ℕ) → x < 256 → back (s_box x) ≡ x = λ x h. agree (λ y. back (s_box y)) (λ y. y) 0 256 refl x x h (zero-add x) in
    record {
      apart = λ x y hx hy e. sym (goes x hx) ∙ (ap back e ∙ goes y hy);
      value = refl;
    }
