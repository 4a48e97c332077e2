use Rattle.std.proofs.Common.{◌-◌, refl, arith}
use Rattle.ciphers.specs.Gf256.{mul, inverse}
use Rattle.known.proofs.Bytewise.{agree}
use Rattle.known.proofs.inverse_inverts.Goals as goal

pub returns : goal.returns
unfolding mul
returns c =
    record {
      inverts = λ x low high. agree (λ y. mul y (inverse y)) (λ _. 1) 1 255 refl (x - 1) x (omega arith) (omega arith);
      zero = refl;
    }
