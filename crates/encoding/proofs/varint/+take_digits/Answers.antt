use Rattle.std.proofs.Common.{◌≡◌, ℕ, ◌<◌, List, ◌∷◌, get_or, Fits, w8, sym, ap, arith, rules}
use Rattle.std.proofs.lemmas.Bool.{eq-eqb, ne_eqb}
use Rattle.encoding.specs.Varints.{un_none, un_more, un_bad_last, un_last, un_long, sound, cap_room}
use Rattle.encoding.proofs.varint.+take_digits.Goals as goal

-- the first byte is a byte
byte : (bs : List ℕ) (b : ℕ) (rest : List ℕ) → bs ≡ b ∷ rest → Fits w8 (get_or bs 0 0) → b < 256
byte bs b rest e f = omega (arith, f, ap (λ (xs : List ℕ). get_or xs 0 0) e)

pub returns-in_err-b : goal.returns-in_err-b
returns-in_err-b t c = rw c.from_residual.ensures (un_none _ _ c.in_err-b.ensures.cases)

pub returns-then-b-ge2 : goal.returns-then-b-ge2
returns-then-b-ge2 t c = un_bad_last _ _ _ _ c.in_ok-b.ensures.cases.0 c.if-b-lt128.true c.if-left-eq0.true c.if-b-ge2.true

pub returns-then-b-lt128 : goal.returns-then-b-lt128
returns-then-b-lt128 t c = un_last _ _ _ _ c.in_ok-b.ensures.cases.0 c.if-b-lt128.true c.else-left-eq0.either

pub returns-then-left-eq0-2 : goal.returns-then-left-eq0-2
returns-then-left-eq0-2 t c = un_long _ _ _ _ c.in_ok-b.ensures.cases.0 c.if-b-lt128.false c.if-left-eq0-2.true

pub returns-in_err-v : goal.returns-in_err-v
returns-in_err-v t c = rw c.from_residual-in_err-v.ensures (un_more _ _ _ _ _ c.in_ok-b.ensures.cases.0 c.if-b-lt128.false (byte _ _ _ c.in_ok-b.ensures.cases.0 (c.type_inv.bytes 0)) c.if-left-eq0-2.false c.in_err-v.ensures)

pub returns-then-v-eq0 : goal.returns-then-v-eq0
returns-then-v-eq0 t c = let m = un_more _ _ _ _ _ c.in_ok-b.ensures.cases.0 c.if-b-lt128.false (byte _ _ _ c.in_ok-b.ensures.cases.0 (c.type_inv.bytes 0)) c.if-left-eq0-2.false c.in_ok-v.ensures in rw (eq-eqb c.in_ok-v.v 0 c.if-v-eq0.true) at m

pub overflow_mul-result : goal.overflow_mul-result
overflow_mul-result t c = omega (arith, cap_room c.args.left c.in_ok-v.v 0 c.if-left-eq0-2.false c.requires.few (sound _ _ _ _ (sym c.in_ok-v.ensures)).small (omega arith))

pub overflow_add-result : goal.overflow_add-result
overflow_add-result t c = omega (arith, cap_room c.args.left c.in_ok-v.v c.in_ok-b.field-0-0.now c.if-left-eq0-2.false c.requires.few (sound _ _ _ _ (sym c.in_ok-v.ensures)).small (byte _ _ _ c.in_ok-b.ensures.cases.0 (c.type_inv.bytes 0)))

pub overflow_add-result-2 : goal.overflow_add-result-2
overflow_add-result-2 t c = let w = (sound _ _ _ _ (sym c.in_ok-v.ensures)).within in search rules

pub returns : goal.returns
returns t c = let m = un_more _ _ _ _ _ c.in_ok-b.ensures.cases.0 c.if-b-lt128.false (byte _ _ _ c.in_ok-b.ensures.cases.0 (c.type_inv.bytes 0)) c.if-left-eq0-2.false c.in_ok-v.ensures in rw (ne_eqb c.in_ok-v.v 0 c.if-v-eq0.false) at m
