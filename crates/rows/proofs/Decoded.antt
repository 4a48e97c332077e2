-- What the hexadecimal decoder gives, where every digit is a small one.
use Rattle.std.proofs.Common.{◌≡◌, ℕ, ◌+◌, ◌*◌, ◌%◌, true, List, [], ◌∷◌, length, Option, Some, None, Result, Ok, Err, refl, sym, ap, ◌∙◌, arith}
use Rattle.std.specs.List.{AllPass}
use Rattle.std.specs.Result.{result_unwrap_or}
use Rattle.std.specs.Prelude.{IfOk, IsErrAnd, MatchResult}
use Rattle.std.specs.Option.{is_some}
use Rattle.std.proofs.lemmas.Bool.Decides.{nat_tests}
use Rattle.std.proofs.lemmas.List.Elements.{All-head, All-tail}
use Rattle.hex.specs.Hex.{decode_of, decode_pairs, pair_value, hex_digit_value}
use Rattle.hex.specs.declared.error.FromHexError.{FromHexError}
use Rattle.hex.proofs.Pairs.{cons_byte, decode_pairs-ok_pair}
use Rattle.hex.proofs.HexLemmas.{decode_of-even}
use Rattle.rows.specs.Digits.{digit_of, is_digit, bytes_of}

abbrev IsSmall : ℕ → Type 0
IsSmall c = is_digit c ≡ true

same_value : (c : ℕ) → IsSmall c → hex_digit_value c ≡ digit_of c
same_value c h = grind (arith, nat_tests)

some : (o : Option ℕ) → is_some o ≡ true → (v : ℕ) × (o ≡ Some v)
some (Some v) h = (v, refl)
some None h = cc h

cons_ok : (v : ℕ) (r : Result (List ℕ) FromHexError) (bytes : List ℕ) → cons_byte v r ≡ Ok bytes → (rest : List ℕ) × (r ≡ Ok rest) × (bytes ≡ v ∷ rest)
cons_ok v (Ok rest) bytes h = (rest, refl, sym (ap (λ (r : Result (List ℕ) FromHexError). result_unwrap_or r []) h))
cons_ok v (Err e) bytes h = cc h

pairs : (i : ℕ) (t bytes : List ℕ) → AllPass is_digit t → decode_pairs i t ≡ Ok bytes → bytes ≡ bytes_of t
unfolding decode_pairs
pairs i [] bytes small h = sym (ap (λ (r : Result (List ℕ) FromHexError). result_unwrap_or r []) h)
pairs i (a ∷ []) bytes small h = cc h
pairs i (a ∷ b ∷ rest) bytes small h =
    let tail = All-tail IsSmall a (b ∷ rest) small in
    let x = some (digit_of a) (All-head IsSmall a (b ∷ rest) small) in
    let y = some (digit_of b) (All-head IsSmall b rest tail) in
    let high : hex_digit_value a ≡ Some x.0 = same_value a (All-head IsSmall a (b ∷ rest) small) ∙ x.1 in
    let low : hex_digit_value b ≡ Some y.0 = same_value b (All-head IsSmall b rest tail) ∙ y.1 in
    let pair : pair_value a b i ≡ Ok (x.0 * 16 + y.0) = rw (high, low) refl in
    let split = cons_ok _ _ bytes (sym (decode_pairs-ok_pair i a b _ rest pair) ∙ h) in
    let more = pairs (i + 2) rest split.0 (All-tail IsSmall b rest tail) split.1 in
    let byte : x.0 * 16 + y.0 ≡ 16 * x.0 + y.0 = omega arith in
    rw (x.1, y.1) (split.2 ∙ ap (λ (v : ℕ). v ∷ split.0) byte ∙ ap (λ (l : List ℕ). (16 * x.0 + y.0) ∷ l) more)

decoded : (t bytes : List ℕ) → length t % 2 ≡ 0 → AllPass is_digit t → decode_of t ≡ Ok bytes → bytes ≡ bytes_of t
decoded t bytes even small h = pairs 0 t bytes small (sym (decode_of-even t even) ∙ h)

-- the same, where another error takes the place of the decoder's
pub told : {V E D : Type 0} (items : V → List ℕ) (t : List ℕ) (r : Result V E) (s : Result V D) (P : E → D → Type 0) → length t % 2 ≡ 0 → AllPass is_digit t → IfOk r (λ v. decode_of t ≡ Ok (items v))
    → MatchResult r (λ v. s ≡ Ok v) (λ e. IsErrAnd s (P e)) → IfOk s (λ v. items v ≡ bytes_of t)
told items t (Ok v) (Ok w) P even small h e = ap items (ap (λ r. result_unwrap_or r v) e) ∙ decoded t (items v) even small h
told items t r (Err d) P even small h e = tt
told items t (Err e) (Ok w) P even small h f = absurd f
