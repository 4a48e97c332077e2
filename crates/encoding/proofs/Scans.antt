-- What two varints at the front of some bytes say of the field there.
use Rattle.std.proofs.Common.{Bor, ◌≡◌, ℕ, ◌+◌, ◌*◌, ◌/◌, ◌%◌, ◌<◌, ◌≤◌, ◌⊎◌, List, [], ◌++◌, length, take, drop, Some, None, sym, refl, ap, ◌∙◌, inl, inr, arith}
use Rattle.std.proofs.lemmas.List.{length-append, append_assoc, take-append-drop, length-drop, drop-drop, drop_at}
use Rattle.encoding.specs.Wire.{varint, Field, number, bytes, encode_field, Small}
use Rattle.encoding.specs.Scanning.{cap, unvarint, IsField, NoField}
use Rattle.encoding.specs.declared.content.Content.TheVariants.{Number, Bytes}
use Rattle.encoding.specs.Varints.{Reads, complete, sound, first, second, none-some, cap_nine}

abbrev key_of : Field → ℕ
key_of (number k v) = 8 * k
key_of (bytes k b) = 8 * k + 2

abbrev val_of : Field → ℕ
val_of (number k v) = v
val_of (bytes k b) = length b

abbrev pay_of : Field → List ℕ
pay_of (number k v) = []
pay_of (bytes k b) = b

shape : (f : Field) (rest : List ℕ) → encode_field f ++ rest ≡ varint (key_of f) ++ (varint (val_of f) ++ (pay_of f ++ rest))
unfolding encode_field
shape (number k v) rest = append_assoc (varint (8 * k)) (varint v) rest
shape (bytes k b) rest = append_assoc (varint (8 * k + 2)) (varint (length b) ++ b) rest ∙ ap (λ (x : List ℕ). varint (8 * k + 2) ++ x) (append_assoc (varint (length b)) b rest)

small-key : (f : Field) → Small f → (key_of f < cap 9) × (val_of f < cap 9)
unfolding Small
small-key (number k v) s = (omega (arith, cap_nine), omega (arith, cap_nine))
small-key (bytes k b) s = (omega (arith, cap_nine), omega (arith, cap_nine))

-- what the two varints of a field at the front are
record Fronts (bs : List ℕ) (f : Field) (rest : List ℕ) : Type 0 where
  key : unvarint 9 bs ≡ Some (key_of f, length (varint (key_of f)))
  after : drop (length (varint (key_of f))) bs ≡ varint (val_of f) ++ (pay_of f ++ rest)
  val : unvarint 9 (drop (length (varint (key_of f))) bs) ≡ Some (val_of f, length (varint (val_of f)))

fronts : (bs : List ℕ) (f : Field) (rest : List ℕ) → Small f → bs ≡ encode_field f ++ rest → Fronts bs f rest
fronts bs f rest s e =
    let e2 : bs ≡ varint (key_of f) ++ (varint (val_of f) ++ (pay_of f ++ rest)) = e ∙ shape f rest in
    let d : drop (length (varint (key_of f))) bs ≡ varint (val_of f) ++ (pay_of f ++ rest) = ap (drop (length (varint (key_of f)))) e2 ∙ drop_at (varint (key_of f)) (varint (val_of f) ++ (pay_of f ++ rest)) (length (varint (key_of f))) refl in
    record {
      key = ap (unvarint 9) e2 ∙ complete 9 (key_of f) (varint (val_of f) ++ (pay_of f ++ rest)) (small-key f s).0;
      after = d;
      val = ap (unvarint 9) d ∙ complete 9 (val_of f) (pay_of f ++ rest) (small-key f s).1;
    }

pub no_key : (bs : List ℕ) → None ≡ unvarint 9 bs → NoField bs
no_key bs h f rest s e = none-some _ (h ∙ (fronts bs f rest s e).key)

-- with the key read: a field at the front has that key
same_key : (bs : List ℕ) (key k : ℕ) → Some (key, k) ≡ unvarint 9 bs → (f : Field) (rest : List ℕ) → Small f → bs ≡ encode_field f ++ rest
    → (key ≡ key_of f) × (k ≡ length (varint (key_of f)))
same_key bs key k h f rest s e = let o = h ∙ (fronts bs f rest s e).key in (ap first o, ap second o)

pub no_value : (bs : List ℕ) (key k : ℕ) → Some (key, k) ≡ unvarint 9 bs → None ≡ unvarint 9 (drop k bs) → NoField bs
no_value bs key k h n f rest s e =
    let p = same_key bs key k h f rest s e in
    none-some _ (n ∙ ap (λ (x : ℕ). unvarint 9 (drop x bs)) p.1 ∙ (fronts bs f rest s e).val)

same_value : (bs : List ℕ) (key k v n : ℕ) → Some (key, k) ≡ unvarint 9 bs → Some (v, n) ≡ unvarint 9 (drop k bs) → (f : Field) (rest : List ℕ) → Small f → bs ≡ encode_field f ++ rest
    → (v ≡ val_of f) × (n ≡ length (varint (val_of f)))
same_value bs key k v n h j f rest s e =
    let p = same_key bs key k h f rest s e in
    let o = j ∙ ap (λ (x : ℕ). unvarint 9 (drop x bs)) p.1 ∙ (fronts bs f rest s e).val in
    (ap first o, ap second o)

pub no_such : (bs : List ℕ) (key k v n : ℕ) → Some (key, k) ≡ unvarint 9 bs → Some (v, n) ≡ unvarint 9 (drop k bs) → (key % 8 ≡ 0 → ⊥)
    → (key % 8 ≡ 2 → ⊥) ⊎ (length (drop k bs) < n + v) → NoField bs
no_such bs key k v n h j odd bad (number m w) rest s e =
    odd (let p = same_key bs key k h (number m w) rest s e in omega (arith, p.0))
no_such bs key k v n h j odd (inl bad) (bytes m w) rest s e =
    bad (let p = same_key bs key k h (bytes m w) rest s e in omega (arith, p.0))
no_such bs key k v n h j odd (inr bad) (bytes m w) rest s e =
    let f : Field = bytes m w in
    let p = same_key bs key k h f rest s e in
    let q = same_value bs key k v n h j f rest s e in
    let d = (fronts bs f rest s e).after in
    let len : length (drop (length (varint (8 * m + 2))) bs) ≡ length (varint (length w)) + (length w + length rest) = ap length d ∙ length-append (varint (length w)) (w ++ rest) ∙ ap (λ (x : ℕ). length (varint (length w)) + x) (length-append w rest) in
    let here : length (drop k bs) ≡ length (drop (length (varint (8 * m + 2))) bs) = ap (λ (x : ℕ). length (drop x bs)) p.1 in
    omega (arith, q.0, q.1)

-- the two varints read at the front, put together
both : (bs : List ℕ) (key k v n : ℕ) → Reads 9 bs key k → Reads 9 (drop k bs) v n → bs ≡ varint key ++ (varint v ++ drop (k + n) bs)
both bs key k v n a b = a.front ∙ ap (λ (x : List ℕ). varint key ++ x) (b.front ∙ ap (λ (x : List ℕ). varint v ++ x) (drop-drop n k bs))

pub is_number : (bs : List ℕ) (key k v n : ℕ) → Some (key, k) ≡ unvarint 9 bs → Some (v, n) ≡ unvarint 9 (drop k bs) → key % 8 ≡ 0
    → IsField bs (record { number = key / 8; content = Number v; size = k + n })
unfolding encode_field Small
is_number bs key k v n h j even =
    let a = sound 9 bs key k (sym h) in
    let b = sound 9 (drop k bs) v n (sym j) in
    let eight : 8 * (key / 8) ≡ key = omega arith in
    let sum : length (varint (8 * (key / 8)) ++ varint v) ≡ k + n = length-append (varint (8 * (key / 8))) (varint v) ∙ ap (λ (x : ℕ). length (varint x) + length (varint v)) eight ∙ omega (arith, a.size, b.size) in
    record {
      front = both bs key k v n a b ∙ ap (λ (x : ℕ). varint x ++ (varint v ++ drop (k + n) bs)) (sym eight) ∙ sym (append_assoc (varint (8 * (key / 8))) (varint v) (drop (k + n) bs));
      size = sym sum;
      small = (omega (arith, a.small, cap_nine), omega (arith, b.small, cap_nine));
      within = omega (arith, a.within, b.within, length-drop k bs);
      some = omega (arith, a.some);
    }

pub is_bytes : (bs : List ℕ) (key k v n : ℕ) (pay : Bor (List ℕ)) → Some (key, k) ≡ unvarint 9 bs → Some (v, n) ≡ unvarint 9 (drop k bs) → key % 8 ≡ 2
    → pay.now ≡ take v (drop (k + n) bs) → length pay.now ≡ v → v ≤ length (drop (k + n) bs)
    → IsField bs (record { number = key / 8; content = Bytes pay; size = (k + n) + length pay.now })
unfolding encode_field Small
is_bytes bs key k v n pay h j two pe pl vl =
    let a = sound 9 bs key k (sym h) in
    let b = sound 9 (drop k bs) v n (sym j) in
    let eight : 8 * (key / 8) + 2 ≡ key = omega arith in
    let size : ℕ = (k + n) + length pay.now in
    let cut : drop (k + n) bs ≡ pay.now ++ drop size bs = sym (take-append-drop v (drop (k + n) bs)) ∙ ap (λ (x : List ℕ). x ++ drop v (drop (k + n) bs)) (sym pe)
    ∙ ap (λ (x : ℕ). pay.now ++ drop x (drop (k + n) bs)) (sym pl) ∙ ap (λ (x : List ℕ). pay.now ++ x) (drop-drop (length pay.now) (k + n) bs) in
    let whole : bs ≡ varint (8 * (key / 8) + 2) ++ (varint (length pay.now) ++ (pay.now ++ drop size bs)) =
    both bs key k v n a b ∙ ap (λ (x : List ℕ). varint key ++ (varint v ++ x)) cut
    ∙ ap (λ (x : ℕ). varint x ++ (varint v ++ (pay.now ++ drop size bs))) (sym eight)
    ∙ ap (λ (x : ℕ). varint (8 * (key / 8) + 2) ++ (varint x ++ (pay.now ++ drop size bs))) (sym pl) in
    let sum : length (varint (8 * (key / 8) + 2) ++ (varint (length pay.now) ++ pay.now)) ≡ size =
    length-append (varint (8 * (key / 8) + 2)) (varint (length pay.now) ++ pay.now)
    ∙ ap (λ (x : ℕ). length (varint (8 * (key / 8) + 2)) + x) (length-append (varint (length pay.now)) pay.now)
    ∙ ap (λ (x : ℕ). length (varint x) + (length (varint (length pay.now)) + length pay.now)) eight
    ∙ ap (λ (x : ℕ). length (varint key) + (length (varint x) + length pay.now)) pl
    ∙ omega (arith, a.size, b.size) in
    record {
      front = whole ∙ sym (shape (bytes (key / 8) pay.now) (drop size bs));
      size = sym sum;
      small = (omega (arith, a.small, cap_nine), omega (arith, b.small, cap_nine));
      within = omega (arith, length-drop (k + n) bs, length-drop k bs, a.within, b.within);
      some = omega (arith, a.some);
    }
