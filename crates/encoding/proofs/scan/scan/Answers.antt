use Rattle.std.proofs.Common.{◌≡◌, ℕ, ◌+◌, ◌-◌, ◌≤◌, List, length, take, drop, Option, sym, ap, ◌∙◌, inl, inr, arith, rules}
use Rattle.std.proofs.lemmas.List.{take_rest, length-drop}
use Rattle.encoding.specs.Scanning.{unvarint}
use Rattle.encoding.specs.Varints.{Reads, sound}
use Rattle.encoding.proofs.Scans.{no_key, no_value, no_such, is_number, is_bytes}
use Rattle.encoding.proofs.scan.scan.Goals as goal

tail : {o : Option (ℕ × ℕ)} (bs : List ℕ) (k : ℕ) → o ≡ unvarint 9 (take (length bs - k) (drop k bs)) → o ≡ unvarint 9 (drop k bs)
tail bs k e = e ∙ ap (unvarint 9) (take_rest bs k)

-- both parts lie within the bytes
ends : (bs : List ℕ) (key k v n : ℕ) → Reads 9 bs key k → Reads 9 (drop k bs) v n → k + n ≤ length bs
ends bs key k v n a b = omega (arith, a.within, b.within, length-drop k bs)

pub returns-in_err-key : goal.returns-in_err-key
returns-in_err-key c = rw c.from_residual.ensures (no_key c.args.bytes.now c.in_err-key.ensures)

pub slice_bounds-take_varint-count : goal.slice_bounds-take_varint-count
slice_bounds-take_varint-count c = (sound 9 _ _ _ (sym c.in_ok-key.ensures)).within

pub slice_bounds-take_varint-start : goal.slice_bounds-take_varint-start
slice_bounds-take_varint-start c = let h = (sound 9 _ _ _ (sym c.in_ok-key.ensures)).within in search rules

pub returns-in_err-value : goal.returns-in_err-value
returns-in_err-value c = rw c.from_residual-in_err-value.ensures (no_value c.args.bytes.now c.in_ok-key.key c.in_ok-key.k c.in_ok-key.ensures (tail c.args.bytes.now c.in_ok-key.k c.in_err-value.ensures))

pub overflow_add-head : goal.overflow_add-head
overflow_add-head c =
    let e = ends _ _ _ _ _ (sound 9 _ _ _ (sym c.in_ok-key.ensures)) (sound 9 _ _ _ (sym (tail c.args.bytes.now c.in_ok-key.k c.in_ok-value.ensures))) in
    search rules

pub slice_bounds-get-count : goal.slice_bounds-get-count
slice_bounds-get-count c = ends _ _ _ _ _ (sound 9 _ _ _ (sym c.in_ok-key.ensures)) (sound 9 _ _ _ (sym (tail c.args.bytes.now c.in_ok-key.k c.in_ok-value.ensures)))

pub slice_bounds-get-start : goal.slice_bounds-get-start
slice_bounds-get-start c =
    let e = ends _ _ _ _ _ (sound 9 _ _ _ (sym c.in_ok-key.ensures)) (sound 9 _ _ _ (sym (tail c.args.bytes.now c.in_ok-key.k c.in_ok-value.ensures))) in
    search rules

-- what is left after both
left : (bs : List ℕ) (at : ℕ) → length (take (length bs - at) (drop at bs)) ≡ length bs - at
left bs at = ap length (take_rest bs at) ∙ length-drop at bs

pub returns-in_err-payload-in-2 : goal.returns-in_err-payload-in-2
returns-in_err-payload-in-2 c = rw c.from_residual-in_err-payload-in-2.ensures (
    no_such c.args.bytes.now c.in_ok-key.key c.in_ok-key.k c.in_ok-value.value c.in_ok-value.n c.in_ok-key.ensures (tail c.args.bytes.now c.in_ok-key.k c.in_ok-value.ensures) (omega (arith, c.in-2.is))
    (inr (elim c.in_err-payload-in-2.ensures.lookup.0 [ inl l ↦ absurd (omega arith) | inr l ↦ omega (arith, l, left c.args.bytes.now (c.in_ok-key.k + c.in_ok-value.n), length-drop c.in_ok-key.k c.args.bytes.now) ])))

pub overflow_add-result : goal.overflow_add-result
overflow_add-result c =
    let e = ends _ _ _ _ _ (sound 9 _ _ _ (sym c.in_ok-key.ensures)) (sound 9 _ _ _ (sym (tail c.args.bytes.now c.in_ok-key.k c.in_ok-value.ensures))) in
    let x = c.in_ok-payload-in-2.ensures.lookup.0 in
    let l = left c.args.bytes.now (c.in_ok-key.k + c.in_ok-value.n) in
    search rules

pub returns-in-0 : goal.returns-in-0
returns-in-0 c = is_number c.args.bytes.now c.in_ok-key.key c.in_ok-key.k c.in_ok-value.value c.in_ok-value.n c.in_ok-key.ensures (tail c.args.bytes.now c.in_ok-key.k c.in_ok-value.ensures) c.in-0.is

pub returns-in_ok-payload-in-2 : goal.returns-in_ok-payload-in-2
returns-in_ok-payload-in-2 c =
    let x = c.in_ok-payload-in-2.ensures.lookup.0 in
    let at = c.in_ok-key.k + c.in_ok-value.n in
    is_bytes c.args.bytes.now c.in_ok-key.key c.in_ok-key.k c.in_ok-value.value c.in_ok-value.n c.in_ok-payload-in-2.payload c.in_ok-key.ensures (tail c.args.bytes.now c.in_ok-key.k c.in_ok-value.ensures) c.in-2.is
    (x.2 ∙ ap (λ (t : List ℕ). take (c.in_ok-value.value - 0) t) (take_rest c.args.bytes.now at) ∙ ap (λ (m : ℕ). take m (drop at c.args.bytes.now)) (omega arith)) (omega (arith, x.3)) (omega (arith, x.1, left c.args.bytes.now at, length-drop at c.args.bytes.now))

pub returns-in_default : goal.returns-in_default
returns-in_default c = no_such c.args.bytes.now c.in_ok-key.key c.in_ok-key.k c.in_ok-value.value c.in_ok-value.n c.in_ok-key.ensures (tail c.args.bytes.now c.in_ok-key.k c.in_ok-value.ensures) (search rules) (inl (search rules))
