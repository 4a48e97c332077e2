use Rattle.std.proofs.Common.{◌≡◌, ℕ, ◌+◌, ◌-◌, ◌*◌, ◌/◌, List, ◌++◌, length, take, drop, sym, refl, ap, ◌∙◌, arith, length-drop, rules}
use Rattle.std.proofs.lemmas.List.{take_all, take_rest, take-append-drop}
use Rattle.ciphers.specs.Bytes.{xors}
use Rattle.ciphers.specs.Fips197.{cipher}
use Rattle.ciphers.specs.Keys.{aes_key}
use Rattle.ciphers.specs.Rfc5297.{counter, masked, masked_from}
use Rattle.ciphers.proofs.Masking.{next_chunk, take_parts, mask_step, written_rest}
use Rattle.ciphers.proofs.ctr.mask.Goals as goal

pub loop-j-init : goal.loop-j-init
unfolding masked_from
loop-j-init c =
    let E = cipher (aes_key c.args.aes.now) in
    let start : 0 ≡ 16 * c.into_iter-j-iterator.result.count = search rules in
    let rest : c.into_iter-j-iterator.result.iter.rest.now ≡ c.args.text.now = search rules in (
      search rules,
      omega arith,
      rest ∙ ap (λ (n : ℕ). drop n c.args.text.now) start,
      ap (λ (n : ℕ). masked E c.args.q (take n c.args.text.now) ++ drop n c.args.out.now) start,
    )

pub slice_bounds-mask_block-end : goal.slice_bounds-mask_block-end
slice_bounds-mask_block-end c =
    let text = c.args.text.now in
    let step = c.in-Some.ensures.steps in
    let inv = c.loop-j.invariant in
    let here = next_chunk text (16 * c.loop-j.j-iterator.count) c.in-Some.block.now _ inv.1 (sym inv.2 ∙ step.0.1.0) (step.0.1.1 ∙ inv.0) in
    omega (arith, here.0, step.1, c.loop-j.auto.out)

pub loop-j-preserved : goal.loop-j-preserved
loop-j-preserved c =
    let E = cipher (aes_key c.args.aes.now) in
    let text = c.args.text.now in
    let o = c.args.out.now in
    let j = c.loop-j.j-iterator.count in
    let at = 16 * j in
    let block = c.in-Some.block.now in
    let stream = c.stream_block.result in
    let step = c.in-Some.ensures.steps in
    let inv = c.loop-j.invariant in
    let o' = c.loop-j.out in
    let sixteen : length block ≡ 16 = step.0.1.1 ∙ inv.0 in
    let here = next_chunk text at block _ inv.1 (sym inv.2 ∙ step.0.1.0) sixteen in
    let full : length stream ≡ 16 = search rules in
    let place : 16 * c.in-Some.j ≡ at = ap (λ (k : ℕ). 16 * k) step.1 in
    let next : at + 16 ≡ 16 * (j + 1) = omega arith in
    let number : stream ≡ E (counter c.args.q j) = c.stream_block.ensures ∙ ap (λ (i : ℕ). E (counter c.args.q i)) step.1 in
    let parts = take_parts at 16 text ∙ ap (λ (l : List ℕ). take at text ++ l) (sym here.1) in
    let count : 16 * c.next.new.self.count ≡ at + 16 = ap (λ (k : ℕ). 16 * k) step.2 ∙ sym next in
    let long : length o' ≡ length o = c.loop-j.auto.out in
    let all : take 16 block ≡ block = take_all 16 block (omega arith) in
    let put = written_rest (16 * c.in-Some.j) _ 16 o' _ (xors block stream) (omega arith) (omega (arith, place, here.0)) (let e = c.mask_block.ensures in cc) in (
      step.0.0 ∙ inv.0,
      omega (arith, here.0, count),
      here.2 ∙ ap (λ (k : ℕ). drop k text) (sym count),
      put ∙ (ap (λ (k : ℕ). take k o' ++ (xors block stream ++ drop (k + 16) o')) place ∙
          (mask_step E c.args.q text o o' stream block j at (at + 16) refl inv.1 inv.3 number full (omega arith) (omega arith) parts ∙
          ap (λ (n : ℕ). masked E c.args.q (take n text) ++ drop n o) (sym count))),
    )

pub returns : goal.returns
returns c =
    let E = cipher (aes_key c.args.aes.now) in
    let text = c.args.text.now in
    let o = c.args.out.now in
    let o' = c.loop-j.out in
    let n = length text in
    let whole = n / 16 in
    let at = 16 * whole in
    let inv = c.loop-j.invariant in
    let step = c.in-None.ensures.steps in
    let left : length c.loop-j.j-iterator.iter.rest.now ≡ n - 16 * c.loop-j.j-iterator.count = ap length inv.2 ∙ length-drop (16 * c.loop-j.j-iterator.count) text in
    let end : 16 * c.loop-j.j-iterator.count ≡ at = omega (arith, left, inv.0, inv.1, step.0.1.0) in
    let b = drop at text in
    let s = c.stream_block-stream.result in
    let full : length s ≡ 16 = search rules in
    let rest : length b ≡ n - at = length-drop at text in
    let size : at + length b ≡ n = omega arith in
    let all : take n text ≡ text = take_all n text (omega arith) in
    let tail = take_rest text at in
    let before : o' ≡ masked E c.args.q (take at text) ++ drop at o = inv.3 ∙ ap (λ (k : ℕ). masked E c.args.q (take k text) ++ drop k o) end in
    written_rest at _ (length b) o' _ (xors b s) (omega arith) (omega (arith, c.loop-j.auto.out)) (let e = c.mask_rest.ensures in cc) ∙
    (ap (λ (k : ℕ). take at o' ++ (xors b s ++ drop k o')) size ∙
    (mask_step E c.args.q text o o' s b whole at n refl (omega arith) before c.stream_block-stream.ensures full (omega arith) (omega arith) (all ∙ sym (take-append-drop at text)) ∙
    ap (λ (t : List ℕ). masked E c.args.q t ++ drop n o) all))
