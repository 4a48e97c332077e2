use Rattle.std.proofs.Common.{◌≡◌, ℕ, ◌+◌, ◌-◌, ◌*◌, ◌/◌, ◌%◌, ◌^◌, List, ◌++◌, length, take, drop, sym, refl, ap, ◌∙◌, arith, length-drop, rules}
use Rattle.std.proofs.lemmas.List.{take_all, length-take-le}
use Rattle.ciphers.specs.Bytes.{xors}
use Rattle.ciphers.specs.Fips197.{cipher}
use Rattle.ciphers.specs.Keys.{aes_key}
use Rattle.ciphers.specs.Rfc5297.{counter, masked, masked_from}
use Rattle.ciphers.specs.Tagging.{Progress, mac_key, progress, begun, absorbed}
use Rattle.ciphers.proofs.Masking.{next_chunk_within, take_parts, masked-next, masked-front}
use Rattle.ciphers.proofs.InPieces.{absorbed-append, absorbed-none}
use Rattle.ciphers.proofs.Ends.{tail_tag}
use Rattle.ciphers.proofs.siv.Siv.long_tag.Goals as goal

pub loop-j-init : goal.loop-j-init
unfolding masked_from
loop-j-init c =
    let none : c.into_iter-j-iterator.result.count ≡ 0 = search rules in
    let rest : c.into_iter-j-iterator.result.iter.rest.now ≡ take (16 * (length c.args.text.now / 16 - 1)) c.args.text.now = search rules in
    let tag = c.start-running.ensures ∙ sym (absorbed-none _) in
    let start : 0 ≡ 16 * c.into_iter-j-iterator.result.count = omega arith in (
      search rules,
      omega arith,
      rest ∙ ap (λ (n : ℕ). drop n (take (16 * (length c.args.text.now / 16 - 1)) c.args.text.now)) start,
      tag ∙ ap (λ (n : ℕ). absorbed (begun (mac_key c.args.self.now.mac)) (masked (cipher (aes_key c.args.self.now.ctr)) c.args.q (take n c.args.text.now))) start,
    )

pub loop-j-preserved : goal.loop-j-preserved
loop-j-preserved c =
    let E = cipher (aes_key c.args.self.now.ctr) in
    let p = begun (mac_key c.args.self.now.mac) in
    let text = c.args.text.now in
    let n = 16 * (length text / 16 - 1) in
    let j = c.loop-j.j-iterator.count in
    let at = 16 * j in
    let block = c.in-Some.block.now in
    let stream = c.stream_block.result in
    let step = c.in-Some.ensures.steps in
    let inv = c.loop-j.invariant in
    let sixteen : length block ≡ 16 = step.0.1.1 ∙ inv.0 in
    let here = next_chunk_within n at text block _ (omega arith) (omega arith) (sym inv.2 ∙ step.0.1.0) sixteen in
    let full : length stream ≡ 16 = search rules in
    let next : at + 16 ≡ 16 * (j + 1) = omega arith in
    let number : stream ≡ E (counter c.args.q j) = c.stream_block.ensures ∙ ap (λ (i : ℕ). E (counter c.args.q i)) step.1 in
    let plain : c.xor.result ≡ xors block stream = c.xor.ensures ∙ ap (λ (l : List ℕ). xors l stream) (c.front.ensures ∙ take_all 16 block (omega arith)) in
    let parts = take_parts at 16 text ∙ ap (λ (l : List ℕ). take at text ++ l) (sym here.1) in
    let more = masked-next E c.args.q text stream block j at (at + 16) refl (omega arith) number full (omega arith) parts in
    let count : c.next.new.self.count ≡ j + 1 = step.2 in
    let tag =
    c.absorb.ensures ∙
    (ap (λ (s : Progress). absorbed s c.xor.result) inv.3 ∙
    (ap (absorbed (absorbed p (masked E c.args.q (take at text)))) plain ∙
    (sym (absorbed-append p (masked E c.args.q (take at text)) (xors block stream)) ∙
    (ap (absorbed p) (sym more) ∙ ap (λ (k : ℕ). absorbed p (masked E c.args.q (take k text))) next)))) in (
      step.0.0 ∙ inv.0,
      omega (arith, here.0),
      here.2 ∙ ap (λ (k : ℕ). drop k (take n text)) (next ∙ ap (λ (k : ℕ). 16 * k) (sym count)),
      tag ∙ ap (λ (k : ℕ). absorbed p (masked E c.args.q (take (16 * k) text))) (sym count),
    )

pub returns : goal.returns
returns c =
    let E = cipher (aes_key c.args.self.now.ctr) in
    let key = mac_key c.args.self.now.mac in
    let text = c.args.text.now in
    let whole = length text / 16 - 1 in
    let j = c.loop-j.j-iterator.count in
    let inv = c.loop-j.invariant in
    let left : length c.loop-j.j-iterator.iter.rest.now ≡ 16 * whole - 16 * j = ap length inv.2 ∙ (length-drop (16 * j) (take (16 * whole) text) ∙ ap (λ (k : ℕ). k - 16 * j) (length-take-le (16 * whole) text (omega arith))) in
    let step = c.in-None.ensures.steps in
    let end : j ≡ whole = omega (arith, left, inv.0, inv.1, step.0.1.0) in
    let rest = c.split_at.ensures.back in
    let later = (c.args.q + whole) % 2 ^ 128 in
    let tail = masked-front E later (length c.split_at.result.1.now) _ c.mask.new.out _ c.mask.ensures refl ∙ ap (masked E later) rest in
    c.end_tag.ensures ∙
    tail_tag key E c.args.q whole text _ c.args.d (progress c.loop-j.running) (omega arith)
    (inv.3 ∙ ap (λ (k : ℕ). absorbed (begun key) (masked E c.args.q (take (16 * k) text))) end) tail
