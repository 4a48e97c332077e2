use Rattle.std.proofs.Common.{ℕ, List, sym, ap, ◌∙◌, arith}
use Rattle.std.proofs.lemmas.List.{length-take-le}
use Rattle.std.specs.Str.{bytes_eq}
use Rattle.encoding.specs.Keysets.{sound}
use Rattle.encoding.specs.Meanings.{KeysetMeaning, keyset_fields}
use Rattle.encoding.specs.Wire.{encode}
use Rattle.encoding.specs.Views.{fields_of_keyset}
use Rattle.keysets.proofs.Writing.{wrote-within, wrote-front}
use Rattle.keysets.proofs.manager.Manager.has_encoding.Goals as goal

pub slice_bounds-out-end : goal.slice_bounds-out-end
slice_bounds-out-end c = wrote-within _ _ _ _ c.in-Ok.ensures

pub slice_bounds-eq-end : goal.slice_bounds-eq-end
slice_bounds-eq-end c = sym (length-take-le _ _ (wrote-within _ _ _ _ c.in-Ok.ensures))

pub returns-in-Ok : goal.returns-in-Ok
unfolding fields_of_keyset
returns-in-Ok c =
    c.eq.ensures ∙ ap (λ (l : List ℕ). bytes_eq l c.args.bytes.now) (wrote-front _ _ _ _ c.in-Ok.ensures)
    ∙ ap (λ (s : KeysetMeaning). bytes_eq (encode (keyset_fields s)) c.args.bytes.now) c.self.view_is

pub returns-in-Err : goal.returns-in-Err
unfolding fields_of_keyset
returns-in-Err c =
    let u = c.in-Err.ensures in
    let most = (sound c.self.inside.ks).size in
    absurd (omega (arith, u.short))
