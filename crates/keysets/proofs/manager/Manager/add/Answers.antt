use Rattle.std.proofs.Common.{length, Ok, Err, sym, ap, ◌∙◌, subst, arith}
use Rattle.std.proofs.lemmas.List.{length-map}
use Rattle.std.proofs.lemmas.Result.{err_from_is_err_and}
use Rattle.ciphers.specs.declared.fault.Fault.{Fault}
use Rattle.encoding.specs.Lists.{list}
use Rattle.encoding.specs.Meanings.{KeysetMeaning}
use Rattle.encoding.specs.Views.{key_view, key_template_view}
use Rattle.keysets.specs.Adding.{Added, added}
use Rattle.keysets.specs.Claims.{DistinctIds}
use Rattle.keysets.specs.Registries.{registered}
use Rattle.keysets.specs.Running.{NewKeyUsable}
use Rattle.keysets.proofs.Usable.{registered-lawful, added-usable}
use Rattle.keysets.proofs.AddLaws.{added_distinct}
use Rattle.keysets.proofs.Appending.{added_full, added-made}
use Rattle.keysets.proofs.manager.Manager.add.Goals as goal

pub returns-then-len-ge16 : goal.returns-then-len-ge16
returns-then-len-ge16 g c =
    let s = c.args.self.now in
    let len = length-map (list c.self.inside.ks.key) key_view in
    let same = ap (λ (t : KeysetMeaning). length t.keys) c.self.view_is in
    let is = added_full (registered g.M.Primitives.maker g.M.KeyMaking.keys c.args.registry.now.bank.now) (key_template_view c.args.kt.now) c.args.as_primary s (g.D.Draws.left c.args.words.now) (omega arith) in
    record {
      adds = record {
        keyset = sym (ap (λ (a : Added). a.keyset) is);
        words = sym (ap (λ (a : Added). a.words) is);
        value = ap (λ (f : Fault). Err f) c.new.ensures ∙ sym (ap (λ (a : Added). a.answer) is);
      };
      distinct = λ d. d;
      usable = tt;
    }

pub returns-in_err-key : goal.returns-in_err-key
returns-in_err-key g c =
    let s = c.args.self.now in
    let len = length-map (list c.self.inside.ks.key) key_view in
    let same = ap (λ (t : KeysetMeaning). length t.keys) c.self.view_is in
    let p = err_from_is_err_and c.from_residual.result c.from_residual.ensures.1 in
    let is = added-made (registered g.M.Primitives.maker g.M.KeyMaking.keys c.args.registry.now.bank.now) (key_template_view c.args.kt.now) c.args.as_primary s (g.D.Draws.left c.args.words.now)
    (Err c.in_err-key.field-0.0) (g.D.Draws.left c.make_key.new.words) (omega arith) c.in_err-key.ensures.key c.make_key.ensures.words in
    record {
      adds = record {
        keyset = ap (λ (a : Added). a.keyset) is;
        words = ap (λ (a : Added). a.words) is;
        value = p.1 ∙ (ap (λ (f : Fault). Err f) p.2 ∙ ap (λ (a : Added). a.answer) is);
      };
      distinct = λ d. d;
      usable = subst (NewKeyUsable (registered g.M.Primitives.maker g.M.KeyMaking.keys c.args.registry.now.bank.now) (length s.keys) s) (sym p.1) tt;
    }

pub append-requires : goal.append-requires
append-requires g c =
    let len = length-map (list c.self.inside.ks.key) key_view in
    let same = ap (λ (t : KeysetMeaning). length t.keys) c.self.view_is in
    omega arith

pub returns : goal.returns
returns g c =
    let s = c.args.self.now in
    let len = length-map (list c.self.inside.ks.key) key_view in
    let same = ap (λ (t : KeysetMeaning). length t.keys) c.self.view_is in
    let is = added-made (registered g.M.Primitives.maker g.M.KeyMaking.keys c.args.registry.now.bank.now) (key_template_view c.args.kt.now) c.args.as_primary s (g.D.Draws.left c.args.words.now)
    (Ok (key_view c.in_ok-key.key)) (g.D.Draws.left c.make_key.new.words) (omega arith) c.in_ok-key.ensures.key c.make_key.ensures.words in
    let ms = registered g.M.Primitives.maker g.M.KeyMaking.keys c.args.registry.now.bank.now in
    let value = ap (λ (a : Added). a.answer) is in
    let after = c.append.ensures ∙ ap (λ (a : Added). a.keyset) is in
    record {
      adds = record { keyset = after; words = ap (λ (a : Added). a.words) is; value = value };
      distinct = λ d. subst (λ (t : KeysetMeaning). DistinctIds t.keys) (sym after) (added_distinct (registered g.M.Primitives.maker g.M.KeyMaking.keys c.args.registry.now.bank.now) (key_template_view c.args.kt.now) c.args.as_primary s (g.D.Draws.left c.args.words.now) d);
      usable = subst (λ (t : KeysetMeaning). NewKeyUsable ms (length s.keys) t (Ok c.in_ok-key.key.key_id)) (sym after)
          (subst (NewKeyUsable ms (length s.keys) (added ms (key_template_view c.args.kt.now) c.args.as_primary s (g.D.Draws.left c.args.words.now)).keyset) (sym value)
          (added-usable ms (key_template_view c.args.kt.now) c.args.as_primary s (g.D.Draws.left c.args.words.now) (registered-lawful g.M.Primitives.maker g.M.KeyMaking.keys (λ m. record {
            url = g.M.Primitives.url_fits m;
            material = g.M.KeyMaking.material_known m;
            making = g.met.M.KeyMaking.lawful m;
          }) c.args.registry.now.bank.now)));
    }
