-- A key that is disabled and then enabled.
use Rattle.std.proofs.Common.{◌≡◌, ℕ, List, set, ℤ, pos, sym, refl, ap, ◌∙◌}
use Rattle.std.proofs.lemmas.List.{get_or-set_same, set-set, set-get_or}
use Rattle.encoding.specs.Meanings.{KeyMeaning, KeysetMeaning}
use Rattle.encoding.specs.Numbers.{status_number}
use Rattle.encoding.specs.declared.numbers.KeyStatusType.TheVariants.{Enabled, Disabled}
use Rattle.keysets.specs.Claims.{FirstWith, DisabledAndEnabled}
use Rattle.encoding.specs.Kinds.{statuses, status_of}
use Rattle.keysets.specs.Edits.{blank_key, key_at, takes, with_status, keyset_after, Edited, accepted, edited}
use Rattle.keysets.specs.declared.manager.Edit.TheVariants.{Enable, Disable}
use Rattle.keysets.proofs.Editing.{edited-taken}
use Rattle.keysets.proofs.EditLaws.{took}
use Rattle.keysets.proofs.Kind.{kind_number}
use Rattle.keysets.proofs.Positions.{position_found_by, position-set}

-- the keyset with the key at a position Disabled
abbrev without : ℕ → KeysetMeaning → KeysetMeaning
without i s = record { primary_key_id = s.primary_key_id; keys = set s.keys i (with_status Disabled (key_at s.keys i)) }

enabled_again : (k : KeyMeaning) → k.status ≡ pos 1 → with_status Enabled (with_status Disabled k) ≡ k
enabled_again k e = ap (λ (z : ℤ). record { key_data = k.key_data; status = z; key_id = k.key_id; output_prefix_type = k.output_prefix_type }) (sym e)

enable_back : (id i : ℕ) (s : KeysetMeaning) → FirstWith id i s.keys → (key_at s.keys i).status ≡ pos 1 → edited Enable id (without i s) ≡ accepted s
enable_back id i s f e =
    let ks = s.keys in
    let k = key_at ks i in
    let there : key_at (without i s).keys i ≡ with_status Disabled k = get_or-set_same ks i (with_status Disabled k) blank_key f.within in
    let found = position-set id i ks (with_status Disabled k) refl ∙ position_found_by id i ks f in
    let takes_it = ap (λ (x : KeyMeaning). takes Enable (status_of x.status)) there in
    edited-taken Enable id i (without i s) refl found takes_it
    ∙ ap (λ (x : KeyMeaning). accepted (keyset_after Enable id i (with_status Enabled x) (without i s))) there
    ∙ ap (λ (xs : List KeyMeaning). accepted (record { primary_key_id = s.primary_key_id; keys = xs }))
    (set-set ks i (with_status Disabled k) (with_status Enabled (with_status Disabled k)) ∙ ap (set ks i) (enabled_again k e) ∙ set-get_or ks i blank_key)

pub enabling_undoes_disabling : DisabledAndEnabled
enabling_undoes_disabling id i s f e r =
    let w = took Disable id s r in
    let same : w.0 ≡ i = let h = position_found_by id i s.keys f in let g = position_found_by id w.0 s.keys w.1.first in cc in
    ap (λ (x : Edited). edited Enable id x.keyset) w.1.is
    ∙ ap (λ (n : ℕ). edited Enable id (without n s)) same
    ∙ enable_back id i s f (sym (kind_number status_number statuses (key_at s.keys i).status Enabled e))
