use Rattle.std.proofs.Common.{sym, refl, ap, ◌∙◌}
use Rattle.encoding.specs.Lists.{list}
use Rattle.encoding.specs.Views.{key_view}
use Rattle.keysets.specs.Edits.{keyset_after}
use Rattle.keysets.specs.declared.manager.Edit.{Edit}
use Rattle.keysets.specs.declared.manager.Edit.TheVariants.{Delete}
use Rattle.keysets.proofs.Editing.{keyset_viewed, changes_in_place}
use Rattle.keysets.proofs.manager.Manager.put_back.Goals as goal

pub returns-in-Enable : goal.returns-in-Enable
returns-in-Enable c =
    let e = c.args.edit in
    let ks = c.self.inside.ks in
    let same = changes_in_place e c.args.id c.args.at ks.primary_key_id c.args.key (list ks.key) c.in-Enable.is in
    keyset_viewed e c.args.id c.args.at c.args.key ks (record { primary_key_id = ks.primary_key_id; key = c.set.new.self; id_width = ks.id_width }) (c.set.ensures.items ∙ sym same.0) (sym same.1)
    ∙ ap (keyset_after e c.args.id c.args.at (key_view c.args.key)) c.self.view_is

pub returns-in-Delete : goal.returns-in-Delete
returns-in-Delete c =
    let ks = c.self.inside.ks in
    let e = c.in-Delete.is in
    keyset_viewed Delete c.args.id c.args.at c.args.key ks (record { primary_key_id = ks.primary_key_id; key = c.take_out.new.keys; id_width = ks.id_width }) c.take_out.ensures refl
    ∙ ap (keyset_after Delete c.args.id c.args.at (key_view c.args.key)) c.self.view_is
    ∙ ap (λ (x : Edit). keyset_after x c.args.id c.args.at (key_view c.args.key) c.args.self.now) (sym e)
