use Rattle.std.proofs.lemmas.Result.{err_from_is_err_and}
use Rattle.std.proofs.Common.{refl}
use Rattle.tab_io.proofs.SinkLemmas.{all_left, left_behind, left_broken, left_last}
use Rattle.std.proofs.Common.{◌≡◌, length, rules}
use Rattle.vcpu_names.specs.Names.{name_at}
use Rattle.view_table.specs.Diff.{number_of}
use Rattle.view_table.proofs.diff_data.put_old_row.Goals as goal

pub returns-in_err-put_old_part : goal.returns-in_err-put_old_part
returns-in_err-put_old_part g c =
    let p = err_from_is_err_and c.from_residual.result c.from_residual.ensures.1 in
    let name : c.name_at-name.result.now ≡ name_at c.args.old.now.names.items c.args.vcpu = search rules in
    let other : c.number_of-other.result ≡ number_of c.args.new.now.names.items (length c.args.new.now.tasks.items) (name_at c.args.old.now.names.items c.args.vcpu) = rw (← name) (search rules) in
    rw (p.1, ← other, ← name) (left_broken _ _ _ _ _ _ _ _ _ (all_left _ _) refl c.put_old_part.ensures c.in_err-put_old_part.was)

pub returns : goal.returns
returns g c =
    let name : c.name_at-name.result.now ≡ name_at c.args.old.now.names.items c.args.vcpu = search rules in
    let other : c.number_of-other.result ≡ number_of c.args.new.now.names.items (length c.args.new.now.tasks.items) (name_at c.args.old.now.names.items c.args.vcpu) = rw (← name) (search rules) in
    let at0 = left_behind _ _ _ _ _ _ _ _ _ (all_left _ _) refl c.put_old_part.ensures c.in_ok-put_old_part.was in
    rw (← other, ← name) (left_last _ _ _ _ _ _ at0 c.put_new_part.ensures)
