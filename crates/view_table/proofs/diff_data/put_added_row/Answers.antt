use Rattle.std.proofs.lemmas.Result.{err_from_is_err_and}
use Rattle.std.proofs.Common.{refl}
use Rattle.tab_io.proofs.SinkLemmas.{all_left, left_behind, left_broken, left_last}
use Rattle.std.proofs.Common.{◌≡◌, length, rules}
use Rattle.vcpu_names.specs.Names.{name_at}
use Rattle.view_table.proofs.diff_data.put_added_row.Goals as goal

pub returns-in_err-put_old_part : goal.returns-in_err-put_old_part
returns-in_err-put_old_part g c =
    let p = err_from_is_err_and c.from_residual.result c.from_residual.ensures.1 in
    let count : c.len.result ≡ length c.args.old.now.tasks.items = search rules in
    let name : c.name_at-name.result.now ≡ name_at c.args.new.now.names.items c.args.vcpu = search rules in
    rw (p.1, ← count, ← name) (left_broken _ _ _ _ _ _ _ _ _ (all_left _ _) refl c.put_old_part.ensures c.in_err-put_old_part.was)

pub returns : goal.returns
returns g c =
    let count : c.len.result ≡ length c.args.old.now.tasks.items = search rules in
    let name : c.name_at-name.result.now ≡ name_at c.args.new.now.names.items c.args.vcpu = search rules in
    let at0 = left_behind _ _ _ _ _ _ _ _ _ (all_left _ _) refl c.put_old_part.ensures c.in_ok-put_old_part.was in
    rw (← count, ← name) (left_last _ _ _ _ _ _ at0 c.put_new_part.ensures)
