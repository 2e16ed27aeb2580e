use Rattle.std.proofs.Common.{refl}
use Rattle.std.proofs.lemmas.Result.{err_from_is_err_and}
use Rattle.tab_io.proofs.SinkLemmas.{all_left, left_behind, left_broken, left_last}
use Rattle.trace_report.proofs.report_lines.write_report.Goals as goal

pub returns-in_err-put_run : goal.returns-in_err-put_run
returns-in_err-put_run g c =
    let p = err_from_is_err_and c.from_residual.result c.from_residual.ensures.1 in
    rw p.1 (left_broken _ _ _ _ _ _ _ _ _ (all_left _ _) refl c.put_run.ensures c.in_err-put_run.was)

pub returns-in_err-put_changes : goal.returns-in_err-put_changes
returns-in_err-put_changes g c =
    let p = err_from_is_err_and c.from_residual-in_err-put_changes.result
    c.from_residual-in_err-put_changes.ensures.1 in
    let changes = rw c.items-vcpus.ensures.same at c.put_changes.ensures in
    rw p.1 (left_broken _ _ _ _ _ _ _ _ _
    (left_behind _ _ _ _ _ _ _ _ _ (all_left _ _) refl c.put_run.ensures c.in_ok-put_run.was)
    refl changes c.in_err-put_changes.was)

pub returns-in_err-put_rounds : goal.returns-in_err-put_rounds
returns-in_err-put_rounds g c =
    let p = err_from_is_err_and c.from_residual-in_err-put_rounds.result
    c.from_residual-in_err-put_rounds.ensures.1 in
    let changes = rw c.items-vcpus.ensures.same at c.put_changes.ensures in
    let rounds = rw c.plans.ensures at c.put_rounds.ensures in
    rw p.1 (left_broken _ _ _ _ _ _ _ _ _
    (left_behind _ _ _ _ _ _ _ _ _
    (left_behind _ _ _ _ _ _ _ _ _ (all_left _ _) refl c.put_run.ensures c.in_ok-put_run.was)
    refl changes c.in_ok-put_changes.was)
    refl rounds c.in_err-put_rounds.was)

pub returns-in_err-put_vcpus : goal.returns-in_err-put_vcpus
returns-in_err-put_vcpus g c =
    let p = err_from_is_err_and c.from_residual-in_err-put_vcpus.result
    c.from_residual-in_err-put_vcpus.ensures.1 in
    let changes = rw c.items-vcpus.ensures.same at c.put_changes.ensures in
    let rounds = rw c.plans.ensures at c.put_rounds.ensures in
    let vcpus = rw (c.items-vcpus.ensures.same, c.vcpus.ensures) at c.put_vcpus.ensures in
    rw p.1 (left_broken _ _ _ _ _ _ _ _ _
    (left_behind _ _ _ _ _ _ _ _ _
    (left_behind _ _ _ _ _ _ _ _ _
    (left_behind _ _ _ _ _ _ _ _ _ (all_left _ _) refl c.put_run.ensures c.in_ok-put_run.was)
    refl changes c.in_ok-put_changes.was)
    refl rounds c.in_ok-put_rounds.was)
    refl vcpus c.in_err-put_vcpus.was)

pub returns-in_err-put_cores : goal.returns-in_err-put_cores
returns-in_err-put_cores g c =
    let p = err_from_is_err_and c.from_residual-in_err-put_cores.result
    c.from_residual-in_err-put_cores.ensures.1 in
    let changes = rw c.items-vcpus.ensures.same at c.put_changes.ensures in
    let rounds = rw c.plans.ensures at c.put_rounds.ensures in
    let vcpus = rw (c.items-vcpus.ensures.same, c.vcpus.ensures) at c.put_vcpus.ensures in
    let cores = rw (c.cores.ensures, c.requires.each_core) at c.put_cores.ensures in
    rw p.1 (left_broken _ _ _ _ _ _ _ _ _
    (left_behind _ _ _ _ _ _ _ _ _
    (left_behind _ _ _ _ _ _ _ _ _
    (left_behind _ _ _ _ _ _ _ _ _
    (left_behind _ _ _ _ _ _ _ _ _ (all_left _ _) refl c.put_run.ensures c.in_ok-put_run.was)
    refl changes c.in_ok-put_changes.was)
    refl rounds c.in_ok-put_rounds.was)
    refl vcpus c.in_ok-put_vcpus.was)
    refl cores c.in_err-put_cores.was)

pub returns : goal.returns
returns g c =
    let changes = rw c.items-vcpus.ensures.same at c.put_changes.ensures in
    let rounds = rw c.plans.ensures at c.put_rounds.ensures in
    let vcpus = rw (c.items-vcpus.ensures.same, c.vcpus.ensures) at c.put_vcpus.ensures in
    let cores = rw (c.cores.ensures, c.requires.each_core) at c.put_cores.ensures in
    left_last _ _ _ _ _ _
    (left_behind _ _ _ _ _ _ _ _ _
    (left_behind _ _ _ _ _ _ _ _ _
    (left_behind _ _ _ _ _ _ _ _ _
    (left_behind _ _ _ _ _ _ _ _ _
    (left_behind _ _ _ _ _ _ _ _ _ (all_left _ _) refl c.put_run.ensures c.in_ok-put_run.was)
    refl changes c.in_ok-put_changes.was)
    refl rounds c.in_ok-put_rounds.was)
    refl vcpus c.in_ok-put_vcpus.was)
    refl cores c.in_ok-put_cores.was) c.put_done.ensures
