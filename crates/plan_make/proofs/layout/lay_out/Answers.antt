use Rattle.std.proofs.Common.{◌≡◌, [], drop, length, subst, sym, ◌∙◌, arith}
use Rattle.std.proofs.lemmas.List.{take_at}
use Rattle.std.proofs.lemmas.Result.{err_from_is_err_and}
use Rattle.plan_make.specs.Inside.Allotted.{AreLaidOut}
use Rattle.plan_make.specs.Layout.{IsStayingStart}
use Rattle.plan_make.specs.Unsplit.{StandUnsplit}
use Rattle.plan_make.proofs.SplitInTurnLemmas.{layout_fault}
use Rattle.plan_make.proofs.StartLemmas.{IsRead, read_is_laid_out, read_is_stuck}
use Rattle.plan_make.proofs.layout.lay_out.Goals as goal

pub split_each-requires : goal.split_each-requires
split_each-requires c =
    let placed = c.in_ok-placed.placed in
    let read : IsRead c.args.tasks.now c.items-2.result.now placed c.deref_mut.result.now
    c.items-3.result.now = record {
      tasks_are = c.items-2.ensures.same;
      homes_are = c.deref_mut.ensures.value ∙ c.in_ok-homes.ensures.items ∙ c.items-core_of.ensures.same;
      left_is = c.items-3.ensures;
    } in
    let stand =
    subst (λ hs. StandUnsplit c.args.tasks.now hs c.args.host.now.cores c.in_ok-cores.cores)
    c.items-core_of.ensures.same
    (subst (λ ts. StandUnsplit ts c.items-core_of.result.now c.args.host.now.cores
    c.in_ok-cores.cores) c.items.ensures.same c.in_ok-cores.ensures) in
    read_is_laid_out c.args.tasks.now _ placed _ _ c.args.host.now.cores c.in_ok-cores.cores read
    c.in_ok-placed.ensures.each stand

pub returns-in_err-split_each-clause-fault : goal.returns-in_err-split_each-clause-fault
returns-in_err-split_each-clause-fault c =
    let p = err_from_is_err_and c.from_residual-in_err-split_each.result
    c.from_residual-in_err-split_each.ensures.1 in
    let placed = c.in_ok-placed.placed in
    let read : IsRead c.args.tasks.now c.items-2.result.now placed c.deref_mut.result.now
    c.items-3.result.now = record {
      tasks_are = c.items-2.ensures.same;
      homes_are = c.deref_mut.ensures.value ∙ c.in_ok-homes.ensures.items ∙ c.items-core_of.ensures.same;
      left_is = c.items-3.ensures;
    } in
    let stand =
    subst (λ hs. StandUnsplit c.args.tasks.now hs c.args.host.now.cores c.in_ok-cores.cores)
    c.items-core_of.ensures.same
    (subst (λ ts. StandUnsplit ts c.items-core_of.result.now c.args.host.now.cores
    c.in_ok-cores.cores) c.items.ensures.same c.in_ok-cores.ensures) in
    let start : IsStayingStart c.args.old_homes.now c.args.host.now c.args.tasks.now placed c.in_ok-cores.cores =
    record { tasks_are = c.requires; placement = c.in_ok-placed.ensures.placement; stand = stand } in
    rw (p.1, p.2) (layout_fault c.args.old_homes.now c.args.host.now c.args.tasks.now placed c.in_ok-cores.cores _ start
    (read_is_stuck c.args.tasks.now _ placed _ _ c.in_ok-cores.cores c.in_err-split_each.field-0.0
    read c.in_err-split_each.ensures.fault))

pub returns-clause-laid_out : goal.returns-clause-laid_out
returns-clause-laid_out c =
    let size : length c.split_each.new.homes ≡ c.in_ok-homes.homes.len =
    omega (arith, c.split_each.auto.homes, c.deref_mut.ensures.len) in
    let homes_are = take_at c.split_each.new.homes
    (drop (length c.split_each.new.homes) c.in_ok-homes.homes.items) c.in_ok-homes.homes.len
    size in
    subst (λ hs. AreLaidOut c.args.tasks.now c.split_each.new.cores hs []) (sym homes_are)
    (subst (λ ts. AreLaidOut ts c.split_each.new.cores c.split_each.new.homes [])
    c.items-2.ensures.same c.in_ok-split_each.ensures.laid_out)
