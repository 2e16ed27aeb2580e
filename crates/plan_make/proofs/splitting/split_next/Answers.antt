use Rattle.std.proofs.Common.{Some, set, ap}
use Rattle.std.proofs.lemmas.Result.{err_from_is_err_and}
use Rattle.plan_make.proofs.splitting.split_next.Goals as goal

pub returns-in_err-home-clause-fault : goal.returns-in_err-home-clause-fault
returns-in_err-home-clause-fault c =
    let p = err_from_is_err_and c.from_residual.result c.from_residual.ensures.1 in
    rw (p.1, p.2) (c.task_of.result, c.task_of.ensures, c.in_err-home.ensures.fault)

pub returns-clause-ok : goal.returns-clause-ok
returns-clause-ok c = record {
  task = c.task_of.result;
  at = c.task_of.ensures;
  home = c.in_ok-home.home;
  added = c.in_ok-home.ensures.ok;
  homes_are = ap (λ v. set c.args.homes.now v (Some c.in_ok-home.home)) c.index.ensures.value;
}
