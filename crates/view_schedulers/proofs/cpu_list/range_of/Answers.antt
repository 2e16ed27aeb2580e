use Rattle.std.proofs.Common.{◌++◌, ◌∷◌, ap, ◌∙◌}
use Rattle.view_schedulers.specs.CpuLists.{One}
use Rattle.view_schedulers.proofs.CpuListLemmas.{one_cpu}
use Rattle.view_schedulers.proofs.cpu_list.range_of.Goals as goal

pub returns-in-None : goal.returns-in-None
returns-in-None c =
    let split = rw c.in-None.is at c.first_split.ensures in
    One c.in_ok-first.first (split ∙ c.in_ok-first.ensures.0) (one_cpu c.in_ok-first.first)

pub returns-in_ok-range_from-in-Some : goal.returns-in_ok-range_from-in-Some
returns-in_ok-range_from-in-Some c =
    let split = rw c.in-Some.is at c.first_split.ensures in
    c.in_ok-range_from-in-Some.ensures c.args.part.now
    (split ∙ ap (λ xs. xs ++ 45 ∷ c.in-Some.ends.now) c.in_ok-first.ensures.0)
