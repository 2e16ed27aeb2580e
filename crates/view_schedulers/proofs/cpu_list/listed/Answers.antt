use Rattle.std.proofs.Common.{◌++◌, subst, sym}
use Rattle.std.proofs.lemmas.List.{append_assoc}
use Rattle.view_schedulers.specs.CpuLists.{IsCpuList, IsPart, Last, Next}
use Rattle.view_schedulers.proofs.cpu_list.listed.Goals as goal

pub returns-in-None-clause-list : goal.returns-in-None-clause-list
returns-in-None-clause-list c =
    let p = c.in_ok-push_part.ensures.part in
    let split = rw c.in-None.is at c.first_split.ensures in
    rw p.1 (c.loop.invariant p.0 (Last c.loop.rest.now p.0 (subst (λ text. IsPart text p.0) (sym split) p.2)))

pub loop-preserved : goal.loop-preserved
loop-preserved c = λ others list.
    let p = c.in_ok-push_part.ensures.part in
    let split = rw c.in-Some.is at c.first_split.ensures in
    rw p.1 (subst (IsCpuList c.args.text.now) (sym (append_assoc c.loop.cpus.items p.0 others))
    (c.loop.invariant (p.0 ++ others) (subst (λ text. IsCpuList text (p.0 ++ others)) (sym split)
    (Next c.first_split.result.0.now p.0 c.in-Some.more.now others p.2 list))))
