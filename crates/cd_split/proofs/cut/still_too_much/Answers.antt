use Rattle.std.proofs.Common.{◌≡◌, ◌≤◌, ◌+◌, ◌-◌, ◌/◌, subst}
use Rattle.cd_split.proofs.Cuts.{still_over}
use Rattle.cd_split.proofs.cut.still_too_much.Goals as goal

pub returns-clause-still : goal.returns-clause-still
returns-clause-still c = λ cores core vcpu from less over near le.
    let o = c.args.overload.now in
    let cost = c.args.cost in
    let period = c.args.period in
    let bound : c.saturating_sub-2.result
    ≡ cost - (o.demand - (o.to - o.from) - 1) / ((o.to - o.from - cost) / period + 1) = cc
    in
    still_over cores core vcpu cost less from period o c.requires.some over
    c.requires.demand (subst (λ n. n ≤ less) bound near) le
