use Rattle.std.proofs.Common.{◌≡◌, ℕ, List, Option, ◌+◌, ◌*◌, ◌≤◌, map, ◌∙◌, ap, subst}
use Rattle.tab_core.specs.declared.periodic.Periodic.{Periodic}
use Rattle.flow_net.specs.Load.{Load}
use Rattle.flow_net.specs.Flows.{IsNet, all_lacks}
use Rattle.flow_net.specs.Networks.{DemandsView, IsNetwork, NetView, lacks_of, load_of_view}
use Rattle.flow_net.specs.Counts.{edges, admitted}
use Rattle.flow_net.specs.Allotments.{AreMarks, IsAllotment, load_of_tasks, period_of_task}
use Rattle.flow_net.proofs.Allots.{allotted}
use Rattle.flow_net.proofs.Marking.{marks_unique}
use Rattle.flow_net.proofs.allotting.allot.Goals as goal

-- the network's end is an allotment
ended : (tasks : List (Option Periodic)) (cores : ℕ) (old new : NetView) (marks : List ℕ)
    (rows : List (List ℕ))
    → new.demands ≡ old.demands → IsNetwork new
    → load_of_view old.demands ≡ load_of_tasks tasks old.demands.marks cores
    → AreMarks (map period_of_task tasks) old.demands.marks
    → lacks_of new ≡ 0 → marks ≡ new.demands.marks → rows ≡ new.rows
    → IsAllotment tasks cores (record { marks = marks; ticks = rows })
ended tasks cores old new marks rows same net is_load are none m r =
    let l = load_of_tasks tasks old.demands.marks cores in
    let is : load_of_view new.demands ≡ l = ap (λ (d : DemandsView). load_of_view d) same ∙ is_load in
    let flow : IsNet l new.rows new.lacks new.room l.count
    = subst (λ (k : Load). IsNet k new.rows new.lacks new.room k.count) is net.flow_ok in
    let none' : all_lacks l new.lacks ≡ 0 = subst (λ (k : Load). all_lacks k new.lacks ≡ 0) is none in
    let at = m ∙ ap (λ (d : DemandsView). d.marks) same in
    rw at (rw r (allotted tasks old.demands.marks cores new.rows new.lacks new.room are flow none'))

pub returns-clause-allotment : goal.returns-clause-allotment
returns-clause-allotment g c =
    let known = c.in_ok-saturate.ensures in
    ended c.args.tasks.now c.args.cores c.in_ok-net.net c.saturate.new.net c.into_allotment.result.marks
    c.into_allotment.result.ticks
    known.demands known.network c.in_ok-net.ensures.load c.in_ok-net.ensures.marks known.done
    c.into_allotment.ensures.marks c.into_allotment.ensures.ticks

-- the cost of the network is that of the tasks, by whichever list of marks
costs : (tasks : List (Option Periodic)) (cores : ℕ) (net : NetView) (marks : List ℕ) (s s0 : ℕ)
    → load_of_view net.demands ≡ load_of_tasks tasks net.demands.marks cores
    → AreMarks (map period_of_task tasks) net.demands.marks
    → AreMarks (map period_of_task tasks) marks
    → s ≤ s0 + 2 * (admitted (load_of_view net.demands) * (load_of_view net.demands).count) * edges (load_of_view net.demands)
    → (let l = load_of_tasks tasks marks cores in s ≤ s0 + 2 * (admitted l * l.count) * edges l)
costs tasks cores net marks s s0 is of of' cost =
    let same = marks_unique (map period_of_task tasks) net.demands.marks marks of of' in
    subst (λ (l : Load). s ≤ s0 + 2 * (admitted l * l.count) * edges l)
    (is ∙ ap (λ m. load_of_tasks tasks m cores) same) cost

pub returns-in_err-saturate-clause-cost : goal.returns-in_err-saturate-clause-cost
returns-in_err-saturate-clause-cost g c = λ marks are.
    costs c.args.tasks.now c.args.cores c.in_ok-net.net marks c.saturate.new.steps c.args.steps.now
    c.in_ok-net.ensures.load c.in_ok-net.ensures.marks are c.in_err-saturate.ensures.cost

pub returns-clause-cost : goal.returns-clause-cost
returns-clause-cost g c = λ marks are.
    costs c.args.tasks.now c.args.cores c.in_ok-net.net marks c.saturate.new.steps c.args.steps.now
    c.in_ok-net.ensures.load c.in_ok-net.ensures.marks are c.in_ok-saturate.ensures.cost
