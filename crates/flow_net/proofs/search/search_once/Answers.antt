use Rattle.std.proofs.Common.{◌≡◌, arith, ◌∙◌}
use Rattle.std.proofs.lemmas.Bool.{false≢true}
use Rattle.flow_net.specs.Flows.{flow_of, lack_of}
use Rattle.flow_net.specs.Inside.Demanded.{load}
use Rattle.flow_net.specs.Counts.{admitted, job_count}
use Rattle.flow_net.specs.Inside.Reach.{scanned}
use Rattle.flow_net.specs.Inside.Reaching.{reached_of}
use Rattle.flow_net.proofs.Searched.{no_lacks, lacks_less, scanned_le, cost_bound, rooted_at}
use Rattle.flow_net.proofs.Back.{due_is}
use Rattle.flow_net.proofs.search.search_once.Goals as goal

pub returns-in-None-clause-done : goal.returns-in-None-clause-done
returns-in-None-clause-done g c e =
    no_lacks (load c.args.demands.now) c.args.flow.now.lacks.items c.in-None.ensures.none

pub find_room-requires-clause-rooted : goal.find_room-requires-clause-rooted
find_room-requires-clause-rooted g c =
    let d = c.args.demands.now in
    let known = c.in-Some.ensures in
    let root = rooted_at (load d) d.ok (lack_of c.args.flow.now.lacks.items) c.in-Some.at.0 c.in-Some.at.1
    (reached_of c.read_job.new.reach)
    known.vcpu known.job known.lacks c.read_job.ensures.all in
    let u : c.read_job.new.reach.root_vcpu ≡ c.in-Some.at.0 = c.read_job.ensures.root_vcpu
    ∙ c.begin.ensures.root_vcpu in
    let k : c.read_job.new.reach.root_job ≡ c.in-Some.at.1 = c.read_job.ensures.root_job
    ∙ c.begin.ensures.root_job in
    rw u (rw k root)

pub returns-in-Some-find_room-clause-raised : goal.returns-in-Some-find_room-clause-raised
returns-in-Some-find_room-clause-raised g c t =
    let d = c.args.demands.now in
    let f = c.args.flow.now in
    let known = c.in-Some.ensures in
    let u : c.find_room.new.reach.root_vcpu ≡ c.in-Some.at.0 = c.find_room.ensures.root_vcpu
    ∙ c.read_job.ensures.root_vcpu ∙ c.begin.ensures.root_vcpu in
    let k : c.find_room.new.reach.root_job ≡ c.in-Some.at.1 = c.find_room.ensures.root_job
    ∙ c.read_job.ensures.root_job ∙ c.begin.ensures.root_job in
    rw c.move_along.ensures.lacks (rw u
    (rw k (lacks_less (load d) f.rows.items f.lacks.items f.room.items (load d).count c.in-Some.at.0
    c.in-Some.at.1
    c.requires.net known.vcpu known.job known.lacks)))

pub returns-in-Some-find_room-clause-cost : goal.returns-in-Some-find_room-clause-cost
returns-in-Some-find_room-clause-cost g c =
    let d = c.args.demands.now in
    let l = load d in
    let r = c.find_room.new.reach in
    let most = scanned_le l (flow_of c.args.flow.now.rows.items) r.root_vcpu r.root_job (reached_of r)
    c.find_room.ensures.search in
    let bound = cost_bound l.count (admitted l) (job_count l) (scanned l (reached_of r)) most in
    omega (arith, bound, c.first_lacking.ensures.cost, c.read_job.ensures.cost, c.find_room.ensures.cost)

pub begin-requires-clause-due : goal.begin-requires-clause-due
begin-requires-clause-due g c =
    let d = c.args.demands.now in
    let known = c.in-Some.ensures in
    due_is (load d) c.in-Some.at.0
    (omega (arith, known.lacks, c.requires.net.flow.due c.in-Some.at.0 c.in-Some.at.1 known.vcpu known.job))

pub returns-in-None-find_room-clause-net : goal.returns-in-None-find_room-clause-net
returns-in-None-find_room-clause-net g c = c.requires.net

pub returns-in-None-find_room-clause-raised : goal.returns-in-None-find_room-clause-raised
returns-in-None-find_room-clause-raised g c t =
    absurd (false≢true (rw c.in-None-find_room.is at c.find_room.ensures.found))

pub returns-in-None-find_room-clause-done : goal.returns-in-None-find_room-clause-done
returns-in-None-find_room-clause-done g c e =
    absurd (false≢true (rw c.in-None-find_room.is at c.find_room.ensures.found))

pub returns-in-None-find_room-clause-cost : goal.returns-in-None-find_room-clause-cost
returns-in-None-find_room-clause-cost g c =
    absurd (false≢true (rw c.in-None-find_room.is at c.find_room.ensures.found))

pub returns-in-None-find_room-clause-last : goal.returns-in-None-find_room-clause-last
returns-in-None-find_room-clause-last g c e =
    absurd (false≢true (rw c.in-None-find_room.is at c.find_room.ensures.found))
