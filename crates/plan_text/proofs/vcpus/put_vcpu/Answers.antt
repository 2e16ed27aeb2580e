use Rattle.plan_text.proofs.PlanTextLemmas.{line_written}
use Rattle.plan_text.proofs.vcpus.put_vcpu.Goals as goal

pub returns : goal.returns
returns g c =
    rw (c.in-Some.is, c.in-Some-home.is, ← c.bytes.ensures.same, ← c.home.view_is)
    (line_written _ _ _ _ c.put_line.ensures)
