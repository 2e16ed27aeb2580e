use Rattle.view_schedulers.proofs.quotas.write_cgroup.Goals as goal

pub returns : goal.returns
returns g c = rw (← c.deref.ensures.value, ← c.deref-2.ensures.value) c.put_cgroup_text.ensures
