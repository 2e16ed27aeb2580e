use Rattle.view_schedulers.proofs.libvirt.write_libvirt.Goals as goal

pub returns : goal.returns
returns g c = rw (← c.deref.ensures.value, ← c.deref-2.ensures.value) c.put_libvirt_text.ensures
