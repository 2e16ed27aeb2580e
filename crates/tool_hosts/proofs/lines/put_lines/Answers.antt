use Rattle.tool_hosts.proofs.lines.put_lines.Goals as goal

pub returns-in-Libvirt : goal.returns-in-Libvirt
returns-in-Libvirt g c = rw c.in-Libvirt.is c.write_libvirt.ensures
