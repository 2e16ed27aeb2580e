use Rattle.std.proofs.Common.{append_assoc}
use Rattle.host_doc.proofs.refusal.put_host_fault.Goals as goal

pub returns-in-NotToml : goal.returns-in-NotToml
returns-in-NotToml g c = rw c.in-NotToml.is c.write_all.ensures

pub returns-in-BadKey : goal.returns-in-BadKey
returns-in-BadKey g c = rw c.in-BadKey.is c.put_path_line.ensures

pub returns-in-OutOfRange : goal.returns-in-OutOfRange
returns-in-OutOfRange g c = rw c.in-OutOfRange.is c.put_path_line-in-OutOfRange.ensures

pub returns-in-SameName : goal.returns-in-SameName
returns-in-SameName g c = rw (c.in-SameName.is, append_assoc, append_assoc) c.put_numbered.ensures
