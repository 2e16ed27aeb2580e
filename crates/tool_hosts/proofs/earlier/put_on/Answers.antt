use Rattle.std.proofs.Common.{subst, sym}
use Rattle.tool_hosts.specs.Earlier.{PutBack, held_in}
use Rattle.tool_hosts.specs.Earlier.PutBack.{NoLine}
use Rattle.tool_hosts.proofs.earlier.put_on.Goals as goal

pub loop-stay-init : goal.loop-stay-init
loop-stay-init c = subst (PutBack c.args.vms.now (held_in c.args.groups.now) _ (held_in c.args.groups.now))
    (sym c.requires) NoLine
