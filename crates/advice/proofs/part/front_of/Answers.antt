use Rattle.std.proofs.Common.{arith, sym, take_all}
use Rattle.advice.proofs.part.front_of.Goals as goal

pub returns-else-bytes-gt-SHOWN : goal.returns-else-bytes-gt-SHOWN
returns-else-bytes-gt-SHOWN c = sym (take_all 60 c.args.bytes.now (omega (arith, c.if-bytes-gt-SHOWN.false)))
