use Rattle.std.proofs.Common.{arith, rules, ◌++◌, take}
use Rattle.std.proofs.KnownBytes.{Consumes-trans}
use Rattle.tab_io.proofs.source.read_all.Goals as goal

pub returns-in_err-extend_from_slice-in-Bytes : goal.returns-in_err-extend_from_slice-in-Bytes
returns-in_err-extend_from_slice-in-Bytes g c =
    let w = c.in-Bytes.ensures in
    record {
      bytes = c.loop-room.bytes.items ++ take c.in-Bytes.count c.read.new.into;
      consumed = Consumes-trans _ _ _ _ _ c.loop-room.invariant.came w.gave.2;
      later = omega (arith, c.loop-room.invariant.later, w.later);
      ended = grind arith;
      sound = λ sound is. search rules;
    }
