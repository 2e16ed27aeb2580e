use Rattle.std.proofs.Common.{append-nil}
use Rattle.tab_io.proofs.SinkLemmas.{writes_nothing}
use Rattle.host_gen.proofs.HostTextLemmas.{vcpu_pieces, vcpu_without}
use Rattle.host_gen.proofs.write.put_vcpu.Goals as goal

pub returns-in_default : goal.returns-in_default
returns-in_default g c = rw (vcpu_without c.args.vcpu.now c.in_default.is) (writes_nothing _ _)

pub returns : goal.returns
returns g c =
    rw (
      vcpu_pieces c.args.vcpu.now c.in-Some.r c.in-Some.is,
      ← c.bytes.ensures.same,
      ← c.word_of.ensures,
      ← c.capped_line.ensures,
      ← append-nil c.capped_line.result.now,
    )
    c.put_pieces.ensures
