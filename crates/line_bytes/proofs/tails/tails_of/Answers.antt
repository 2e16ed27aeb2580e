use Rattle.std.proofs.Common.{◌≡◌, ◌+◌, ◌<◌, length, subst, ◌∙◌, arith, length-set}
use Rattle.std.proofs.lemmas.List.{length-replicate}
use Rattle.tab_core.specs.declared.TheConstants.{MAX_VCPUS}
use Rattle.vcpu_names.specs.Names.{names_of}
use Rattle.line_bytes.specs.Tails.{AreTails}
use Rattle.line_bytes.proofs.TailLemmas.{idle_tail, tail_more}
use Rattle.line_bytes.proofs.tails.tails_of.Goals as goal

pub loop-vcpu-init : goal.loop-vcpu-init
loop-vcpu-init c = record {
  sized = length-replicate 257 c.tail_of-tails.result;
  are = idle_tail (names_of c.args.vcpus.now) c.args.behind c.tail_of-tails.result 257 (omega arith) c.tail_of-tails.ensures;
}

pub loop-vcpu-preserved : goal.loop-vcpu-preserved
loop-vcpu-preserved c =
    let l = c.loop-vcpu in
    let room : l.vcpu + 1 < length l.tails = omega (arith, l.invariant.sized) in
    record {
      sized = length-set l.tails (l.vcpu + 1) c.vcpu_tail.result ∙ l.invariant.sized;
      are = tail_more (names_of c.args.vcpus.now) c.args.behind l.tails l.vcpu c.vcpu_tail.result room l.invariant.are
          c.vcpu_tail.ensures;
    }

pub returns : goal.returns
returns c =
    let last : c.loop-vcpu.vcpu ≡ MAX_VCPUS = omega arith in
    subst (λ n. AreTails (names_of c.args.vcpus.now) c.args.behind n c.loop-vcpu.tails) last c.loop-vcpu.invariant.are
