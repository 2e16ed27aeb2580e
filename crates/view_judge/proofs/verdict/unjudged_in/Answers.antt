use Rattle.std.proofs.Common.{◌≡◌, ℕ, ◌+◌, suc, arith, ap, ◌∙◌, sym}
use Rattle.std.proofs.lemmas.Option.{slice_get-get_or}
use Rattle.std.specs.Prelude.{slice_get}
use Rattle.view_judge.specs.Verdicts.{unjudged_below, unjudged_if_any}
use Rattle.view_judge.proofs.verdict.unjudged_in.Goals as goal

pub loop-vcpu-preserved : goal.loop-vcpu-preserved
loop-vcpu-preserved c =
    let v : ℕ = c.loop-vcpu.vcpu in
    let one : unjudged_if_any (slice_get c.args.vcpus.now v) ≡ c.unjudged_of-count.result =
    ap unjudged_if_any (slice_get-get_or c.args.vcpus.now v _ c.loop-vcpu-test.true)
    ∙ sym c.unjudged_of-count.ensures.value in
    let next : v + 1 ≡ suc v = omega arith in
    let more : unjudged_below c.args.vcpus.now (v + 1) ≡ unjudged_below c.args.vcpus.now v + unjudged_if_any (slice_get c.args.vcpus.now v) =
    ap (unjudged_below c.args.vcpus.now) next in
    record {
      value = omega (arith, one, more, c.loop-vcpu.invariant.value);
      small = omega (arith, c.loop-vcpu.invariant.small, c.unjudged_of-count.ensures.few);
    }
