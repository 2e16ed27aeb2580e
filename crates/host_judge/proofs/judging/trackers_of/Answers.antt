use Rattle.std.proofs.Common.{◌≡◌, ◌≤◌, [], ◌∷◌, ◌++◌, arith, ◌∙◌}
use Rattle.std.proofs.lemmas.Grind.{common_steps}
use Rattle.std.proofs.lemmas.List.Elements.{All-push}
use Rattle.host_judge.specs.Inside.Settled.{IsTracked}
use Rattle.host_judge.specs.declared.tracker.Tracker.{Tracker}
use Rattle.host_judge.proofs.ReportLemmas.{terms_are, terms_more}
use Rattle.host_judge.proofs.judging.trackers_of.Goals as goal

pub loop-vcpu-preserved : goal.loop-vcpu-preserved
loop-vcpu-preserved c =
    let pushed : c.push.new.self.items ≡ c.loop-vcpu.trackers.items ++ c.begin-tracker.result ∷ [] =
    grind (arith, common_steps) in
    rw pushed (record {
      terms = terms_more c.args.window_ns c.loop-vcpu.trackers.items c.args.vcpus.now c.loop-vcpu.vcpu-index
          c.vcpu-item.result c.begin-tracker.result c.loop-vcpu-test.true c.vcpu-item.is
          (terms_are c.args.window_ns c.begin-tracker.result c.vcpu-item.result
          (c.begin-tracker.ensures.latency ∙ c.latency_sold.ensures) c.begin-tracker.ensures.window)
          c.loop-vcpu.invariant.terms;
      begun = All-push (λ (tracker : Tracker). tracker.since_ns ≤ 0) c.loop-vcpu.trackers.items c.begin-tracker.result
          c.loop-vcpu.invariant.begun (omega (arith, c.begin-tracker.ensures.since));
      tracked = All-push (λ (tracker : Tracker). IsTracked [] tracker) c.loop-vcpu.trackers.items c.begin-tracker.result
          c.loop-vcpu.invariant.tracked c.begin-tracker.ensures.tracked;
    })
