use Rattle.std.proofs.Common.{rules, ◌≡◌, List, None, ℕ, ap, option_map}
use Rattle.period_choice.specs.Choice.{HasPeriod}
use Rattle.advice.specs.Advice.{IsVcpuText}
use Rattle.advice.specs.Periods.{period_text}
use Rattle.advice.proofs.AgainLemmas.{no_period_is_told, no_reservation_is_told}
use Rattle.advice.proofs.WritesLemmas.{tells_it, tells_nothing}
use Rattle.advice.proofs.hosts.put_vcpu_period.Goals as goal

pub returns-in_default : goal.returns-in_default
returns-in_default g c =
    let none : c.args.vcpu.now.reservation ≡ None = search rules in
    tells_nothing (IsVcpuText (option_map (λ line. (line.0, line.1.now)) c.args.line) c.args.vcpu.now c.args.tick_ns) _
    (no_reservation_is_told _ c.args.vcpu.now c.args.tick_ns none)

pub returns-in_default-least_latency : goal.returns-in_default-least_latency
returns-in_default-least_latency g c =
    let has : HasPeriod c.in-Some.reservation c.args.tick_ns = search rules in
    tells_nothing (IsVcpuText (option_map (λ line. (line.0, line.1.now)) c.args.line) c.args.vcpu.now c.args.tick_ns) _
    (no_period_is_told _ c.args.vcpu.now c.args.tick_ns c.in-Some.reservation c.in-Some.is has)

pub returns-in_default-least_share : goal.returns-in_default-least_share
returns-in_default-least_share g c =
    let has : HasPeriod c.in-Some.reservation c.args.tick_ns = search rules in
    tells_nothing (IsVcpuText (option_map (λ line. (line.0, line.1.now)) c.args.line) c.args.vcpu.now c.args.tick_ns) _
    (no_period_is_told _ c.args.vcpu.now c.args.tick_ns c.in-Some.reservation c.in-Some.is has)

pub returns : goal.returns
returns g c =
    let line = option_map {U = ℕ × List ℕ} (λ line. (line.0, line.1.now)) c.args.line in
    let reservation = c.in-Some.reservation in
    let latency = c.in-Some-least_latency.latency in
    let share = c.in-Some-least_share.share in
    let lacks : ¬ (HasPeriod reservation c.args.tick_ns) = search rules in
    rw c.of_sink.ensures (tells_it (IsVcpuText line c.args.vcpu.now c.args.tick_ns)
    (period_text line c.bytes.result.now reservation latency share) _ _ _ (record {
      reservation = reservation;
      latency = latency;
      share = share;
      reserved = c.in-Some.is;
      lacks = lacks;
      least_latency = c.in-Some-least_latency.ensures.found;
      least_share = c.in-Some-least_share.ensures.found;
      is = ap (λ (name : List ℕ). period_text line name reservation latency share) c.bytes.ensures.same;
    }) c.put_period.ensures)
