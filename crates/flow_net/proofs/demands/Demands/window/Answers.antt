use Rattle.std.proofs.Common.{◌≡◌, ◌+◌, ◌*◌, get_or, arith, sym, ◌∙◌, ap}
use Rattle.std.proofs.lemmas.List.{get_or_read}
use Rattle.flow_net.specs.Flows.{load_of}
use Rattle.flow_net.proofs.Spans.{window_of}
use Rattle.flow_net.proofs.demands.Demands.window.Goals as goal

pub returns : goal.returns
returns c =
    let d = c.args.self.now in
    let l = load_of d.costs.items d.periods.items d.marks.items d.cores in
    let s = window_of l d.ok c.args.u c.args.k c.requires.vcpu c.requires.job in
    let w = s.2 in
    let period = get_or_read d.periods.items c.args.u c.index-period.result.now
    (omega (arith, d.same_len, c.requires.vcpu)) c.index-period.ensures 0 in
    let begin : get_or d.marks.items s.0 0 ≡ c.args.k * c.index-period.result.now = w.from
    ∙ ap (λ n. c.args.k * n) (sym period) in
    let end : get_or d.marks.items s.1 0 ≡ c.args.k * c.index-period.result.now + c.index-period.result.now
    = w.until ∙ ap (λ n. (c.args.k + 1) * n) (sym period) ∙ omega arith in
    let from = c.mark_at.ensures.found s.0 (omega (arith, w.some, w.in_round)) begin in
    let until = c.mark_at-2.ensures.found s.1 w.in_round end in
    rw from (rw until w)
