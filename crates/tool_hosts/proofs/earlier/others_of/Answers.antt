use Rattle.std.proofs.Common.{◌∙◌, ap, inl, inr, rules}
use Rattle.tool_hosts.proofs.EarlierLemmas.{others_step}
use Rattle.tool_hosts.proofs.earlier.others_of.Goals as goal
use Rattle.tool_hosts.proofs.earlier.others_of.Goals.{then-not-is_back-number+in_ok-push, else-not-is_back-number}

pub loop-number-preserved : goal.loop-number-preserved
loop-number-preserved c = others_step c.args.is_back.now c.args.vms.now c.loop-number.number c.loop-number.others.items
    c.if-not-is_back-number.others.items c.index-vms-number.result c.requires (search rules) c.index-vms-number.is
    c.loop-number.invariant
    (elim c.if-not-is_back-number.branch [
      | then-not-is_back-number+in_ok-push w ↦ inl (w.if-not-is_back-number.true, ap (λ o. o.items) w.others-is ∙ w.in_ok-push.ensures.items)
      | else-not-is_back-number w ↦ inr (w.if-not-is_back-number.false, ap (λ o. o.items) w.others-is)
    ])
