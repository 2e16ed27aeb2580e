-- The outcomes of changes name only vCPUs of the host.
use Rattle.std.proofs.Common.{◌≡◌, inl, inr, ℕ, zero, suc, List, length, Some, ap, subst, sym, ◌∙◌, arith}
use Rattle.std.proofs.lemmas.List.Elements.{All-push}
use Rattle.std.proofs.lemmas.Option.{slice_get_within}
use Rattle.tab_core.specs.declared.host.Host.{Host}
use Rattle.script_doc.specs.declared.event.Act.{Act}
use Rattle.script_doc.specs.declared.event.Act.TheVariants.{Wake, Block, Change, Burst}
use Rattle.script_doc.specs.declared.event.Event.{Event}
use Rattle.plan_book.specs.After.{Applies, IsKnownAfter}
use Rattle.plan_book.specs.Books.{NameVcpusBelow, NamesVcpuBelow}
use Rattle.plan_book.specs.Changes.{IsUnplanned}
use Rattle.plan_book.specs.States.{BookState}
use Rattle.plan_book.specs.declared.outcome.Outcome.{Outcome}
use Rattle.plan_book.specs.declared.outcome.Outcome.TheVariants.{Planned, NoPeriod, NoRoom}
use Rattle.plan_book.proofs.EditedLemmas.{same_count}
use Rattle.plan_book.proofs.SameShape.{same_shape}

-- a host without a plan has the vCPU that this is for
unplanned_below : (host : Host) (outcome : Outcome) → IsUnplanned host outcome
    → NamesVcpuBelow (length host.vcpus) outcome
unplanned_below host Planned unplanned = absurd unplanned
unplanned_below host (NoPeriod vcpu) lacks = slice_get_within host.vcpus vcpu lacks.vcpu lacks.at
unplanned_below host (NoRoom vcpu) (rest, over, first) =
    let within = slice_get_within first.tasks vcpu (Some first.stuck.task) first.stuck.at in
    let size = first.is_start.tasks_are.as_many in
    omega arith

-- an event adds at most an outcome that names a vCPU of the host
named_applied : (count : ℕ) (known : BookState) (act : Act) (next : BookState)
    → length known.host.vcpus ≡ count → NameVcpusBelow count known.outcomes → Applies known act next
    → NameVcpusBelow count next.outcomes
named_applied count known (Wake vcpu) next size named applies =
    subst (NameVcpusBelow count) (sym (ap (λ (k : BookState). k.outcomes) applies)) named
named_applied count known (Block vcpu) next size named applies =
    subst (NameVcpusBelow count) (sym (ap (λ (k : BookState). k.outcomes) applies)) named
named_applied count known (Change edits) next size named (inl taken) =
    subst (NameVcpusBelow count) (sym taken.outcomes)
    (All-push (NamesVcpuBelow count) known.outcomes Planned named tt)
named_applied count known (Change edits) next size named (inr refused) =
    let same = same_count known.host edits refused.host refused.edited ∙ size in
    let below = subst (λ n. NamesVcpuBelow n refused.outcome) same
    (unplanned_below refused.host refused.outcome refused.unplanned) in
    subst (NameVcpusBelow count) (sym (ap (λ (k : BookState). k.outcomes) refused.becomes))
    (All-push (NamesVcpuBelow count) known.outcomes refused.outcome named below)
named_applied count known (Burst vcpu work) next size named applies =
    subst (NameVcpusBelow count) (sym (ap (λ (k : BookState). k.outcomes) applies)) named

-- whatever is known has only such outcomes
pub named_below : (host : Host) (events : List Event) (n : ℕ) (known : BookState)
    → IsKnownAfter host events n known → NameVcpusBelow (length host.vcpus) known.outcomes
named_below host events zero known is =
    subst (NameVcpusBelow (length host.vcpus)) (sym is.no_outcome) (λ k outcome lt. absurd (omega arith))
named_below host events (suc n) known is =
    named_applied (length host.vcpus) is.0 is.1.act known (same_shape host events n is.0 is.2).vcpus
    (named_below host events n is.0 is.2) is.4
