-- What is known after the first n events is a host with its plan, for the same vCPUs, of which the same
-- are capped.
use Rattle.std.proofs.Common.{◌≡◌, ◌≤◌, inl, inr, ℕ, zero, suc, List, length, ap, ◌∙◌}
use Rattle.tab_core.specs.Vcpus.{capped_set}
use Rattle.tab_core.specs.declared.host.Host.{Host}
use Rattle.table_form.specs.Running.Courses.{CourseView, plan_after}
use Rattle.table_form.specs.Tables.Plans.{PlanView}
use Rattle.plan_make.specs.Planned.{IsPlanned}
use Rattle.script_doc.specs.declared.event.Act.{Act}
use Rattle.script_doc.specs.declared.event.Act.TheVariants.{Wake, Block, Change, Burst}
use Rattle.script_doc.specs.declared.event.Event.{Event}
use Rattle.plan_book.specs.After.{Applies, IsKnownAfter}
use Rattle.plan_book.specs.Courses.{IsCourseOf}
use Rattle.plan_book.specs.States.{BookState}
use Rattle.plan_book.proofs.EditedLemmas.{edited_capped}

-- an event leaves a host with its plan
applied_planned : (before : BookState) (act : Act) (next : BookState) → IsPlanned before.host before.plan
    → Applies before act next → IsPlanned next.host next.plan
applied_planned before (Wake vcpu) next planned is = rw is planned
applied_planned before (Block vcpu) next planned is = rw is planned
applied_planned before (Change edits) next planned (inl taken) = taken.planned
applied_planned before (Change edits) next planned (inr refused) = rw refused.becomes planned
applied_planned before (Burst vcpu work) next planned is = rw is planned

-- each known state has its host's plan: the clause `planned_after` of `make_book`
pub known_planned : (host : Host) (events : List Event) (n : ℕ) (known : BookState)
    → IsKnownAfter host events n known → IsPlanned known.host known.plan
known_planned host events zero known is = rw is.host_is is.planned
known_planned host events (suc n) known is =
    applied_planned is.0 is.1.act known (known_planned host events n is.0 is.2) is.4

-- an event leaves the capped vCPUs as they are
applied_capped : (before : BookState) (act : Act) (next : BookState) → Applies before act next
    → capped_set next.host.vcpus ≡ capped_set before.host.vcpus
applied_capped before (Wake vcpu) next is = ap (λ (k : BookState). capped_set k.host.vcpus) is
applied_capped before (Block vcpu) next is = ap (λ (k : BookState). capped_set k.host.vcpus) is
applied_capped before (Change edits) next (inl taken) =
    edited_capped before.host edits next.host taken.edited
applied_capped before (Change edits) next (inr refused) =
    ap (λ (k : BookState). capped_set k.host.vcpus) refused.becomes
applied_capped before (Burst vcpu work) next is = ap (λ (k : BookState). capped_set k.host.vcpus) is

-- the capped vCPUs of each known host are the first host's
known_capped : (host : Host) (events : List Event) (n : ℕ) (known : BookState)
    → IsKnownAfter host events n known → capped_set known.host.vcpus ≡ capped_set host.vcpus
known_capped host events zero known is = ap (λ (h : Host). capped_set h.vcpus) is.host_is
known_capped host events (suc n) known is =
    applied_capped is.0 is.1.act known is.4 ∙ known_capped host events n is.0 is.2

-- the capped vCPUs of each plan of a course are the first host's
pub course_capped : (host : Host) (events : List Event) (course : CourseView) (n : ℕ)
    → IsCourseOf host events course → n ≤ length events
    → (plan_after course n).capped ≡ capped_set host.vcpus
course_capped host events course n of le =
    let after = of.after n le in
    ap (λ (p : PlanView). p.capped) after.shows.plan
    ∙ (known_planned host events n after.known after.is).capped
    ∙ known_capped host events n after.known after.is
