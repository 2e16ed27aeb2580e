-- A burst that has a bound is done by it.
use Rattle.std.proofs.Common.{◌≡◌, ℕ, Option, None, Some, refl, arith}
use Rattle.table_form.specs.Running.Courses.{CourseView, IsCourse}
use Rattle.table_form.specs.Running.Complete.{IsComplete}
use Rattle.table_form.specs.Running.Invariant.{StateInvariant}
use Rattle.table_form.specs.Running.State.{State}
use Rattle.burst_bound.specs.Answers.{IsDoneBy, IsOneIfAny, IsOneSince}
use Rattle.burst_bound.specs.Bursts.{IsBurstBound, IsDoneAt, IsSeenAt}
use Rattle.burst_bound.proofs.BoundLemmas.{burst_done}

-- done at one tick
done_once : (rounds : ℕ) (s : State) (vcpu work x a b : ℕ) → IsDoneAt rounds s vcpu work x a
    → IsDoneAt rounds s vcpu work x b → a ≡ b
done_once rounds s vcpu work x a b of_a of_b =
    omega (arith, of_a.least b of_b.after of_b.enough, of_b.least a of_a.after of_a.enough)

-- the burst is done by its bound, in the words of an answer's parts
pub in_time : (course : CourseView) (rounds : ℕ) (s : State) (event vcpu work : ℕ) (seen bound ended : Option ℕ)
    → IsCourse course → StateInvariant course rounds s → IsComplete course rounds s
    → IsOneIfAny (IsSeenAt rounds s event) seen → IsOneSince (IsDoneAt rounds s vcpu work) seen ended
    → IsOneSince (IsBurstBound course rounds s.decided event vcpu work) seen bound → IsDoneBy bound ended
in_time course rounds s event vcpu work None bound ended ok kept whole seen is_done is_bound = λ latest is.
    absurd (cc (is_bound, is))
in_time course rounds s event vcpu work (Some x) None ended ok kept whole seen is_done is_bound = λ latest is.
    absurd (cc is)
in_time course rounds s event vcpu work (Some x) (Some b) None ok kept whole seen is_done is_bound = λ latest is.
    let found = burst_done course rounds event vcpu work x b s ok kept whole seen is_bound in
    absurd (is_done found.0 found.1)
in_time course rounds s event vcpu work (Some x) (Some b) (Some e) ok kept whole seen is_done is_bound = λ latest is.
    let found = burst_done course rounds event vcpu work x b s ok kept whole seen is_bound in
    let same : b ≡ latest = cc is in
    (e, refl, omega (arith, found.2, same, done_once rounds s vcpu work x found.0 e found.1 is_done))
