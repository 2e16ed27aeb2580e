-- What is kept of a trace, with one more mark at the end.
use Rattle.std.proofs.Common.{arith, ◌≡◌, ℕ, ◌<◌, true, false, if◌then◌else◌, List, [], ◌∷◌, ◌++◌, length, map, max, get_or, nat_lt, Some, None, Result, Ok, Err, OnOk, set, ap, refl, sym, subst, ◌∙◌, ⊎_elim}
use Rattle.std.proofs.lemmas.Bool.{cases_eq, eq-eqb, ne_eqb}
use Rattle.std.proofs.lemmas.List.{get_or-map, get_or-set_other, get_or-set_same, length-set, map-set, set-get_or}
use Rattle.std.proofs.lemmas.Option.{same_Some, slice_get-get_or, slice_get_read, slice_get_within}
use Rattle.std.specs.List.{slice_get}
use Rattle.std.specs.Option.{is_none}
use Rattle.host_trace.specs.declared.mark.Mark.{Mark}
use Rattle.host_judge.specs.Clashes.{IsCountOf, falls, is_unknown}
use Rattle.host_judge.specs.Inside.Clashed.{HasClashes}
use Rattle.host_judge.specs.Inside.Judged.{HasJudged, terms_of}
use Rattle.host_judge.specs.Inside.Settled.{IsTracked}
use Rattle.host_judge.specs.Traces.{end_of, is_vcpu, marks_of, trace_of}
use Rattle.host_judge.specs.declared.judge.Judge.{Judge}
use Rattle.host_judge.specs.declared.tracker.Tracker.{Tracker}
use Rattle.host_judge.proofs.ClashLemmas.{clashes_unknown, counted_next}
use Rattle.host_judge.proofs.TraceLemmas.{latest-push, marks_of-other, marks_of-own, risen-push, risen_mark}

-- the mark's vCPU is this one
own_vcpu : (vcpu : ℕ) (mark : Mark) → mark.vcpu ≡ Some vcpu → is_vcpu vcpu mark.vcpu ≡ true
own_vcpu vcpu mark is = rw is (eq-eqb vcpu vcpu refl)

-- another vCPU isn't the mark's
other_vcpu : (vcpu other : ℕ) (mark : Mark) → mark.vcpu ≡ Some vcpu → (other ≡ vcpu → ⊥)
    → is_vcpu other mark.vcpu ≡ false
other_vcpu vcpu other mark is differs = rw is (ne_eqb vcpu other (λ same. differs (sym same)))

-- the vCPUs after a mark of one of them
pub each_more : (trace : List Mark) (mark : Mark) (old new : List Tracker) (vcpu : ℕ) (more : Tracker)
    → mark.vcpu ≡ Some vcpu → vcpu < length old → new ≡ set old vcpu more
    → IsTracked (marks_of vcpu trace ++ mark ∷ []) more
    → ((v : ℕ) (tracker : Tracker) → slice_get old v ≡ Some tracker → IsTracked (marks_of v trace) tracker)
    → (v : ℕ) (tracker : Tracker) → slice_get new v ≡ Some tracker
    → IsTracked (marks_of v (trace ++ mark ∷ [])) tracker
each_more trace mark old new vcpu more is low put tracked each v tracker at = ⊎_elim
    (λ same.
    let there : slice_get (set old vcpu more) vcpu ≡ Some more =
    slice_get-get_or (set old vcpu more) vcpu more (omega (arith, length-set old vcpu more))
    ∙ ap Some (get_or-set_same old vcpu more more low) in
    let found : slice_get (set old vcpu more) vcpu ≡ Some tracker =
    sym (ap (λ l. slice_get l vcpu) put) ∙ ap (slice_get new) (sym same) ∙ at in
    let tracker_is : more ≡ tracker = same_Some more tracker (sym there ∙ found) in
    rw (same, marks_of-own vcpu trace mark (own_vcpu vcpu mark is))
    (subst (IsTracked (marks_of vcpu trace ++ mark ∷ [])) tracker_is tracked))
    (λ other.
    let found : slice_get (set old vcpu more) v ≡ Some tracker = sym (ap (λ l. slice_get l v) put) ∙ at in
    let within : v < length (set old vcpu more) = slice_get_within (set old vcpu more) v tracker found in
    let low_v : v < length old = omega (arith, length-set old vcpu more) in
    let same : slice_get old v ≡ slice_get (set old vcpu more) v =
    slice_get-get_or old v tracker low_v
    ∙ ap Some (sym (get_or-set_other old vcpu v more tracker other))
    ∙ sym (slice_get-get_or (set old vcpu more) v tracker within) in
    rw (marks_of-other v trace mark (other_vcpu vcpu v mark is other)) (each v tracker (same ∙ found)))
    (cases_eq v vcpu)

-- the vCPUs after a mark of none
pub each_same : (trace : List Mark) (mark : Mark) (trackers : List Tracker) → mark.vcpu ≡ None
    → ((v : ℕ) (tracker : Tracker) → slice_get trackers v ≡ Some tracker → IsTracked (marks_of v trace) tracker)
    → (v : ℕ) (tracker : Tracker) → slice_get trackers v ≡ Some tracker
    → IsTracked (marks_of v (trace ++ mark ∷ [])) tracker
each_same trace mark trackers is each v tracker at =
    let none : is_vcpu v mark.vcpu ≡ false = rw is refl in
    rw (marks_of-other v trace mark none) (each v tracker at)

-- the two counts
abbrev pub CountsNext : Judge → Mark → Judge → Type 0
CountsNext old mark new =
    ((lines : List ℕ) → IsCountOf lines old.falls
    → IsCountOf (lines ++ (if nat_lt mark.time_ns old.end_ns then mark.line ∷ [] else [])) new.falls)
    × ((lines : List ℕ) → IsCountOf lines old.unknown
    → IsCountOf (lines ++ (if is_none mark.vcpu then mark.line ∷ [] else [])) new.unknown)

-- the whole trace rises
trace_more : (marks : List Mark) (mark : Mark) (top : ℕ) → top ≡ end_of marks
    → trace_of (marks ++ mark ∷ []) ≡ trace_of marks ++ risen_mark top mark ∷ []
trace_more marks mark top is =
    risen-push 0 marks mark ∙ ap (λ t. trace_of marks ++ risen_mark t mark ∷ []) (sym is)

-- after a mark
judged_by : (marks : List Mark) (mark : Mark) (old new : Judge) → HasJudged marks old
    → new.end_ns ≡ max old.end_ns mark.time_ns → CountsNext old mark new
    → HasClashes (marks ++ mark ∷ []) new.clashes
    → ((v : ℕ) (tracker : Tracker) → slice_get new.trackers.items v ≡ Some tracker
    → IsTracked (marks_of v (trace_of marks ++ risen_mark old.end_ns mark ∷ [])) tracker)
    → HasJudged (marks ++ mark ∷ []) new
judged_by marks mark old new has top counts clashes each =
    let more = trace_more marks mark old.end_ns has.end_ns in
    record {
      end_ns = top ∙ ap (λ t. max t mark.time_ns) has.end_ns ∙ sym (latest-push 0 marks mark);
      falls = counted_next falls marks mark old.falls new.falls (nat_lt mark.time_ns old.end_ns)
          (ap (nat_lt mark.time_ns) (sym has.end_ns)) counts.0 has.falls;
      unknown = rw more
          (counted_next is_unknown (trace_of marks) (risen_mark old.end_ns mark) old.unknown new.unknown
          (is_none mark.vcpu) refl counts.1 has.unknown);
      clashes = clashes;
      each = rw more each;
    }

-- after a mark of a vCPU that the host has
pub judged_known : (marks : List Mark) (mark : Mark) (old new : Judge) (vcpu : ℕ) (before more : Tracker)
    → HasJudged marks old → new.end_ns ≡ max old.end_ns mark.time_ns → CountsNext old mark new
    → (HasClashes marks old.clashes → HasClashes (marks ++ mark ∷ []) new.clashes) → mark.vcpu ≡ Some vcpu → vcpu < length old.trackers.items
    → before ≡ get_or old.trackers.items vcpu before → new.trackers.items ≡ set old.trackers.items vcpu more
    → ((own : List Mark) → IsTracked own before → IsTracked (own ++ risen_mark old.end_ns mark ∷ []) more)
    → HasJudged (marks ++ mark ∷ []) new
judged_known marks mark old new vcpu before more has top counts clashes is low read put next =
    let there : slice_get old.trackers.items vcpu ≡ Some before =
    slice_get_read old.trackers.items (length old.trackers.items) vcpu before refl low read in
    judged_by marks mark old new has top counts (clashes has.clashes)
    (each_more (trace_of marks) (risen_mark old.end_ns mark) old.trackers.items new.trackers.items vcpu more is low put
    (next (marks_of vcpu (trace_of marks)) (has.each vcpu before there)) has.each)

-- after a mark of another
pub judged_unknown : (marks : List Mark) (mark : Mark) (old new : Judge) → HasJudged marks old
    → new.end_ns ≡ max old.end_ns mark.time_ns → CountsNext old mark new → mark.vcpu ≡ None
    → new.clashes ≡ old.clashes → new.trackers.items ≡ old.trackers.items → HasJudged (marks ++ mark ∷ []) new
judged_unknown marks mark old new has top counts is clashes same =
    judged_by marks mark old new has top counts (rw clashes (clashes_unknown marks mark old.clashes is has.clashes))
    (rw same (each_same (trace_of marks) (risen_mark old.end_ns mark) old.trackers.items is has.each))

-- what follows where a call succeeds
pub on_ok : {T E A B : Type 0} (result : Result T E) → (A → B) → OnOk result A → OnOk result B
on_ok (Ok value) f is = f is
on_ok (Err fault) f is = tt

-- the terms stay where a vCPU's does
pub same_terms : (trackers : List Tracker) (vcpu : ℕ) (before more : Tracker) → vcpu < length trackers
    → before ≡ get_or trackers vcpu before → terms_of more ≡ terms_of before
    → map terms_of (set trackers vcpu more) ≡ map terms_of trackers
same_terms trackers vcpu before more low read same =
    map-set terms_of trackers vcpu more
    ∙ ap (set (map terms_of trackers) vcpu) (same ∙ ap terms_of read
    ∙ sym (get_or-map terms_of trackers vcpu before (terms_of before) low))
    ∙ set-get_or (map terms_of trackers) vcpu (terms_of before)
