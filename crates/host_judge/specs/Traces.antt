-- What the marks of a trace say of the vCPUs over time.
use Rattle.std.specs.Prelude.{ℕ, ◌==◌, ◌&&◌, Bool, false, List, [], ◌∷◌, filter, find, fold, is_some, max, nat_le, option_and_then, Option, Some, None, reverse}
use Rattle.std.specs.Option.{option_map}
use Rattle.host_trace.specs.declared.mark.Mark.{Mark}
use Rattle.host_judge.specs.Courses.{StateCourse}

-- ---- times that rise

-- the latest time of the marks and of this one
abbrev pub latest : ℕ → List Mark → ℕ
latest time marks = fold (λ top mark. max top mark.time_ns) time marks

-- the marks after a time, of which none is before another that it comes after: one whose time falls is taken at the
-- latest time before it
abbrev pub risen : ℕ → List Mark → List Mark
risen time [] = []
risen time (mark ∷ marks) =
    (record mark { time_ns = max time mark.time_ns }) ∷ risen (max time mark.time_ns) marks

-- the marks of a trace, so
abbrev pub trace_of : List Mark → List Mark
trace_of marks = risen 0 marks

-- the time of the last line
abbrev pub end_of : List Mark → ℕ
end_of marks = latest 0 marks

-- ---- one vCPU

-- the vCPU that a mark names, if it is one of the host's, has this number
abbrev pub is_vcpu : ℕ → Option ℕ → Bool
is_vcpu vcpu None = false
is_vcpu vcpu (Some other) = other == vcpu

-- the marks of a vCPU
abbrev pub marks_of : ℕ → List Mark → List Mark
marks_of vcpu marks = filter (λ mark. is_vcpu vcpu mark.vcpu) marks

-- the last of the marks that passes a test
abbrev pub last_that : (Mark → Bool) → List Mark → Option Mark
last_that test marks = find test (reverse marks)

-- what a vCPU does at a time, by its marks: what the last of them up to then says, and nothing is known
-- before the first
abbrev pub state_at : List Mark → StateCourse
state_at marks t = option_map (λ mark. mark.state) (last_that (λ mark. nat_le mark.time_ns t) marks)

-- the CPU that was named last up to a time
abbrev pub told_at : List Mark → ℕ → Option ℕ
told_at marks t =
    option_and_then (λ mark. mark.cpu) (last_that (λ mark. nat_le mark.time_ns t && is_some mark.cpu) marks)
