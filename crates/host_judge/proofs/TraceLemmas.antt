-- A trace with one more mark at the end.
use Rattle.std.proofs.Common.{◌≡◌, ℕ, Bool, true, false, if◌then◌else◌, List, [], ◌∷◌, ◌++◌, max, ap, refl, sym, ◌∙◌, append_assoc}
use Rattle.std.proofs.lemmas.List.{append-nil}
use Rattle.std.proofs.lemmas.List.Elements.{filter-append}
use Rattle.std.proofs.lemmas.List.Sums.{fold_push}
use Rattle.host_trace.specs.declared.mark.Mark.{Mark}
use Rattle.host_judge.specs.Clashes.{lines_where}
use Rattle.host_judge.specs.Traces.{is_vcpu, latest, marks_of, risen}

-- a mark that is taken at the latest time so far, where its own is before that
abbrev pub risen_mark : ℕ → Mark → Mark
risen_mark time mark = record mark { time_ns = max time mark.time_ns }

-- the latest time
pub latest-push : (time : ℕ) (marks : List Mark) (mark : Mark)
    → latest time (marks ++ mark ∷ []) ≡ max (latest time marks) mark.time_ns
latest-push time marks mark = fold_push (λ top m. max top m.time_ns) time marks mark

-- the marks whose times rise
pub risen-push : (time : ℕ) (marks : List Mark) (mark : Mark)
    → risen time (marks ++ mark ∷ []) ≡ risen time marks ++ risen_mark (latest time marks) mark ∷ []
risen-push time [] mark = refl
risen-push time (first ∷ marks) mark =
    ap (λ rest. risen_mark time first ∷ rest) (risen-push (max time first.time_ns) marks mark)

-- the lines that pass a test
pub lines_where-push : (test : List Mark → Mark → Bool) (before marks : List Mark) (mark : Mark)
    → lines_where test before (marks ++ mark ∷ [])
    ≡ lines_where test before marks ++ (if test (before ++ marks) mark then mark.line ∷ [] else [])
lines_where-push test before [] mark =
    append-nil (if test before mark then mark.line ∷ [] else [])
    ∙ ap (λ marks. if test marks mark then mark.line ∷ [] else []) (sym (append-nil before))
lines_where-push test before (first ∷ marks) mark =
    let here : List ℕ = if test before first then first.line ∷ [] else [] in
    let rest : List ℕ = lines_where test (before ++ first ∷ []) marks in
    ap (λ lines. here ++ lines) (lines_where-push test (before ++ first ∷ []) marks mark)
    ∙ ap (λ all. here ++ (rest ++ (if test all mark then mark.line ∷ [] else [])))
    (append_assoc before (first ∷ []) marks)
    ∙ sym (append_assoc here rest (if test (before ++ first ∷ marks) mark then mark.line ∷ [] else []))

-- the marks of its vCPU
pub marks_of-own : (vcpu : ℕ) (marks : List Mark) (mark : Mark) → is_vcpu vcpu mark.vcpu ≡ true
    → marks_of vcpu (marks ++ mark ∷ []) ≡ marks_of vcpu marks ++ mark ∷ []
marks_of-own vcpu marks mark own =
    filter-append (λ m. is_vcpu vcpu m.vcpu) marks (mark ∷ [])
    ∙ ap (λ b. marks_of vcpu marks ++ (if b then mark ∷ [] else [])) own

-- the marks of another vCPU
pub marks_of-other : (vcpu : ℕ) (marks : List Mark) (mark : Mark) → is_vcpu vcpu mark.vcpu ≡ false
    → marks_of vcpu (marks ++ mark ∷ []) ≡ marks_of vcpu marks
marks_of-other vcpu marks mark other =
    filter-append (λ m. is_vcpu vcpu m.vcpu) marks (mark ∷ [])
    ∙ ap (λ b. marks_of vcpu marks ++ (if b then mark ∷ [] else [])) other
    ∙ append-nil (marks_of vcpu marks)
