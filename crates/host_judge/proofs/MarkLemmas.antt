-- The last mark that passes a test, with one more mark at the end.
use Rattle.std.proofs.Common.{◌≡◌, ℕ, ◌<◌, ◌≤◌, Bool, true, false, if◌then◌else◌, List, [], ◌∷◌, ◌++◌, Option, Some, None, ap, refl, ◌∙◌, nat_le, ◌&&◌}
use Rattle.std.proofs.lemmas.Bool.{le-leb, lt-leb}
use Rattle.std.proofs.lemmas.List.{reverse-append}
use Rattle.std.specs.List.{find}
use Rattle.std.specs.Option.{is_some, option_and_then, option_map, option_or}
use Rattle.host_trace.specs.declared.mark.Mark.{Mark}
use Rattle.host_judge.specs.Traces.{last_that, state_at, told_at}

-- the last is the one after it, if it passes
pub last_that-push : (test : Mark → Bool) (marks : List Mark) (mark : Mark)
    → last_that test (marks ++ mark ∷ []) ≡ (if test mark then Some mark else last_that test marks)
last_that-push test marks mark = ap (find test) (reverse-append marks (mark ∷ []))

-- what it does from its time on
pub state_at-later : (marks : List Mark) (mark : Mark) (t : ℕ) → mark.time_ns ≤ t
    → state_at (marks ++ mark ∷ []) t ≡ Some mark.state
state_at-later marks mark t later =
    ap (option_map (λ m. m.state)) (last_that-push (λ m. nat_le m.time_ns t) marks mark
    ∙ ap (λ b. if b then Some mark else last_that (λ m. nat_le m.time_ns t) marks) (le-leb mark.time_ns t later))

-- what the mark's vCPU does before the mark's time
pub state_at-before : (marks : List Mark) (mark : Mark) (t : ℕ) → t < mark.time_ns
    → state_at (marks ++ mark ∷ []) t ≡ state_at marks t
state_at-before marks mark t before =
    ap (option_map (λ m. m.state)) (last_that-push (λ m. nat_le m.time_ns t) marks mark
    ∙ ap (λ b. if b then Some mark else last_that (λ m. nat_le m.time_ns t) marks) (lt-leb mark.time_ns t before))

-- the CPU that is named last from its time on, whether it names one or not
told_if : (cpu : Option ℕ) (marks : List Mark) (mark : Mark) (t : ℕ) → mark.cpu ≡ cpu → mark.time_ns ≤ t
    → told_at (marks ++ mark ∷ []) t ≡ option_or cpu (told_at marks t)
told_if None marks mark t is later =
    let isnt : (nat_le mark.time_ns t && is_some mark.cpu) ≡ false =
    rw (le-leb mark.time_ns t later, is) refl in
    ap (option_and_then (λ m. m.cpu)) (last_that-push (λ m. nat_le m.time_ns t && is_some m.cpu) marks mark
    ∙ ap (λ b. if b then Some mark else last_that (λ m. nat_le m.time_ns t && is_some m.cpu) marks) isnt)
told_if (Some cpu) marks mark t is later =
    let yes : (nat_le mark.time_ns t && is_some mark.cpu) ≡ true =
    rw (le-leb mark.time_ns t later, is) refl in
    ap (option_and_then (λ m. m.cpu)) (last_that-push (λ m. nat_le m.time_ns t && is_some m.cpu) marks mark
    ∙ ap (λ b. if b then Some mark else last_that (λ m. nat_le m.time_ns t && is_some m.cpu) marks) yes)
    ∙ is

pub told_at-later : (marks : List Mark) (mark : Mark) (t : ℕ) → mark.time_ns ≤ t
    → told_at (marks ++ mark ∷ []) t ≡ option_or mark.cpu (told_at marks t)
told_at-later marks mark t later = told_if mark.cpu marks mark t refl later

pub told_at-before : (marks : List Mark) (mark : Mark) (t : ℕ) → t < mark.time_ns
    → told_at (marks ++ mark ∷ []) t ≡ told_at marks t
told_at-before marks mark t before =
    let isnt : (nat_le mark.time_ns t && is_some mark.cpu) ≡ false = rw (lt-leb mark.time_ns t before) refl in
    ap (option_and_then (λ m. m.cpu)) (last_that-push (λ m. nat_le m.time_ns t && is_some m.cpu) marks mark
    ∙ ap (λ b. if b then Some mark else last_that (λ m. nat_le m.time_ns t && is_some m.cpu) marks) isnt)
