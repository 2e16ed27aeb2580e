-- What is reported of vCPUs.
use Rattle.std.proofs.Common.{arith, ◌≡◌, ◌↔◌, ℕ, ◌+◌, ◌-◌, ◌<◌, ◌≤◌, ◌==◌, Bool, true, false, if◌then◌else◌, nat_le, List, [], ◌∷◌, ◌++◌, length, map, take, get_or, append_assoc, length-append, Option, Some, None, ap, refl, sym, ◌∙◌, ⊎_elim, subst}
use Rattle.std.proofs.lemmas.Bool.{cases_eq, cases_lt, eq-eqb, le-leb, leb-true, ne_eqb}
use Rattle.std.proofs.lemmas.List.{get_or-map, get_or_append_left, get_or_push, length-map, length_push, map_more, map_push}
use Rattle.std.proofs.lemmas.Option.{same_Some, slice_get-get_or, slice_get_cases, slice_get_within}
use Rattle.std.specs.Bool.{IsTrue}
use Rattle.std.specs.List.{slice_get}
use Rattle.tab_core.specs.declared.reservation.Reservation.{Reservation}
use Rattle.tab_core.specs.declared.vcpu.Vcpu.{Vcpu}
use Rattle.tab_words.specs.Lines.{lines_of}
use Rattle.vcpu_names.specs.Names.{names_of}
use Rattle.host_trace.specs.TraceLines.{AreMarksOf, rows_from}
use Rattle.host_trace.specs.declared.mark.Mark.{Mark}
use Rattle.host_judge.specs.Courses.{StateCourse}
use Rattle.host_judge.specs.Inside.Judged.{terms_of}
use Rattle.host_judge.specs.Inside.Placed.{HasLeastPlace, HasWindowsOf}
use Rattle.host_judge.specs.Inside.Readings.{HasReadLines}
use Rattle.host_judge.specs.Inside.Reported.{AreReports, IsLeastIfAny, IsReportBy, LeastFits, late_if, latency_in, least_share, share_answer, sold_terms, wait_answer, waits_kept}
use Rattle.host_judge.specs.Inside.Settled.{CountsOn, IsTracked}
use Rattle.host_judge.specs.Inside.Windowed.{IsLeastSoFar, ran_by}
use Rattle.host_judge.specs.Owed.{due}
use Rattle.host_judge.specs.Reports.{IsJudgementOf, IsShareAnswer, IsVcpuReport, IsWaitAnswer, KeepsWaits, late_in, owed_share, seen_before}
use Rattle.host_judge.specs.Traces.{end_of, marks_of, state_at, told_at, trace_of}
use Rattle.host_judge.specs.Waits.{IsLongest, late_before}
use Rattle.host_judge.specs.Windows.{IsLeastWindowShareIfAny, IsWindow, run_in, runnable_before, window_share}
use Rattle.host_judge.specs.declared.owed.Owed.{Owed}
use Rattle.host_judge.specs.declared.reading.Reading.{Reading}
use Rattle.host_judge.specs.declared.report.LongestWait.{LongestWait}
use Rattle.host_judge.specs.declared.report.Report.{Report}
use Rattle.host_judge.specs.declared.report.VcpuReport.{VcpuReport}
use Rattle.host_judge.specs.declared.tracker.Tracker.{Tracker}
use Rattle.host_judge.specs.declared.least.Least.{Least}
use Rattle.host_judge.specs.declared.windows.Windows.{Windows}
use Rattle.host_judge.proofs.PlaceLemmas.{count_between, count_order, count_rises, count_within, cut_ran, ran_few, some_cut}
use Rattle.host_judge.proofs.TrackerLemmas.{settled_at}

-- the count of late waits
late_is : (reservation : Option Reservation) (course : StateCourse) (time latency count : ℕ)
    → latency ≡ latency_in reservation → count ≡ late_before course latency time
    → late_if reservation count ≡ late_in reservation course time
late_is None course time latency count is counted = refl
late_is (Some reservation) course time latency count is counted =
    ap Some (counted ∙ ap (λ l. late_before course l time) is)

-- ---- waits

-- a count is compared with nothing
eqb_zero : (n : ℕ) → (n == 0) ≡ true → n ≡ 0
eqb_zero n test = ⊎_elim
    (λ is. is)
    (λ isnt. (let no = ne_eqb n 0 isnt in absurd (cc (test, no))))
    (cases_eq n 0)

eqb_some : (n : ℕ) → (n == 0) ≡ false → 0 < n
eqb_some n test = ⊎_elim
    (λ is. (let yes = eq-eqb n 0 is in absurd (cc (test, yes))))
    (λ isnt. omega (arith, isnt))
    (cases_eq n 0)

-- whether all waits are within a latency
waits_are : (latency : ℕ) (longest : Option LongestWait) (course : StateCourse) (told : ℕ → Option ℕ) (time : ℕ)
    → IsLongest course told time longest
    → IsTrue (waits_kept latency longest) ↔ KeepsWaits latency course time
waits_are latency None course told time is = (λ kept t within. (let none = is t within in omega arith), λ keeps. refl)
waits_are latency (Some wait) course told time is = (
  λ kept t within.
      (let most = is.longest t within in
      let short = leb-true wait.ns latency kept in omega arith),
  λ keeps.
      (let all = keeps (wait.at_ns + wait.ns) is.within in le-leb wait.ns latency (omega (arith, is.lasts))),
)

wait_seen : (reservation : Reservation) (seen : ℕ) (none : Bool) (longest : Option LongestWait) (course : StateCourse)
    (told : ℕ → Option ℕ) (time : ℕ) → IsLongest course told time longest → seen ≡ seen_before course time
    → (seen == 0) ≡ none
    → IsWaitAnswer (Some reservation) course time (if none then None else Some (waits_kept reservation.latency_ns longest))
wait_seen reservation seen true longest course told time is same test =
    sym same ∙ eqb_zero seen test
wait_seen reservation seen false longest course told time is same test =
    (omega (arith, same, eqb_some seen test), waits_are reservation.latency_ns longest course told time is)

-- what is answered of the waits
wait_is : (reservation : Option Reservation) (seen : ℕ) (longest : Option LongestWait) (course : StateCourse)
    (told : ℕ → Option ℕ) (time : ℕ) → IsLongest course told time longest → seen ≡ seen_before course time
    → IsWaitAnswer reservation course time (wait_answer reservation seen longest)
wait_is None seen longest course told time is same = refl
wait_is (Some reservation) seen longest course told time is same =
    wait_seen reservation seen (seen == 0) longest course told time is same refl

-- ---- shares

-- the least window, by what is kept of the windows
least_by : (course cut : StateCourse) (window time : ℕ) (least : Option Least) → 0 < window
    → ((t : ℕ) → t ≤ time → ran_by cut (runnable_before course t) ≡ ran_by course t)
    → IsLeastSoFar cut window (runnable_before course time) least → HasLeastPlace course least
    → IsLeastIfAny course window time least
least_by course cut window time None some ran few place = λ s e one.
    (let low = count_within course e time one.within in absurd (omega (arith, low.0, one.holds, few)))
least_by course cut window time (Some least) some ran is place =
    let at : ℕ = least.at_ns in
    let early = count_order course at time (omega (arith, place.before, is.within, some)) in
    let whole : at + (time - at) ≡ time = omega (arith, early) in
    let last : runnable_before course (at + (time - at)) ≡ runnable_before course time =
    ap (runnable_before course) whole in
    let found = count_between course at (time - at) (least.begin_ns + window) (omega (arith, place.before))
    (omega (arith, last, is.within)) in
    let end : ℕ = found.0 in
    let within : end ≤ time = omega (arith, found.2, whole) in
    let low : ran_by cut least.begin_ns ≡ ran_by course at =
    ap (ran_by cut) (sym place.before) ∙ ran at (omega (arith, early)) in
    let high : ran_by cut (least.begin_ns + window) ≡ ran_by course end =
    ap (ran_by cut) (sym found.3) ∙ ran end within in
    let value : least.run_ns ≡ run_in course at end = omega (arith, is.run, low, high) in
    let other : (s e : ℕ) → IsWindow course window time s e
    → (ran_by cut (runnable_before course s) ≡ ran_by course s)
    × (ran_by cut (runnable_before course s + window) ≡ ran_by course e)
    × (runnable_before course s + window ≤ runnable_before course time) = λ s e one.
    (let order = count_order course s e (omega (arith, one.holds, some)) in
    let most = count_within course e time one.within in (
      ran s (omega (arith, order, one.within)),
      ap (ran_by cut) one.holds ∙ ran e one.within,
      omega (arith, most.0, one.holds),
    )) in
    record {
      end = end;
      is = record {
        is_one = record {
          within = within;
          begins = place.runnable;
          holds = omega (arith, place.before, found.3);
        };
        least = λ s e one.
            (let by = other s e one in
            let more = is.lowest (runnable_before course s) by.2 in
            omega (arith, more, by.0, by.1, low, high));
        first = λ s e one before.
            (let by = other s e one in
            let less = count_rises course s at one.begins before in
            let more = is.first (runnable_before course s) by.2 (omega (arith, less, place.before)) in
            omega (arith, more, by.0, by.1, low, high));
      };
      run = value;
    }

least_of : (course : StateCourse) (window time : ℕ) (windows : Windows) → 0 < window → windows.window_ns ≡ window
    → HasWindowsOf course time windows → IsLeastIfAny course window time windows.least
least_of course window time windows some long has =
    let cut = some_cut course time in
    let counted = has.counted cut.0 cut.1 in
    least_by course cut.0 window time windows.least some (λ t within. cut_ran course cut.0 time t cut.1 within)
    (subst (λ w. IsLeastSoFar cut.0 w (runnable_before course time) windows.least) long counted.least)
    has.placed.least

-- no window runs for longer than it lasts
least_fits : (course : StateCourse) (window time : ℕ) (least : Option Least) → 0 < window
    → IsLeastIfAny course window time least → LeastFits least window
least_fits course window time None some is = tt
least_fits course window time (Some least) some is =
    let one = is.is.is_one in
    let order = count_order course least.at_ns is.end (omega (arith, one.holds, some)) in
    let most = ran_few course least.at_ns (is.end - least.at_ns) in
    let whole : least.at_ns + (is.end - least.at_ns) ≡ is.end = omega (arith, order) in
    let ran = ap (ran_by course) whole in
    let count = ap (runnable_before course) whole in
    omega (arith, most, ran, count, one.holds, is.run)

-- the least share
share_is : (course : StateCourse) (window time : ℕ) (least : Option Least) → IsLeastIfAny course window time least
    → IsLeastWindowShareIfAny course window time (least_share window least)
share_is course window time None is = is
share_is course window time (Some least) is = record {
  end = is.end;
  start = is.is;
  share = ap (λ run. window_share run window) is.run;
}

-- whether each window has what is owed
shares_are : (owed : Owed) (window : ℕ) (least : Least) (none : Bool) (course : StateCourse) (time : ℕ)
    → IsLeastIfAny course window time (Some least) → (due owed window == 0) ≡ none
    → IsShareAnswer (Some owed) window course time (if none then None else Some (nat_le (due owed window) least.run_ns))
shares_are owed window least true course time is test = λ judged.
    (let some = judged.some in let no = eqb_zero (due owed window) test in absurd (omega (arith, some, no)))
shares_are owed window least false course time is test = (
  record {
    some = eqb_some (due owed window) test;
    start = least.at_ns;
    end = is.end;
    is_one = is.is.is_one;
  },
  (
    λ kept s e one.
        (let most = is.is.least s e one in
        let enough = leb-true (due owed window) least.run_ns kept in
        omega (arith, most, enough, is.run)),
    λ keeps.
        (let enough = keeps least.at_ns is.end is.is.is_one in
        le-leb (due owed window) least.run_ns (omega (arith, enough, is.run))),
  ),
)

-- what is answered of the share
share_by : (owed : Option Owed) (window : ℕ) (least : Option Least) (course : StateCourse) (time : ℕ)
    → IsLeastIfAny course window time least
    → IsShareAnswer owed window course time (share_answer owed window least)
share_by None window least course time is = refl
share_by (Some owed) window None course time is = λ judged. is judged.start judged.end judged.is_one
share_by (Some owed) window (Some least) course time is =
    shares_are owed window least (due owed window == 0) course time is refl

-- ---- the whole

-- what is reported of a vCPU at the end
pub report_told : (marks : List Mark) (old new : Tracker) (reservation : Option Reservation) (owed : Option Owed) (time : ℕ)
    (window : ℕ) (report : VcpuReport) → 0 < window → IsTracked marks old → CountsOn old time new
    → terms_of old ≡ (latency_in reservation, window) → terms_of new ≡ terms_of old → report.run_ns ≡ new.times.run_ns
    → report.wait_ns ≡ new.times.wait_ns → report.block_ns ≡ new.times.block_ns
    → report.longest ≡ new.waits.longest → report.late ≡ late_if reservation new.waits.late
    → (LeastFits new.windows.least window → report.least ≡ least_share window new.windows.least)
    → report.owed_ppm ≡ owed_share owed window
    → report.waits_kept
    ≡ wait_answer reservation (new.times.run_ns + new.times.wait_ns + new.times.block_ns) new.waits.longest
    → report.share_kept ≡ share_answer owed window new.windows.least
    → IsVcpuReport reservation owed window (state_at marks) (told_at marks) time report
report_told marks old new reservation owed time window report some is on sold same run wait block longest late least
    owes waits share =
    let all = settled_at marks old new time is on in
    let short : new.waits.latency_ns ≡ latency_in reservation = ap (λ p. p.0) (same ∙ sold) in
    let long : new.windows.window_ns ≡ window = ap (λ p. p.1) (same ∙ sold) in
    let windows = least_of (state_at marks) window time new.windows some long all.in_windows in
    let seen : new.times.run_ns + new.times.wait_ns + new.times.block_ns ≡ seen_before (state_at marks) time =
    omega (arith, all.in_states.run, all.in_states.wait, all.in_states.block) in
    record {
      run = run ∙ all.in_states.run;
      wait = wait ∙ all.in_states.wait;
      block = block ∙ all.in_states.block;
      longest = rw longest all.in_waits.longest;
      late = late ∙ late_is reservation (state_at marks) time new.waits.latency_ns new.waits.late short
          all.in_waits.late;
      least = rw (least (least_fits (state_at marks) window time new.windows.least some windows))
          (share_is (state_at marks) window time new.windows.least windows);
      owed_ppm = owes;
      waits = rw waits (wait_is reservation (new.times.run_ns + new.times.wait_ns + new.times.block_ns)
          new.waits.longest (state_at marks) (told_at marks) time all.in_waits.longest seen);
      share = rw share (share_by owed window new.windows.least (state_at marks) time windows);
    }

-- the terms are those that were sold
pub terms_are : (window : ℕ) (tracker : Tracker) (vcpu : Vcpu) → tracker.waits.latency_ns ≡ latency_in vcpu.reservation
    → tracker.windows.window_ns ≡ window → terms_of tracker ≡ sold_terms window vcpu
terms_are window tracker vcpu short long = rw (short, long) refl

-- the terms are those that were sold, at each place
pub same_at : (window : ℕ) (trackers : List Tracker) (vcpus : List Vcpu) (v : ℕ) (tracker : Tracker) (vcpu : Vcpu)
    → map terms_of trackers ≡ map (sold_terms window) vcpus → v < length trackers → v < length vcpus
    → tracker ≡ get_or trackers v tracker → vcpu ≡ get_or vcpus v vcpu → terms_of tracker ≡ sold_terms window vcpu
same_at window trackers vcpus v tracker vcpu same low within is are =
    ap terms_of is ∙ sym (get_or-map terms_of trackers v tracker (0, 0) low)
    ∙ ap (λ l. get_or l v (0, 0)) same ∙ get_or-map (sold_terms window) vcpus v vcpu (0, 0) within
    ∙ sym (ap (sold_terms window) are)

-- one more vCPU is kept
pub terms_more : (window : ℕ) (trackers : List Tracker) (vcpus : List Vcpu) (i : ℕ) (vcpu : Vcpu) (one : Tracker)
    → i < length vcpus → vcpu ≡ get_or vcpus i vcpu → terms_of one ≡ sold_terms window vcpu
    → map terms_of trackers ≡ map (sold_terms window) (take i vcpus)
    → map terms_of (trackers ++ one ∷ []) ≡ map (sold_terms window) (take (i + 1) vcpus)
terms_more window trackers vcpus i vcpu one low is sold same =
    map_push terms_of trackers one
    ∙ ap (λ l. l ++ terms_of one ∷ []) same
    ∙ ap (λ n. map (sold_terms window) (take i vcpus) ++ n ∷ []) (sold ∙ ap (sold_terms window) is)
    ∙ sym (map_more (sold_terms window) vcpus i vcpu low)

-- one more vCPU is reported
pub reports_more : (window : ℕ) (trackers : List Tracker) (vcpus : List Vcpu) (owed : List (Option Owed)) (time : ℕ)
    (reports : List VcpuReport) (v : ℕ)
    (tracker : Tracker) (vcpu : Vcpu) (owes : Option Owed) (one : VcpuReport) → length reports ≡ v
    → AreReports window trackers vcpus owed time reports → v < length trackers → v < length vcpus → v < length owed
    → tracker ≡ get_or trackers v tracker → vcpu ≡ get_or vcpus v vcpu → owes ≡ get_or owed v owes
    → IsReportBy window tracker vcpu.reservation owes time one
    → AreReports window trackers vcpus owed time (reports ++ one ∷ [])
reports_more window trackers vcpus owed time reports v tracker vcpu owes one size are low within many is has due told
    k t u o r at_t at_u at_o at_r =
    let here : k < length (reports ++ one ∷ []) = slice_get_within (reports ++ one ∷ []) k r at_r in
    let long = length_push reports one in
    ⊎_elim
    (λ below.
    let front : slice_get (reports ++ one ∷ []) k ≡ slice_get reports k =
    slice_get-get_or (reports ++ one ∷ []) k one here
    ∙ ap Some (get_or_append_left reports (one ∷ []) one k below)
    ∙ sym (slice_get-get_or reports k one below) in
    are k t u o r at_t at_u at_o (sym front ∙ at_r))
    (λ last.
    let same : k ≡ v = omega arith in
    let one_t : tracker ≡ t = same_Some tracker t
    (ap Some is ∙ sym (slice_get-get_or trackers v tracker low) ∙ ap (slice_get trackers) (sym same) ∙ at_t) in
    let one_u : vcpu ≡ u = same_Some vcpu u
    (ap Some has ∙ sym (slice_get-get_or vcpus v vcpu within) ∙ ap (slice_get vcpus) (sym same) ∙ at_u) in
    let one_o : owes ≡ o = same_Some owes o
    (ap Some due ∙ sym (slice_get-get_or owed v owes many) ∙ ap (slice_get owed) (sym same) ∙ at_o) in
    let one_r : one ≡ r = same_Some one r
    (ap Some (sym (get_or_push reports one one k (omega arith)))
    ∙ sym (slice_get-get_or (reports ++ one ∷ []) k one here) ∙ at_r) in
    subst (λ x. IsReportBy window x u.reservation o time r) one_t
    (subst (λ x. IsReportBy window tracker x.reservation o time r) one_u
    (subst (λ x. IsReportBy window tracker vcpu.reservation x time r) one_o
    (subst (λ x. IsReportBy window tracker vcpu.reservation owes time x) one_r told))))
    (cases_lt k (length reports))

-- the next of a list of which some have been taken
pub next_is : (all done rest : List Tracker) (next : Tracker) → all ≡ done ++ next ∷ rest
    → (next ≡ get_or all (length done) next) × (length done < length all)
next_is all done rest next is =
    let pushed = length_push done next in
    let whole : all ≡ (done ++ next ∷ []) ++ rest = is ∙ sym (append_assoc done (next ∷ []) rest) in
    let long = length-append (done ++ next ∷ []) rest in
    let size : length all ≡ length (done ++ next ∷ []) + length rest = ap length whole ∙ long in
    let low : length done < length (done ++ next ∷ []) = omega (arith, pushed) in (
      sym (ap (λ l. get_or l (length done) next) whole
          ∙ get_or_append_left (done ++ next ∷ []) rest next (length done) low
          ∙ get_or_push done next next (length done) refl),
      omega (arith, size, low),
    )

-- there are as many
pub same_length : (window : ℕ) (trackers : List Tracker) (vcpus : List Vcpu)
    → map terms_of trackers ≡ map (sold_terms window) vcpus
    → length trackers ≡ length vcpus
same_length window trackers vcpus same =
    sym (length-map trackers terms_of) ∙ ap length same ∙ length-map vcpus (sold_terms window)

-- what is reported of one of them
each_told : (window : ℕ) (vcpus : List Vcpu) (owed : List (Option Owed)) (trackers : List Tracker) (reports : List VcpuReport) (time : ℕ) (trace : List Mark)
    (ends : ℕ) → time ≡ ends → AreReports window trackers vcpus owed time reports
    → ((v : ℕ) (tracker : Tracker) → slice_get trackers v ≡ Some tracker → IsTracked (marks_of v trace) tracker)
    → map terms_of trackers ≡ map (sold_terms window) vcpus → (v : ℕ) (vcpu : Vcpu) (owes : Option Owed)
    (one : VcpuReport) → slice_get vcpus v ≡ Some vcpu → slice_get owed v ≡ Some owes → slice_get reports v ≡ Some one
    → IsVcpuReport vcpu.reservation owes window (state_at (marks_of v trace)) (told_at (marks_of v trace)) ends one
each_told window vcpus owed trackers reports time trace ends is are each same v vcpu owes one at_vcpu at_owes at_one = ⊎_elim
    (λ found.
    let by = are v found.0 vcpu owes one found.2 at_vcpu at_owes at_one in
    subst (λ t. IsVcpuReport vcpu.reservation owes window (state_at (marks_of v trace)) (told_at (marks_of v trace)) t one) is
    (by.told (marks_of v trace) (each v found.0 found.2)))
    (λ past.
    let low = slice_get_within vcpus v vcpu at_vcpu in
    let long = same_length window trackers vcpus same in
    absurd (let beyond = past.0 in omega arith))
    (slice_get_cases trackers v).1

-- what is reported of a host at the end
pub told_of : (window : ℕ) (vcpus : List Vcpu) (owed : List (Option Owed)) (bytes : List ℕ) (reading : Reading) (report : Report)
    → HasReadLines (lines_of bytes) reading → reading.names ≡ names_of vcpus
    → map terms_of reading.judge.trackers.items ≡ map (sold_terms window) vcpus
    → AreReports window reading.judge.trackers.items vcpus owed reading.judge.end_ns report.vcpus.items
    → length report.vcpus.items ≡ length vcpus → report.end_ns ≡ reading.judge.end_ns
    → report.window_ns ≡ window
    → report.falls ≡ reading.judge.falls → report.unknown ≡ reading.judge.unknown
    → report.shared ≡ reading.judge.clashes.shared → report.doubled ≡ reading.judge.clashes.doubled
    → IsJudgementOf window vcpus owed bytes report
told_of window vcpus owed bytes reading report read names same are many ends long falls unknown shared doubled = record {
  marks = read.marks;
  said = subst (λ n. AreMarksOf n (rows_from 1 (lines_of bytes)) read.marks) names read.said;
  told = record {
    ends = ends ∙ read.judged.end_ns;
    lasts = long;
    falling = rw falls read.judged.falls;
    unknown = rw unknown read.judged.unknown;
    shared = rw shared read.judged.clashes.shared;
    doubled = rw doubled read.judged.clashes.doubled;
    many = many;
    each = λ v vcpu owes one at_vcpu at_owes at_one. each_told window vcpus owed reading.judge.trackers.items report.vcpus.items
        reading.judge.end_ns (trace_of read.marks) (end_of read.marks) read.judged.end_ns are read.judged.each same v
        vcpu owes one at_vcpu at_owes at_one;
  };
}
