-- The text of a replay is read back as what the steps made.
use Rattle.std.proofs.Common.{◌≡◌, ℕ, ◌<◌, ◌≤◌, ◌^◌, List, [], ◌∷◌, ◌++◌, flat_map, length, map, replicate, Some, refl, sym, ap, ◌∙◌, subst, append_assoc, append-nil, arith}
use Rattle.std.proofs.lemmas.Grind.{flat_map-append}
use Rattle.std.proofs.lemmas.List.{length-map, map-append}
use Rattle.std.proofs.lemmas.List.Elements.{All-append, All-cons, All-nil}
use Rattle.std.proofs.lemmas.Option.{get_or_from_slice_get}
use Rattle.std.specs.List.{All}
use Rattle.tab_core.proofs.Lists.{get_or-replicate_same}
use Rattle.tab_core.specs.declared.TheConstants.{MAX_CORES, MAX_VCPUS}
use Rattle.tab_core.specs.declared.entry.Entry.{Entry}
use Rattle.tab_core.specs.declared.host.Host.{Host}
use Rattle.tab_words.specs.Texts.{line_of, text_of, worded}
use Rattle.tab_words.proofs.TextLemmas.{text_read}
use Rattle.table_form.specs.Running.Courses.{CourseView, plan_after}
use Rattle.table_form.specs.Running.State.{CoreState, State, opening, opening_core}
use Rattle.vcpu_names.specs.Names.{names_of}
use Rattle.replay_text.specs.ReplayText.{entry_line, made_line, posted_line, replay_text}
use Rattle.step_machine.specs.declared.trace.Made.{Made}
use Rattle.step_machine.specs.declared.trace.Made.TheVariants.{Entered, Ran}
use Rattle.step_machine.proofs.RunLemmas.{leads_keep, opening_kept}
use Rattle.step_machine.proofs.TraceLemmas.{leads_of}
use Rattle.view_doc.specs.Grammar.{Front, place_after_line, start}
use Rattle.view_doc.specs.Lines.{IsGood, IsPlain, entry, posted, told_words}
use Rattle.view_doc.specs.Texts.{IsFirstBad, IsText}
use Rattle.view_doc.specs.Views.{IsViewOf, ShowsTold, cores_after, entries_in, is_run, slots_from, stretch_told, tasks_in, told_stints}
use Rattle.view_doc.specs.declared.place.Place.{Place}
use Rattle.view_doc.specs.declared.place.Place.TheVariants.{Closed, Planned, Reporting, Row, Running, Start, Tasks}
use Rattle.view_doc.specs.declared.view.View.{View}
use Rattle.view_doc.proofs.OneText.{no_bad_line, one_text}
use Rattle.view_laws.specs.ShownReplays.{IsReplayOf, ShowsReplay, entries_made, made_told, replay_told, stints_made}
use Rattle.view_laws.proofs.FitStints.{vcpus_of_course}
use Rattle.view_laws.proofs.Known.{room_at_first}
use Rattle.view_laws.proofs.Leading.{Leads, front_at, goes_on_by, goes_once, none_mapped}
use Rattle.view_laws.proofs.ReplayLed.{AreClocks, trace_goes}
use Rattle.view_laws.proofs.RunLed.{IsOpen, no_slot}
use Rattle.view_laws.proofs.PlainLines.{plain_lines, stint_written}

-- ---- the text

-- an entry's line
entry_written : (c : ℕ) (e : Entry) → entry_line c e ≡ line_of (told_words (entry c e.round e.used))
unfolding entry_line line_of
entry_written c e = sym (simp append_assoc)

-- the line that ends the text
posted_written : (count : ℕ) → posted_line count ≡ line_of (told_words (posted count))
unfolding posted_line line_of
posted_written count = sym (simp append_assoc)

-- the line of what a step made
made_written : (names : List (List ℕ)) (course : CourseView) (m : Made)
    → made_line names course m ≡ line_of (told_words (made_told names course m))
made_written names course (Entered c e) = entry_written c e
made_written names course (Ran c s) = stint_written names course c s

all_written : (names : List (List ℕ)) (course : CourseView) (made : List Made)
    → flat_map (made_line names course) made ≡ text_of (map told_words (map (made_told names course) made))
all_written names course [] = refl
all_written names course (m ∷ made) =
    ap (λ l. l ++ flat_map (made_line names course) made) (made_written names course m)
    ∙ ap (λ ls. line_of (told_words (made_told names course m)) ++ ls) (all_written names course made)

-- the whole text is that of the lines
text_written : (names : List (List ℕ)) (course : CourseView) (made : List Made) (count : ℕ)
    → replay_text names course made count ≡ text_of (map told_words (replay_told names course made count))
text_written names course made count =
    let lines = map told_words (map (made_told names course) made) in
    let last = told_words (posted count) in
    ap (λ l. l ++ posted_line count) (all_written names course made)
    ∙ (ap (λ l. text_of lines ++ l) (posted_written count ∙ sym (append-nil (line_of last)))
    ∙ (sym (flat_map-append line_of lines (last ∷ []))
    ∙ ap text_of (sym (map-append told_words (map (made_told names course) made) (posted count ∷ [])))))

-- its lines are lines of a run
made_lines : (names : List (List ℕ)) (course : CourseView) (made : List Made)
    → All IsPlain (map (made_told names course) made)
made_lines names course [] = All-nil IsPlain
made_lines names course (Entered c e ∷ made) =
    All-cons IsPlain (made_told names course (Entered c e)) (map (made_told names course) made) tt
    (made_lines names course made)
made_lines names course (Ran c s ∷ made) =
    All-cons IsPlain (made_told names course (Ran c s)) (map (made_told names course) made) tt
    (made_lines names course made)

-- ---- where the lines lead

-- the last line closes the text
posted_place : (place : Place) (count : ℕ) → IsOpen place → place_after_line place (posted count) ≡ Some Closed
posted_place Start count at = refl
posted_place Running count at = refl
posted_place (Tasks m k) count at = absurd at
posted_place (Row m d f) count at = absurd at
posted_place Planned count at = absurd at
posted_place Reporting count at = absurd at
posted_place Closed count at = absurd at

-- no core's clock has moved at first
at_first : (count : ℕ) → AreClocks (replicate MAX_CORES 0) (opening count).cores
at_first count = record {
  size = refl;
  each = λ c core is. get_or-replicate_same MAX_CORES c 0
      ∙ sym (sym (ap (λ (x : CoreState). x.clock)
      (get_or_from_slice_get (opening count).cores c core opening_core is))
      ∙ ap (λ (x : CoreState). x.clock) (get_or-replicate_same count c opening_core));
}

-- the text is read, and shows no slot
pub record IsReplayRead (names : List (List ℕ)) (course : CourseView) (made : List Made) (count : ℕ) : Type
    0 where
  pub front : Front
  pub text : IsText (replay_text names course made count) (replay_told names course made count) front
  pub run : front.place ≡ Closed
  pub no_slots : slots_from (Some Start) (replay_told names course made count) ≡ []

pub replay_read : (host : Host) (course : CourseView) (rounds : ℕ) (state : State) (made : List Made)
    → IsReplayOf host course rounds state made
    → IsReplayRead (names_of host.vcpus) course made state.posted
replay_read host course rounds state made is =
    let names = names_of host.vcpus in
    let own = is.host_course in
    let size : length names ≡ length host.vcpus = length-map host.vcpus (λ v. v.name) in
    let many : length names ≡ length (plan_after course 0).tasks = size ∙ sym (vcpus_of_course host course own) in
    let few : length names ≤ MAX_VCPUS = let least = own.few in omega arith in
    let kept = leads_keep course rounds (opening course.cores) is.steps state own.keeps
    (leads_of course rounds (opening course.cores) is.steps state made is.trace)
    (opening_kept course rounds) in
    let most = kept.posted_most in
    let few_events = own.keeps.form.outline.few_events in
    let count : state.posted < 2 ^ 32 = omega arith in
    let goes = trace_goes names course rounds (opening course.cores) is.steps state made Start []
    (replicate MAX_CORES 0)
    (record { good = own.names.good; many = many; keeps = own.keeps; few = is.few_rounds })
    (opening_kept course rounds) is.trace tt (room_at_first names few) (at_first course.cores) in
    let reached = goes.reaches in
    let last = front_at Closed reached.known reached.ends in
    let leads : Leads start (replay_told names course made state.posted) last [] =
    goes_on_by start (map (made_told names course) made) (posted state.posted ∷ [])
    (front_at reached.place reached.known reached.ends) last [] [] reached.leads
    (goes_once (front_at reached.place reached.known reached.ends) (posted state.posted) Closed reached.known
    reached.ends (posted_place reached.place state.posted reached.at) refl refl
    (no_slot reached.place (posted state.posted) reached.at)) in
    let good : All IsGood (replay_told names course made state.posted) =
    All-append IsGood (map (made_told names course) made) (posted state.posted ∷ []) goes.good
    (All-cons IsGood (posted state.posted) [] count (All-nil IsGood)) in
    let kinds : All IsPlain (replay_told names course made state.posted) =
    All-append IsPlain (map (made_told names course) made) (posted state.posted ∷ [])
    (made_lines names course made) (All-cons IsPlain (posted state.posted) [] tt (All-nil IsPlain)) in
    record {
      front = last;
      text = record {
        told = record {
          written = ap worded (text_written names course made state.posted)
              ∙ text_read (map told_words (replay_told names course made state.posted))
              (plain_lines (replay_told names course made state.posted) kinds good);
          good = good;
        };
        led = leads.led;
        whole = refl;
      };
      run = refl;
      no_slots = leads.shown;
    }

-- the law's first clause: the text tells what was made
pub replay_told_by : (host : Host) (course : CourseView) (rounds : ℕ) (state : State) (made : List Made)
    → IsReplayOf host course rounds state made
    → (front : Front) × IsText (replay_text (names_of host.vcpus) course made state.posted)
    (replay_told (names_of host.vcpus) course made state.posted) front
replay_told_by host course rounds state made is =
    let read = replay_read host course rounds state made is in (read.front, read.text)

-- ---- what is shown

-- what was made tells of no core count
no_count : (names : List (List ℕ)) (course : CourseView) (made : List Made) (count : ℕ)
    → cores_after 0 (replay_told names course made count) ≡ 0
no_count names course [] count = refl
no_count names course (Entered c e ∷ made) count = no_count names course made count
no_count names course (Ran c s ∷ made) count = no_count names course made count

-- what was made says nothing of a task
no_tasks : (names : List (List ℕ)) (course : CourseView) (made : List Made) (count : ℕ)
    → flat_map tasks_in (replay_told names course made count) ≡ []
no_tasks names course [] count = refl
no_tasks names course (Entered c e ∷ made) count = no_tasks names course made count
no_tasks names course (Ran c s ∷ made) count = no_tasks names course made count

-- but of the entries
entries_are : (names : List (List ℕ)) (course : CourseView) (made : List Made) (count : ℕ)
    → flat_map entries_in (replay_told names course made count) ≡ entries_made made
entries_are names course [] count = refl
entries_are names course (Entered c e ∷ made) count =
    ap (λ es. (record { core = c; round = e.round; count = e.used }) ∷ es)
    (entries_are names course made count)
entries_are names course (Ran c s ∷ made) count = entries_are names course made count

-- what was made shows the stints
stints_are : (names : List (List ℕ)) (course : CourseView) (made : List Made) (count : ℕ)
    → flat_map told_stints (replay_told names course made count) ≡ stints_made names course made
stints_are names course [] count = refl
stints_are names course (Entered c e ∷ made) count = stints_are names course made count
stints_are names course (Ran c s ∷ made) count =
    ap (λ ts. made_told names course (Ran c s) ∷ ts) (stints_are names course made count)

-- a view of the text shows what was made
pub replay_shown : (host : Host) (course : CourseView) (rounds : ℕ) (state : State) (made : List Made)
    (view : View) → IsReplayOf host course rounds state made
    → IsViewOf (replay_text (names_of host.vcpus) course made state.posted) view
    → ShowsReplay (names_of host.vcpus) course made view
replay_shown host course rounds state made view of is =
    let names = names_of host.vcpus in
    let read = replay_read host course rounds state made of in
    let told = replay_told names course made state.posted in
    let same = one_text (replay_text names course made state.posted) is.tolds told is.front read.front
    is.text read.text in
    let shows : ShowsTold told read.front view =
    subst (λ (f : Front). ShowsTold told f view) same.1
    (subst (λ ts. ShowsTold ts is.front view) same.0 is.shows) in
    record {
      no_cores = shows.cores ∙ no_count names course made state.posted;
      run = shows.run ∙ ap is_run read.run;
      no_task = shows.tasks ∙ no_tasks names course made state.posted;
      no_slot = none_mapped (stretch_told read.front.names) view.slots.items (shows.slots ∙ read.no_slots);
      entries = shows.entries ∙ entries_are names course made state.posted;
      stints = ap (λ ns. map (stretch_told ns) view.stints.items) shows.names
          ∙ (shows.stints ∙ stints_are names course made state.posted);
    }

-- the text has no bad line
pub replay_has_no_bad_line : (host : Host) (course : CourseView) (rounds : ℕ) (state : State)
    (made : List Made)
    (bad : ℕ) → IsReplayOf host course rounds state made
    → IsFirstBad (replay_text (names_of host.vcpus) course made state.posted) bad → ⊥
replay_has_no_bad_line host course rounds state made bad of is =
    let read = replay_read host course rounds state made of in
    no_bad_line (replay_text (names_of host.vcpus) course made state.posted) _ read.front bad read.text is
