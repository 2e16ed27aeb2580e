-- Runs: their opening and each list of steps keep the invariant, and new logs stand for the opening.
use Rattle.std.proofs.Common.{◌≡◌, ◌≢◌, ℕ, zero, suc, inl, inr, List, [], ◌∷◌, ◌++◌, length, replicate, Some, refl, ap, sym, subst, ◌∙◌, arith}
use Rattle.std.specs.Prelude.{slice_get}
use Rattle.tab_core.specs.declared.stint.Stint.{Stint}
use Rattle.tab_core.proofs.Lists.{push_split}
use Rattle.table_form.specs.Running.Courses.{CourseView, IsCourse}
use Rattle.script_doc.specs.declared.step.Step.{Step}
use Rattle.step_machine.specs.declared.answer.Answer.{Answer}
use Rattle.table_form.specs.Running.State.{State, CoreState, opening, opening_core}
use Rattle.step_machine.specs.Answers.{Moves, AnswersStep}
use Rattle.table_form.specs.Running.Invariant.{CoreInvariant, StateInvariant}
use Rattle.table_form.specs.Promises.OneTable.{UsesCounts}
use Rattle.table_form.specs.Running.Choice.{last_shared}
use Rattle.step_machine.specs.declared.answer.Answer.TheVariants.{Done, Behind, NotNow}
use Rattle.step_machine.specs.declared.core_log.CoreLog.{CoreLog}
use Rattle.step_machine.specs.Inside.Logs.{cores_of_logs, KnowLast, LogsHaveRoom, IsNew, AreLogsNew}
use Rattle.step_machine.specs.Runs.{Leads}
use Rattle.step_machine.specs.declared.machine_state.MachineState.{MachineState}
use Rattle.step_machine.specs.Inside.MachineStates.{state_of_machine}
use Rattle.step_machine.proofs.InvariantLemmas.{moves_keep}

-- each core of the opening is as new
same_core : (n c : ℕ) (x core : CoreState) → slice_get (replicate n x) c ≡ Some core → core ≡ x
same_core zero c x core h = absurd cc
same_core (suc n) zero x core h = cc
same_core (suc n) (suc c) x core h = same_core n c x core h

-- the new cores are as many as the course has
length-replicate_of : {X : Type 0} (n : ℕ) (x : X) → length (replicate n x) ≡ n
length-replicate_of zero x = refl
length-replicate_of (suc n) x = ap suc (length-replicate_of n x)

-- a core to which nothing happened keeps what is kept of a core
opening_core_kept : (course : CourseView) (rounds c : ℕ) → CoreInvariant course rounds 0 [] c opening_core
opening_core_kept course rounds c = record {
  timeline = record {
    contiguous = refl;
    numbered = λ k e h. absurd cc;
    reach = omega arith;
    ahead = omega arith;
    each = λ k s h. absurd cc;
  };
  clock = record { in_run = omega arith; events = λ i lt. absurd (omega arith) };
  entries = record { few = omega arith; seen_posted = λ k e h. absurd cc };
  stints = record { each = λ k s h. absurd cc; risen = λ j k s t le h g. absurd cc };
  sight = λ n h. absurd cc;
}

-- a core of the opening uses no count
opening_core_uses : UsesCounts [] opening_core
opening_core_uses = record { entries = λ r e h. absurd cc; stints = λ k s h. absurd cc }

-- the opening state keeps what is kept
pub opening_kept : (course : CourseView) (rounds : ℕ) → StateInvariant course rounds (opening course.cores)
opening_kept course rounds = record {
  size = length-replicate_of course.cores opening_core;
  table = record {
    cores = λ c core h. rw (same_core course.cores c opening_core core h) opening_core_uses;
    one_winner = λ r d h. absurd cc;
    rises = λ r a b h g. absurd cc;
  };
  cores = λ c core h. rw (same_core course.cores c opening_core core h) (opening_core_kept course rounds c);
  fresh = λ r d h. absurd cc;
  decided_posted = λ r d h. absurd cc;
  posted_most = omega arith;
  near = λ c d core other h g.
      (let x = ap (λ (y : CoreState). y.clock) (same_core course.cores c opening_core core h) in omega arith);
}

-- whatever the answer to a step is, the state after it keeps the invariant
pub answers_keep : (course : CourseView) (rounds : ℕ) (old : State) (step : Step) (answer : Answer)
    (new : State) → IsCourse course → AnswersStep course rounds old step answer new
    → StateInvariant course rounds old → StateInvariant course rounds new
answers_keep course rounds old step Done new ok moves kept =
    moves_keep course rounds old step new ok moves kept
answers_keep course rounds old step (Behind who tick) new ok waits kept = rw waits.1 kept
answers_keep course rounds old step (NotNow found) new ok waits kept = rw waits.1 kept

-- a list of steps keeps the invariant
pub leads_keep : (course : CourseView) (rounds : ℕ) (old : State) (steps : List Step) (new : State)
    → IsCourse course → Leads course rounds old steps new → StateInvariant course rounds old
    → StateInvariant course rounds new
leads_keep course rounds old [] new ok leads kept = rw (← leads) kept
leads_keep course rounds old (step ∷ steps) new ok leads kept =
    leads_keep course rounds leads.0 steps new ok leads.2
    (moves_keep course rounds old step leads.0 ok leads.1 kept)

-- new logs stand for the cores of the opening
pub cores_new : (count rounds turns : ℕ) (logs : List CoreLog) → AreLogsNew count rounds turns logs
    → cores_of_logs logs ≡ replicate count opening_core
cores_new zero rounds turns [] new = refl
cores_new zero rounds turns (log ∷ logs) new = absurd (let n = new.count_is in omega arith)
cores_new (suc count) rounds turns [] new = absurd (let n = new.count_is in omega arith)
cores_new (suc count) rounds turns (log ∷ logs) new =
    let first = (new.new 0 log refl).core in
    let rest = cores_new count rounds turns logs
    (record {
      count_is = (let n = new.count_is in omega arith);
      new = λ k x h. new.new (suc k) x h;
    }) in
    rw (first, rest) refl

-- one more new log leaves all new
pub new_more : (count rounds turns : ℕ) (logs : List CoreLog) (log : CoreLog)
    → AreLogsNew count rounds turns logs → IsNew rounds turns log
    → AreLogsNew (length (logs ++ log ∷ [])) rounds turns (logs ++ log ∷ [])
new_more count rounds turns logs log are is = record {
  count_is = refl;
  new = λ k x h. elim (push_split logs k log x h) [
    | inl old ↦ are.new k x old
    | inr new ↦
        subst (λ (y : CoreLog). IsNew rounds turns y) new.1 is
  ];
}

-- a state of new logs is the opening
pub new_state : (count rounds turns : ℕ) (p : MachineState) → p.posted ≡ 0 → p.decided.items ≡ []
    → AreLogsNew count rounds turns p.logs.items → state_of_machine p ≡ opening count
new_state count rounds turns p posted decided new =
    rw (posted, decided, cores_new count rounds turns p.logs.items new) refl

-- new logs know that nobody was picked
pub new_know : (course : CourseView) (count rounds turns : ℕ) (logs : List CoreLog)
    → AreLogsNew count rounds turns logs → KnowLast course logs
new_know course count rounds turns logs new = λ k log h.
    let is = new.new k log h in
    let none = ap (λ (x : CoreState). x.stints) is.core in
    is.last ∙ sym (ap (λ (ss : List Stint). last_shared course k ss) none)

-- new logs have room for the steps that are to come
pub new_room : (count rounds turns : ℕ) (logs : List CoreLog) → AreLogsNew count rounds turns logs
    → LogsHaveRoom rounds turns logs
new_room count rounds turns logs new = λ k log h. (new.new k log h).room

-- one step more at the end of a list
pub leads_more : (course : CourseView) (rounds : ℕ) (old : State) (steps : List Step) (mid : State)
    (step : Step) (new : State) → Leads course rounds old steps mid
    → Moves course rounds mid step new → Leads course rounds old (steps ++ step ∷ []) new
leads_more course rounds old [] mid step new leads moves = (new, rw leads moves, refl)
leads_more course rounds old (first ∷ steps) mid step new leads moves =
    (leads.0, leads.1, leads_more course rounds leads.0 steps mid step new leads.2 moves)

-- a step that isn't done changes nothing
pub refused_stays : (course : CourseView) (rounds : ℕ) (old : State) (step : Step) (answer : Answer)
    (new : State) → answer ≢ Done → AnswersStep course rounds old step answer new
    → AnswersStep course rounds old step answer old
refused_stays course rounds old step Done new isnt moves = absurd (isnt refl)
refused_stays course rounds old step (Behind who tick) new isnt waits = (waits.0, refl)
refused_stays course rounds old step (NotNow found) new isnt waits = (waits.0, refl)
