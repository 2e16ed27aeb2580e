-- What a core's phase says of it.
use Rattle.std.proofs.Common.{◌≡◌, ◌≢◌, ℕ, zero, suc, ◌+◌, ◌*◌, ◌<◌, ◌≤◌, Bool, true, false, List, [], ◌∷◌, length, Option, Some, None, refl, arith, ◌⊎◌, inl, inr, eq-eqb}
use Rattle.std.specs.Prelude.{slice_get, ◌==◌, if◌then◌else◌, is_none}
use Rattle.std.specs.List.{list_any}
use Rattle.std.proofs.lemmas.Bool.{cases_lt, ne_eqb}
use Rattle.std.proofs.lemmas.Bool.Decides.{nat_tests}
use Rattle.tab_core.specs.declared.TheConstants.{ROUND}
use Rattle.tab_core.specs.declared.entry.Entry.{Entry}
use Rattle.tab_core.proofs.Lists.{element_at}
use Rattle.table_form.specs.Running.Phases.{CorePhase, phase_of, phase_unfinished, phase_once_seen, has_entered, round_of, to_decide, to_run, at_end}
use Rattle.table_form.specs.Running.State.{CoreState}

-- what holds of a core that is to enter a round
pub record Deciding (rounds : ℕ) (core : CoreState) : Type 0 where
  pub unfinished : core.clock ≢ rounds * ROUND
  pub not_entered : has_entered core ≡ false

-- for `deciding`, by the tests that make the phase
decide_cases : (b : Bool) (o : Option ℕ) (e : Bool)
    → (if b then at_end else phase_unfinished o e) ≡ to_decide → (b ≡ false) × (e ≡ false)
decide_cases true o e h = absurd cc
decide_cases false None e h = absurd cc
decide_cases false (Some n) true h = absurd cc
decide_cases false (Some n) false h = (refl, refl)

-- for `running` and `entered_to_run`, likewise
run_cases : (b : Bool) (o : Option ℕ) (e : Bool)
    → (if b then at_end else phase_unfinished o e) ≡ to_run → (b ≡ false) × (e ≡ true)
run_cases true o e h = absurd cc
run_cases false None e h = absurd cc
run_cases false (Some n) true h = (refl, refl)
run_cases false (Some n) false h = absurd cc

-- numbers that the test tells apart differ
differ : (a b : ℕ) → (a == b) ≡ false → a ≢ b
differ a b h e = grind (arith, nat_tests)

-- a core that is to enter a round has not done so, and is not at the end
pub deciding : (rounds : ℕ) (core : CoreState) → phase_of rounds core ≡ to_decide → Deciding rounds core
deciding rounds core h =
    let f = decide_cases (core.clock == rounds * ROUND) core.seen (has_entered core) h in
    record { unfinished = differ _ _ f.0; not_entered = f.1 }

-- a core that is to run is not at the end
pub running : (rounds : ℕ) (core : CoreState) → phase_of rounds core ≡ to_run → core.clock ≢ rounds * ROUND
running rounds core h =
    (let f = run_cases (core.clock == rounds * ROUND) core.seen (has_entered core) h in differ _ _
    f.0)

-- an entry of the round is found
pub entered_at : (es : List Entry) (k r : ℕ) (e : Entry) → slice_get es k ≡ Some e → e.round ≡ r
    → list_any (λ (x : Entry). x.round == r) es ≡ true
entered_at [] k r e h is = absurd cc
entered_at (x ∷ es) zero r e h is = (let q : x.round ≡ r = cc in rw (eq-eqb x.round r q) refl)
entered_at (x ∷ es) (suc k) r e h is = (let rest = entered_at es k r e h is in grind (arith, rest))

-- where the k-th entry is of round k, the round is entered if its number is below the number of entries
pub entered_below : (es : List Entry) (r : ℕ)
    → ((k : ℕ) (e : Entry) → slice_get es k ≡ Some e → e.round ≡ k) → r < length es
    → list_any (λ (x : Entry). x.round == r) es ≡ true
entered_below es r numbered lt =
    (let at = element_at es r lt in entered_at es r r at.0 at.1 (numbered r at.0 at.1))

-- a round isn't entered whose number is that of the entries or above
none_from : (es : List Entry) (r n : ℕ)
    → ((k : ℕ) (e : Entry) → slice_get es k ≡ Some e → e.round ≡ n + k) → n + length es ≤ r
    → list_any (λ (x : Entry). x.round == r) es ≡ false
none_from [] r n numbered le = refl
none_from (x ∷ es) r n numbered le =
    let first = numbered 0 x refl in
    let ne : x.round ≢ r = λ e. omega (arith, first, e) in
    rw (ne_eqb x.round r ne) (none_from es r (n + 1) (λ k e h. omega (arith, numbered (suc k) e h))
    (omega arith))

-- a round is not entered where its number is at least the number of entries
pub not_entered_above : (es : List Entry) (r : ℕ)
    → ((k : ℕ) (e : Entry) → slice_get es k ≡ Some e → e.round ≡ k) → length es ≤ r
    → list_any (λ (x : Entry). x.round == r) es ≡ false
not_entered_above es r numbered le = none_from es r 0 (λ k e h. omega (arith, numbered k e h)) (omega arith)

-- for `phase_seen`, by the tests that make the phase
phase_parts : (a : Bool) (o : Option ℕ) (e b : Bool) → a ≡ false → is_none o ≡ false → e ≡ b
    → (if a then at_end else phase_unfinished o e) ≡ phase_once_seen b
phase_parts true o e b p q r = absurd cc
phase_parts false None e b p q r = absurd cc
phase_parts false (Some n) e b p q r = rw r refl

-- the phase of a core that is not done and has seen
pub phase_seen : (rounds : ℕ) (core : CoreState) (entered : Bool) → core.clock ≢ rounds * ROUND
    → is_none core.seen ≡ false → has_entered core ≡ entered
    → phase_of rounds core ≡ phase_once_seen entered
phase_seen rounds core entered unfinished seen is =
    phase_parts (core.clock == rounds * ROUND) core.seen (has_entered core) entered
    (ne_eqb core.clock (rounds * ROUND) unfinished) seen is

-- for `has_seen`, likewise
seen_cases : (a : Bool) (o : Option ℕ) (e : Bool) (p : CorePhase) → (p ≡ to_decide) ⊎ (p ≡ to_run)
    → (if a then at_end else phase_unfinished o e) ≡ p → o ≢ None
seen_cases true o e p is h none = elim is [ inl q ↦ absurd cc | inr q ↦ absurd cc ]
seen_cases false None e p is h none = elim is [ inl q ↦ absurd cc | inr q ↦ absurd cc ]
seen_cases false (Some n) e p is h none = absurd cc

-- a core that is to enter a round or to run has seen
pub has_seen : (rounds : ℕ) (core : CoreState)
    → (phase_of rounds core ≡ to_decide) ⊎ (phase_of rounds core ≡ to_run) → core.seen ≢ None
has_seen rounds core is = seen_cases (core.clock == rounds * ROUND) core.seen (has_entered core)
    (phase_of rounds core) is refl

-- a core that is to run has entered its clock's round
pub entered_to_run : (rounds : ℕ) (core : CoreState)
    → ((k : ℕ) (e : Entry) → slice_get core.entries k ≡ Some e → e.round ≡ k)
    → phase_of rounds core ≡ to_run → round_of core < length core.entries
entered_to_run rounds core numbered due =
    let has = (run_cases (core.clock == rounds * ROUND) core.seen (has_entered core) due).1 in
    elim (cases_lt (round_of core) (length core.entries)) [
      | inl lt ↦ lt
      | inr le ↦ absurd (let isnt = not_entered_above core.entries (round_of core) numbered le in cc)
    ]
