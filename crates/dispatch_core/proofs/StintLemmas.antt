-- The stint that a core runs next, and what its actor keeps then.
use Rattle.std.proofs.Common.{◌≡◌, ℕ, zero, suc, ◌+◌, ◌*◌, ◌/◌, ◌<◌, ◌≤◌, Bool, true, false, List, [], ◌∷◌, ◌++◌, Option, None, Some, inl, inr, length, take, refl, sym, ap, ◌∙◌, subst, arith}
use Rattle.std.specs.Prelude.{nat_lt, slice_get, sum_by, not, ◌&&◌, if◌then◌else◌}
use Rattle.std.proofs.lemmas.Bool.{cases_lt, le-ltb, lt-ltb}
use Rattle.std.proofs.lemmas.List.Sums.{sum_by_push}
use Rattle.tab_core.specs.declared.TheConstants.{ROUND}
use Rattle.tab_core.proofs.Lists.{push_split, take_push_old, take_push_new}
use Rattle.tab_core.specs.declared.stint.Stint.{Stint}
use Rattle.table_form.specs.Tables.Serves.{is_cell_of}
use Rattle.table_form.specs.Running.Choice.{IsDispatch, is_shared, last_after}
use Rattle.table_form.specs.Running.Courses.{CourseView}
use Rattle.round_words.specs.declared.view.Part.{Part}
use Rattle.table_form.specs.Running.Outlines.{OutlineView}
use Rattle.round_words.specs.declared.view.View.{View}
use Rattle.round_words.specs.Changes.{ChangesOnly}
use Rattle.round_words.specs.Views.{last_of, part, with_stint}
use Rattle.round_words.proofs.ChangesLemmas.{core_still, started_still}
use Rattle.round_words.proofs.HearingLemmas.{SamePart}
use Rattle.run_promises.proofs.ChoiceLemmas.{last_more}
use Rattle.run_counts.specs.declared.account.CoreAccount.{CoreAccount}
use Rattle.run_counts.specs.Accounts.{IsAccountOf, IsWithin, idle_ticks, length_of, shared_ticks, slot_ticks}
use Rattle.dispatch_core.specs.Inside.Adding.{Adds}
use Rattle.dispatch_core.specs.Parts.{AreDispatched, HasSeen, used_counts}
use Rattle.dispatch_core.specs.States.{AgreesWithoutPlan, FollowsPlans, StateView}
use Rattle.dispatch_core.specs.Told.{BeginsNext}
use Rattle.dispatch_core.proofs.EntryLemmas.{used_at}
use Rattle.dispatch_core.proofs.PartLemmas.{ran_timely}
use Rattle.dispatch_core.proofs.StateLemmas.{none_taken}

-- a stint of the clock, of what was seen last and of the used count that is kept for the clock's round
pub begins_next : (p : Part) (s : Stint) (clock seen used : ℕ) (items : List ℕ) → items ≡ used_counts p.entries
    → slice_get items (clock / ROUND) ≡ Some used → clock ≡ p.clock → last_of p.sights ≡ seen
    → s.from ≡ clock → s.seen ≡ seen → s.used ≡ used → BeginsNext p s
begins_next p s clock seen used items items_are at clock_is last from saw uses =
    let e = used_at p.entries (clock / ROUND) used (subst (λ (xs : List ℕ). slice_get xs (clock / ROUND) ≡ Some used) items_are at) in record {
      entry = e.0;
      entered = subst (λ (t : ℕ). slice_get p.entries (t / ROUND) ≡ Some e.0) clock_is e.1;
      used = uses ∙ sym e.2;
      seen = saw ∙ sym last;
      from = from ∙ clock_is;
    }

-- what was heard doesn't matter to it
pub begins_same : (p q : Part) (s : Stint) → SamePart p q → BeginsNext p s → BeginsNext q s
begins_same p q s same b = record {
  entry = b.entry;
  entered = rw (same.clock, same.entries) b.entered;
  used = b.used;
  seen = rw same.sights b.seen;
  from = b.from ∙ sym same.clock;
}

part_of : (b : Bool) (n : ℕ) → (if b then n else 0) ≤ n
part_of true n = omega arith
part_of false n = omega arith

idle_part : (s : Stint) → idle_ticks s ≤ length_of s
idle_part s = by s.ran s refl
  where
    by : (o : Option ℕ) (s : Stint) → s.ran ≡ o → idle_ticks s ≤ length_of s
    by None s is = rw is (omega arith)
    by (Some v) s is = rw is (omega arith)

-- the account of a stint more is within the new clock
pub within_more : (old new : CoreAccount) (s : Stint) (shared : Bool) → IsWithin old s.from → s.from ≤ s.end
    → Adds old new s shared → IsWithin new s.end
within_more old new s shared within le adds = record {
  slots = λ v lt. omega (arith, adds.slots v lt, within.slots v lt, part_of (is_cell_of v s.ran && not shared) (length_of s), le);
  shared = λ v lt. omega (arith, adds.picked v lt, within.shared v lt, part_of (is_cell_of v s.ran && shared) (length_of s), le);
  idle = omega (arith, adds.idle, within.idle, idle_part s, le);
}

-- the account has one stint's ticks more
account_more : (course : CourseView) (c : ℕ) (ss : List Stint) (s : Stint) (shared : Bool) (old new : CoreAccount)
    → IsAccountOf course c ss old → shared ≡ is_shared course c s → Adds old new s shared → IsAccountOf course c (ss ++ s ∷ []) new
account_more course c ss s shared old new is shared_is adds = record {
  slots = λ v lt. adds.slots v lt ∙ (ap (λ (x : ℕ). x + (if is_cell_of v s.ran && not shared then length_of s else 0)) (is.slots v lt)
      ∙ (ap (λ (b : Bool). sum_by (slot_ticks course c v) ss + (if is_cell_of v s.ran && not b then length_of s else 0)) shared_is ∙ sym (sum_by_push (slot_ticks course c v) ss s)));
  shared = λ v lt. adds.picked v lt ∙ (ap (λ (x : ℕ). x + (if is_cell_of v s.ran && shared then length_of s else 0)) (is.shared v lt)
      ∙ (ap (λ (b : Bool). sum_by (shared_ticks course c v) ss + (if is_cell_of v s.ran && b then length_of s else 0)) shared_is ∙ sym (sum_by_push (shared_ticks course c v) ss s)));
  idle = adds.idle ∙ (ap (λ (x : ℕ). x + idle_ticks s) is.idle ∙ sym (sum_by_push idle_ticks ss s));
}

-- the stints with one more are those that the rules choose
dispatched_more : (course : CourseView) (c : ℕ) (ss : List Stint) (s : Stint) → AreDispatched course c ss
    → IsDispatch course c ss s → AreDispatched course c (ss ++ s ∷ [])
dispatched_more course c ss s old follows k x h = elim (push_split ss k s x h) [
  | inl before ↦ rw (take_push_old ss k s x before) (old k x before)
  | inr new ↦ subst (λ (z : Stint). IsDispatch course c (take k (ss ++ s ∷ [])) z) new.1
      (subst (λ (i : ℕ). IsDispatch course c (take i (ss ++ s ∷ [])) s) (sym new.0) (rw (take_push_new ss s) follows))
]

-- by the plans of the course, once the core ran a stint more
pub plans_ran : (course : CourseView) (s t : StateView) (p : Part) (stint : Stint) (shared : Bool) → FollowsPlans course s p
    → IsDispatch course s.core p.stints stint → shared ≡ is_shared course s.core stint → t.core ≡ s.core
    → t.last ≡ last_after course s.core s.last stint → Adds s.account t.account stint shared
    → FollowsPlans course t (with_stint p stint)
plans_ran course s t p stint shared follows next shared_is core last adds = rw core (record {
  dispatched = dispatched_more course s.core p.stints stint follows.dispatched next;
  last = last ∙ (ap (λ (o : Option ℕ). last_after course s.core o stint) follows.last ∙ sym (last_more course s.core p.stints stint));
  account = account_more course s.core p.stints stint shared s.account t.account follows.account shared_is adds;
})

take_more : (keep : ℕ) (ss : List Stint) (s : Stint) → length (take keep ss) < keep → take keep ss ++ s ∷ [] ≡ take keep (ss ++ s ∷ [])
take_more zero ss s lt = absurd (omega arith)
take_more (suc n) [] s lt = ap (λ (ts : List Stint). s ∷ ts) (sym (none_taken n [] refl))
take_more (suc n) (x ∷ ss) s lt = ap (λ (ts : List Stint). x ∷ ts) (take_more n ss s (omega arith))

take_full : (keep : ℕ) (ss : List Stint) (s : Stint) → keep ≤ length (take keep ss) → take keep ss ≡ take keep (ss ++ s ∷ [])
take_full zero ss s le = refl
take_full (suc n) [] s le = absurd (omega arith)
take_full (suc n) (x ∷ ss) s le = ap (λ (ts : List Stint). x ∷ ts) (take_full n ss s (omega arith))

-- the stints that are kept, once there is one more
pub kept_stints : (keep : ℕ) (ss : List Stint) (s : Stint)
    → (if nat_lt (length (take keep ss)) keep then take keep ss ++ s ∷ [] else take keep ss) ≡ take keep (ss ++ s ∷ [])
kept_stints keep ss s = elim (cases_lt (length (take keep ss)) keep) [
  | inl lt ↦ rw (lt-ltb (length (take keep ss)) keep lt) (take_more keep ss s lt)
  | inr le ↦ rw (le-ltb (length (take keep ss)) keep le) (take_full keep ss s le)
]

-- in what needs no plan, once the core ran its next stint
pub stands_ran : (o : OutlineView) (s t : StateView) (v w : View) (stint : Stint) (shared : Bool) (count : ℕ) → AgreesWithoutPlan o s v
    → s.clock < s.rounds * ROUND → HasSeen o count (part v s.core) → BeginsNext (part v s.core) stint
    → stint.from < stint.end → stint.end ≤ (stint.from / ROUND + 1) * ROUND → ChangesOnly v w s.core
    → part w s.core ≡ with_stint (part v s.core) stint → t.core ≡ s.core → t.rounds ≡ s.rounds → t.keep ≡ s.keep → t.clock ≡ stint.end
    → t.used ≡ s.used → t.stints ≡ (if nat_lt (length s.stints) s.keep then s.stints ++ stint ∷ [] else s.stints)
    → Adds s.account t.account stint shared → t.known ≡ s.known → AgreesWithoutPlan o t w
stands_ran o s t v w stint shared count stands less seen begins some in_round others is core rounds keep clock used stints adds known =
    let p : Part = part v s.core in
    let from : stint.from ≡ s.clock = begins.from ∙ sym stands.clock in
    let becomes : part w t.core ≡ with_stint p stint = ap (part w) core ∙ is in record {
      of_outline = started_still o.lag o.cores (length o.ticks) v w s.core others stands.of_outline;
      core = rw core (core_still v w s.core s.core others stands.core);
      timely = rw (rounds, becomes) (ran_timely o s.rounds count p stint stands.timely (let c = stands.clock in omega (arith, c, less)) seen begins in_round);
      clock = clock ∙ sym (ap (λ (q : Part). q.clock) becomes);
      used = used ∙ (stands.used ∙ sym (ap (λ (q : Part). used_counts q.entries) becomes));
      stints = stints ∙ (ap (λ (ss : List Stint). if nat_lt (length ss) s.keep then ss ++ stint ∷ [] else ss) stands.stints
          ∙ (kept_stints s.keep p.stints stint ∙ sym (ap (λ (k : ℕ). take k (part w t.core).stints) keep ∙ ap (λ (q : Part). take s.keep q.stints) becomes)));
      known = rw (known, becomes) (λ d. stands.known d);
      within = rw clock (within_more s.account t.account stint shared (rw from stands.within) (omega (arith, some)) adds);
    }
