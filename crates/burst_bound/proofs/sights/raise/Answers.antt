use Rattle.std.proofs.Common.{◌≡◌, ℕ, ◌+◌, ◌-◌, ◌<◌, ◌≤◌, inl, inr, max, get_or, Some, refl, ◌∙◌, arith, rules}
use Rattle.std.specs.Prelude.{slice_get}
use Rattle.std.proofs.Math.ListN.{set}
use Rattle.std.proofs.lemmas.Bool.{cases_lt}
use Rattle.std.proofs.lemmas.Bool.Decides.{nat_tests}
use Rattle.std.proofs.lemmas.Grind.{common_steps}
use Rattle.std.proofs.lemmas.List.{length-set}
use Rattle.std.proofs.lemmas.Option.{slice_get_read}
use Rattle.tab_core.specs.declared.stint.Stint.{Stint}
use Rattle.burst_bound.proofs.SightLemmas.{raised_last, raised_more, raised_none, rest_more}
use Rattle.burst_bound.proofs.sights.raise.Goals as goal
use Rattle.burst_bound.proofs.sights.raise.Goals.{then-unseen-gt0, else-unseen-gt0}

pub overflow_cast-event : goal.overflow_cast-event
overflow_cast-event c =
    let size = c.loop-event.invariant.size in
    let few = c.requires.few in
    omega arith

pub loop-event-preserved : goal.loop-event-preserved
loop-event-preserved c =
    let inv = c.loop-event.invariant in
    let stints = c.args.stints.now in
    let first = c.args.sights.now in
    let before = c.loop-event.sights in
    let event = c.loop-event.event in
    let n = c.unseen_from-unseen.result in
    let count = c.unseen_from-unseen.ensures in
    let old = inv.rest event (omega arith) in
    let unseen = λ (k : ℕ) (s : Stint) (lt : k < n) (at : slice_get stints k ≡ Some s).
    (let le = count.unseen k s lt at in later s.seen event le) in
    elim c.if-unseen-gt0.branch [
      | then-unseen-gt0 w ↦
          let last : Stint = w.index-stints-unseen.result in
          let within = count.within in
          let at : slice_get stints (n - 1) ≡ Some last =
          slice_get_read stints _ (n - 1) last refl (omega arith) w.index-stints-unseen.is in
          let new : w.max.result ≡ max (get_or first event 0) last.end =
          grind (arith, nat_tests, common_steps, w.max.ensures, old, w.index-stints-unseen.is) in
          let here = raised_last event n (get_or first event 0) w.max.result stints last c.requires.order count
          w.if-unseen-gt0.true at new in
          let is : c.if-unseen-gt0.sights ≡ set before event w.max.result = search rules in
          rw is (record {
            size = length-set before event w.max.result ∙ inv.size;
            within = count.within;
            unseen = unseen;
            raised = raised_more stints first before event w.max.result (let size = inv.size in omega arith) inv.raised here;
            rest = rest_more first before event w.max.result inv.rest;
          })
      | else-unseen-gt0 w ↦
          let is : c.if-unseen-gt0.sights ≡ before = search rules in
          let here = raised_none event n (get_or first event 0) stints count w.if-unseen-gt0.false in
          rw is (record {
            size = inv.size;
            within = count.within;
            unseen = unseen;
            raised = λ e low. (elim (cases_lt e event) [
              | inl earlier ↦ inv.raised e earlier
              | inr now ↦
                  (let place : e ≡ event = omega arith in
                  rw (place, old) here)
            ]);
            rest = λ e low. inv.rest e (omega arith);
          })
    ]
  where
    later : (a b : ℕ) → a ≤ b → a ≤ b + 1
    later a b le = omega arith
