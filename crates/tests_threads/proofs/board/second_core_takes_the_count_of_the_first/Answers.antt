use Rattle.std.proofs.Common.{◌≡◌, ◌/◌, ℕ, Some, true, refl, sym, ap, subst}
use Rattle.std.specs.Prelude.{slice_get}
use Rattle.tab_core.specs.declared.TheConstants.{ROUND}
use Rattle.tab_core.specs.declared.entry.Entry.{Entry}
use Rattle.round_words.specs.declared.view.View.{View}
use Rattle.round_words.specs.Seats.{view_of}
use Rattle.round_words.specs.Views.{controller, entry, holds, last_of, part, posts, sees, with_entry, with_part, without}
use Rattle.round_words.proofs.MaskLemmas.{names_only}
use Rattle.tests_threads.proofs.board.second_core_takes_the_count_of_the_first.Goals as goal

pub part-other-requires-clause-holds : goal.part-other-requires-clause-holds
part-other-requires-clause-holds g c = λ a on.
    subst (λ (b : ℕ). holds (view_of c.start.new.seat) b ≡ true) (sym (names_only 1 a on))
    (ap (λ (v : View). holds v 1) c.start.ensures.view)

-- the view is followed from the start to the post
pub advance-requires-clause-entered : goal.advance-requires-clause-entered
advance-requires-clause-entered g c =
    let seen : ℕ = c.see.result in
    let saw : View → View = λ v. with_part v 0 (sees (part v 0) seen) in
    let decided : View → View = λ v. with_part v 0 (with_entry (part v 0)
    (entry ((part v 0).clock / ROUND) c.decide.result (last_of (part v 0).sights) c.decide.ensures.view.0)) in
    let posted : View → View = λ v. with_part v controller (posts (part v controller) 0) in
    let Has : View → Type 0 = λ v. (x : Entry) × (slice_get (part v 0).entries ((part v 0).clock / ROUND) ≡ Some x) in
    subst Has (sym c.post.ensures.view)
    (subst (λ (v : View). Has (posted v)) (sym c.decide.ensures.view.1)
    (subst (λ (v : View). Has (posted (decided v))) (sym c.see.ensures.view)
    (subst (λ (v : View). Has (posted (decided (saw v)))) (sym c.part-other.ensures.kept)
    (subst (λ (v : View). Has (posted (decided (saw (without 2 v))))) (sym c.start.ensures.view)
    (entry 0 c.decide.result seen c.decide.ensures.view.0, refl)))))
