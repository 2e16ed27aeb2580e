use Rattle.std.proofs.Common.{◌≡◌, ◌<◌, true, refl, sym, subst, ◌∙◌}
use Rattle.round_words.specs.declared.view.View.{View}
use Rattle.round_words.specs.Seats.{view_of}
use Rattle.round_words.specs.Shown.{HoldsCore}
use Rattle.round_words.specs.Views.{controller, holds, new_part, part}
use Rattle.round_words.proofs.ViewsLemmas.{only_named, without_others}
use Rattle.tests_threads.proofs.board.enter_both.Goals as goal

-- what each thread's seat has to show
abbrev Leads : View → Type 0
Leads v = (v.started ≡ true) × HoldsCore v 0 × (part v 0 ≡ new_part) × (holds v controller ≡ true)
    × (part v controller ≡ new_part) × (0 < v.events)

abbrev Follows : View → Type 0
Follows v = (v.started ≡ true) × HoldsCore v 1 × (part v 1 ≡ new_part)

pub join-seat-requires-after_bounds : goal.join-seat-requires-after_bounds
join-seat-requires-after_bounds g c κs within =
    let v : View = view_of c.args.seat in
    let a = without_others 2 v 0 refl in
    let b = only_named 2 v 1 refl in
    let d = without_others 2 v controller refl in
    let r = c.requires in
    let leads : Leads (view_of c.part-other.new.seat) = subst Leads (sym c.part-other.ensures.kept) (
      r.started,
      (r.first.0.0, a.0 ∙ r.first.0.1),
      a.1 ∙ r.first.1,
      d.0 ∙ r.controller.0,
      d.1 ∙ r.controller.1,
      r.controller.2,
    ) in
    let follows : Follows (view_of c.part-other.result) = subst Follows (sym c.part-other.ensures.given)
    (r.started, (r.second.0.0, b.0 ∙ r.second.0.1), b.1 ∙ r.second.1) in (
      (c.part-other.ensures.board.0, leads.0, leads.1, leads.2, leads.3, leads.4, leads.5),
      (c.part-other.ensures.board.1, follows.0, follows.1, follows.2),
    )
