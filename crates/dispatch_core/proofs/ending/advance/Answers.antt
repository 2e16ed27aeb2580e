use Rattle.std.proofs.Common.{◌≡◌, sym, ap, ◌∙◌}
use Rattle.tab_core.specs.declared.entry.Entry.{Entry}
use Rattle.tab_core.specs.declared.stint.Stint.{Stint}
use Rattle.tab_core.proofs.Alike.{same_stint}
use Rattle.round_words.specs.declared.view.Part.{Part}
use Rattle.round_words.specs.declared.view.View.{View}
use Rattle.round_words.specs.Views.{part, with_stint}
use Rattle.round_words.specs.Seats.{view_of}
use Rattle.round_words.proofs.ListLemmas.{some_same}
use Rattle.round_words.proofs.ChangesLemmas.{part_with}
use Rattle.dispatch_core.proofs.ending.advance.Goals as goal

pub returns-clause-becomes : goal.returns-clause-becomes
returns-clause-becomes c =
    let v : View = view_of c.args.seat.now in
    let p : Part = part v c.args.core in
    let told = c.advance.ensures.view in
    let s : Stint = told.0 in
    let next = told.1 in
    let t : Stint = c.args.stint.now in
    let is = c.requires.begins in
    let one : next.entry ≡ is.entry = some_same next.entry is.entry (sym next.entered ∙ is.entered) in
    let same : s ≡ t = same_stint s t (next.from ∙ sym is.from) next.end (next.seen ∙ sym is.seen)
    (next.used ∙ (ap (λ (e : Entry). e.used) one ∙ sym is.used)) next.ran in
    part_with v _ c.args.core _ c.requires.core.0.1 told.2 ∙ ap (with_stint p) same
