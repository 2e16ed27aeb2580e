use Rattle.std.proofs.Common.{◌≡◌, ◌+◌, List, ap, subst, sym, ◌∙◌, arith}
use Rattle.std.specs.Prelude.{slice_get, slice_index}
use Rattle.slice_table.specs.declared.full_span.FullSpan.{FullSpan}
use Rattle.slice_table.specs.Inside.Spans.{AreEnds}
use Rattle.slice_table.specs.Slices.{HoldsTick, ends_of}
use Rattle.slice_table.proofs.EndsLemmas.{held_after}
use Rattle.slice_table.proofs.TableLemmas.{held_of, span_of_table}
use Rattle.slice_table.proofs.slice_table.SliceTable.numbered.Goals as goal

pub returns-clause-after : goal.returns-clause-after
returns-clause-after c =
    let held = held_of c.args.self.now c.args.number c.args.tick
    c.requires in
    let read = c.span.ensures held.span
    (ap (λ (spans : List FullSpan). slice_get spans c.args.number) c.self.view_is ∙ held.at) in
    let end = read.2 in
    let after = held.after in
    omega arith

pub returns-clause-within : goal.returns-clause-within
returns-clause-within c =
    let number = c.args.number in
    let holds = subst (λ (spans : List FullSpan). HoldsTick (ends_of spans) number c.args.tick)
    (sym c.self.view_is) c.requires in
    let held = held_of c.self.inside.spans number c.args.tick holds in
    let read = c.span.ensures held.span held.at in
    let within = c.self.invariant.are_ends.within number holds.there in
    let end = held.end in
    let same = read.2 in
    omega arith

pub returns-clause-small : goal.returns-clause-small
returns-clause-small c =
    let are = subst (λ (spans : List FullSpan). AreEnds (ends_of spans)) c.self.view_is c.self.invariant.are_ends in
    omega (arith, c.requires.there, are.few)

pub returns-clause-later : goal.returns-clause-later
returns-clause-later c = λ t low less.
    let held = held_of c.args.self.now c.args.number c.args.tick c.requires in
    let read = c.span.ensures held.span
    (ap (λ (spans : List FullSpan). slice_get spans c.args.number) c.self.view_is ∙ held.at) in
    record {
      there = c.requires.there;
      from = omega (arith, c.requires.from, low);
      before = omega (arith, less, read.2, held.end);
    }

pub returns-clause-next : goal.returns-clause-next
returns-clause-next c = λ less.
    let number = c.args.number in
    let ends = ends_of c.args.self.now in
    let held = held_of c.args.self.now number c.args.tick c.requires in
    let read = c.span.ensures held.span
    (ap (λ (spans : List FullSpan). slice_get spans number) c.self.view_is ∙ held.at) in
    let end : slice_index ends number ≡ c.span.result.end = held.end ∙ sym read.2 in
    let are = subst (λ (spans : List FullSpan). AreEnds (ends_of spans)) c.self.view_is c.self.invariant.are_ends in
    subst (HoldsTick ends (number + 1)) end (held_after ends number c.args.tick are c.requires (omega (arith, less, end)))

pub returns-clause-span : goal.returns-clause-span
returns-clause-span c = λ plan core is.
    let held = held_of c.args.self.now c.args.number c.args.tick
    c.requires in
    let read = c.span.ensures held.span
    (ap (λ (spans : List FullSpan). slice_get spans c.args.number) c.self.view_is ∙ held.at) in
    span_of_table plan core c.args.tick held.span c.span.result.owner c.span.result.sharers.now
    c.span.result.end
    (held.shows plan core is) read.0 read.1 read.2
