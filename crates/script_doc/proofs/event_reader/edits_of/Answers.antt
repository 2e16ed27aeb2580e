use Rattle.std.proofs.Common.{◌≡◌, ℕ, List, [], ◌∷◌, ◌++◌, length, Some, None, subst, rules, arith}
use Rattle.std.proofs.lemmas.Grind.{common_steps}
use Rattle.script_doc.specs.Inside.Reading.{IsEdit}
use Rattle.script_doc.proofs.ReadingLemmas.{EditsSoFar, edit_more, edit_unknown, handed_on, no_edit, no_edit_at_all}
use Rattle.script_doc.proofs.event_reader.edits_of.Goals as goal

pub returns-in_err-edit-clause-bad_line : goal.returns-in_err-edit-clause-bad_line
returns-in_err-edit-clause-bad_line c =
    let at : EditsSoFar c.args.names.now c.args.words.now
    (c.in-Some.kind.now ∷ c.next.new.self) c.loop-kind.edits.items c.loop-kind.all_known =
    subst (λ (rest : List (List ℕ)). EditsSoFar c.args.names.now c.args.words.now rest
    c.loop-kind.edits.items c.loop-kind.all_known) c.in-Some.ensures.steps c.loop-kind.invariant
    in
    λ is. no_edit _ _ _ _ _ _ at (c.in_err-edit.ensures.bad_line
    (handed_on c.from_residual.result c.in_err-edit.field-0.0 _ c.from_residual.ensures.1 is))

pub loop-kind-preserved-in-Continue-branch-3 : goal.loop-kind-preserved-in-Continue-branch-3
loop-kind-preserved-in-Continue-branch-3 c =
    let at : EditsSoFar c.args.names.now c.args.words.now
    (c.in-Some.kind.now ∷ c.next.new.self) c.loop-kind.edits.items c.loop-kind.all_known =
    subst (λ (rest : List (List ℕ)). EditsSoFar c.args.names.now c.args.words.now rest
    c.loop-kind.edits.items c.loop-kind.all_known) c.in-Some.ensures.steps c.loop-kind.invariant
    in
    let found : IsEdit c.args.names.now (c.in-Some.kind.now ∷ c.next.new.self) c.edit_of.new.words
    (Some c.in-Some-2.edit) = rw c.in-Some-2.is at c.in_ok-edit.ensures.ok in
    let pushed : c.push.new.self.items ≡ c.loop-kind.edits.items ++ c.in-Some-2.edit ∷ [] =
    grind (arith, common_steps) in
    rw pushed (edit_more _ _ _ _ _ _ _ at found)

pub loop-kind-preserved : goal.loop-kind-preserved
loop-kind-preserved c =
    let at : EditsSoFar c.args.names.now c.args.words.now
    (c.in-Some.kind.now ∷ c.next.new.self) c.loop-kind.edits.items c.loop-kind.all_known =
    subst (λ (rest : List (List ℕ)). EditsSoFar c.args.names.now c.args.words.now rest
    c.loop-kind.edits.items c.loop-kind.all_known) c.in-Some.ensures.steps c.loop-kind.invariant
    in
    let found : IsEdit c.args.names.now
    (c.in-Some.kind.now ∷ c.next.new.self) c.edit_of.new.words None =
    rw c.in-None.is at c.in_ok-edit.ensures.ok in
    edit_unknown _ _ _ _ _ _ at found

pub returns-then-is_empty-clause-bad_line : goal.returns-then-is_empty-clause-bad_line
returns-then-is_empty-clause-bad_line c =
    let no_more : c.loop-kind.words ≡ [] = search rules in
    let at : EditsSoFar c.args.names.now c.args.words.now [] c.loop-kind.edits.items c.loop-kind.all_known =
    subst (λ (rest : List (List ℕ)). EditsSoFar c.args.names.now c.args.words.now rest
    c.loop-kind.edits.items c.loop-kind.all_known) no_more c.loop-kind.invariant in
    let none : length c.loop-kind.edits.items ≡ 0 = grind (arith, common_steps) in
    λ _. no_edit_at_all _ _ _ _ at (search rules) none
