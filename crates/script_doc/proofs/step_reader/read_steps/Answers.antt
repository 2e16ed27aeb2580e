use Rattle.std.proofs.Common.{rules, subst, ℕ, ap, inl, Ok, Err, ◌≡◌, ◌+◌, ◌∷◌, [], ◌++◌, true, false, arith}
use Rattle.std.proofs.lemmas.Grind.{common_steps}
use Rattle.tab_words.specs.Words.{words_of}
use Rattle.script_doc.specs.Statements.{is_skipped, statements_of}
use Rattle.script_doc.specs.Steps.{AreSteps, IsFirstBadLine, IsNoStep}
use Rattle.script_doc.specs.declared.step_reader.StepsFault.TheVariants.{BadLine}
use Rattle.script_doc.proofs.OneStepList.{bad_or_steps, one_bad_line, one_step_list, same_step_list}
use Rattle.script_doc.proofs.StepsLemmas.{AreRead, all_read, bad_line, more_read, skipped_read}
use Rattle.script_doc.proofs.step_reader.read_steps.Goals as goal

pub returns-in_default-clause-bad_line : goal.returns-in_default-clause-bad_line
returns-in_default-clause-bad_line c =
    let at : AreRead c.args.cores c.args.bytes.now c.loop-line.number c.loop-line.steps.items
    c.loop-line.numbers.items (c.in-Some.line.now ∷ c.next.new.self) =
    subst (AreRead c.args.cores c.args.bytes.now c.loop-line.number c.loop-line.steps.items
    c.loop-line.numbers.items) c.in-Some.ensures.steps c.loop-line.invariant in
    let kept : is_skipped c.in-Some.line.now ≡ false = search rules in
    let none : IsNoStep c.args.cores (words_of c.in-Some.line.now) = c.in_default.ensures in
    let bad : IsFirstBadLine c.args.cores (statements_of c.args.bytes.now) (c.loop-line.number + 1) =
    bad_line _ _ _ _ _ _ _ at kept none in
    λ line is. let same : line ≡ c.loop-line.number + 1 = cc in rw same bad

pub loop-line-preserved-in-Continue-branch-2 : goal.loop-line-preserved-in-Continue-branch-2
loop-line-preserved-in-Continue-branch-2 c =
    let at : AreRead c.args.cores c.args.bytes.now c.loop-line.number c.loop-line.steps.items
    c.loop-line.numbers.items (c.in-Some.line.now ∷ c.next.new.self) =
    subst (AreRead c.args.cores c.args.bytes.now c.loop-line.number c.loop-line.steps.items
    c.loop-line.numbers.items) c.in-Some.ensures.steps c.loop-line.invariant in
    let kept : is_skipped c.in-Some.line.now ≡ false = search rules in
    let more : AreRead c.args.cores c.args.bytes.now (c.loop-line.number + 1)
    (c.loop-line.steps.items ++ c.in-Some-step_of.step ∷ [])
    (c.loop-line.numbers.items ++ (c.loop-line.number + 1) ∷ []) c.next.new.self =
    more_read _ _ _ _ _ _ _ _ at kept c.in-Some-step_of.ensures in
    let steps : c.push.new.self.items ≡ c.loop-line.steps.items ++ c.in-Some-step_of.step ∷ [] =
    grind (arith, common_steps) in
    let numbers : c.push-then-not-is_skipped.new.self.items
    ≡ c.loop-line.numbers.items ++ (c.loop-line.number + 1) ∷ [] =
    grind (arith, common_steps) in
    rw (steps, numbers) more

pub loop-line-preserved : goal.loop-line-preserved
loop-line-preserved c =
    let at : AreRead c.args.cores c.args.bytes.now c.loop-line.number c.loop-line.steps.items
    c.loop-line.numbers.items (c.in-Some.line.now ∷ c.next.new.self) =
    subst (AreRead c.args.cores c.args.bytes.now c.loop-line.number c.loop-line.steps.items
    c.loop-line.numbers.items) c.in-Some.ensures.steps c.loop-line.invariant in
    let skipped : is_skipped c.in-Some.line.now ≡ true = search rules in
    skipped_read _ _ _ _ _ _ _ at skipped

pub returns-clause-ok : goal.returns-clause-ok
returns-clause-ok c =
    let at : AreRead c.args.cores c.args.bytes.now c.loop-line.number c.loop-line.steps.items
    c.loop-line.numbers.items [] =
    subst (AreRead c.args.cores c.args.bytes.now c.loop-line.number c.loop-line.steps.items
    c.loop-line.numbers.items) c.in-None.ensures.steps.0 c.loop-line.invariant in
    rw (c.of.ensures, c.of-2.ensures) (all_read _ _ _ _ _ at)

pub returns-clause-read : goal.returns-clause-read
returns-clause-read c list are =
    let at : AreRead c.args.cores c.args.bytes.now c.loop-line.number c.loop-line.steps.items
    c.loop-line.numbers.items [] =
    subst (AreRead c.args.cores c.args.bytes.now c.loop-line.number c.loop-line.steps.items
    c.loop-line.numbers.items) c.in-None.ensures.steps.0 c.loop-line.invariant in
    let ok : AreSteps c.args.cores (statements_of c.args.bytes.now) c.of.result c.of-2.result =
    rw (c.of.ensures, c.of-2.ensures) (all_read _ _ _ _ _ at) in
    let same = one_step_list _ _ _ list.steps _ list.lines c.requires.few_cores ok are in
    inl (ap Ok (same_step_list _ list same.0 same.1))

pub returns-clause-due : goal.returns-clause-due
returns-clause-due c line first =
    let at : AreRead c.args.cores c.args.bytes.now c.loop-line.number c.loop-line.steps.items
    c.loop-line.numbers.items [] =
    subst (AreRead c.args.cores c.args.bytes.now c.loop-line.number c.loop-line.steps.items
    c.loop-line.numbers.items) c.in-None.ensures.steps.0 c.loop-line.invariant in
    let ok : AreSteps c.args.cores (statements_of c.args.bytes.now) c.of.result c.of-2.result =
    rw (c.of.ensures, c.of-2.ensures) (all_read _ _ _ _ _ at) in
    absurd (bad_or_steps _ _ line _ _ first ok)

pub returns-in_default-clause-read : goal.returns-in_default-clause-read
returns-in_default-clause-read c list are =
    let at : AreRead c.args.cores c.args.bytes.now c.loop-line.number c.loop-line.steps.items
    c.loop-line.numbers.items (c.in-Some.line.now ∷ c.next.new.self) =
    subst (AreRead c.args.cores c.args.bytes.now c.loop-line.number c.loop-line.steps.items
    c.loop-line.numbers.items) c.in-Some.ensures.steps c.loop-line.invariant in
    let kept : is_skipped c.in-Some.line.now ≡ false = search rules in
    let none : IsNoStep c.args.cores (words_of c.in-Some.line.now) = c.in_default.ensures in
    let bad : IsFirstBadLine c.args.cores (statements_of c.args.bytes.now) (c.loop-line.number + 1) =
    bad_line _ _ _ _ _ _ _ at kept none in
    absurd (bad_or_steps _ _ _ list.steps list.lines bad are)

pub returns-in_default-clause-due : goal.returns-in_default-clause-due
returns-in_default-clause-due c line first =
    let at : AreRead c.args.cores c.args.bytes.now c.loop-line.number c.loop-line.steps.items
    c.loop-line.numbers.items (c.in-Some.line.now ∷ c.next.new.self) =
    subst (AreRead c.args.cores c.args.bytes.now c.loop-line.number c.loop-line.steps.items
    c.loop-line.numbers.items) c.in-Some.ensures.steps c.loop-line.invariant in
    let kept : is_skipped c.in-Some.line.now ≡ false = search rules in
    let none : IsNoStep c.args.cores (words_of c.in-Some.line.now) = c.in_default.ensures in
    let bad : IsFirstBadLine c.args.cores (statements_of c.args.bytes.now) (c.loop-line.number + 1) =
    bad_line _ _ _ _ _ _ _ at kept none in
    inl (ap (λ (n : ℕ). Err (BadLine n)) (one_bad_line _ _ _ line bad first))
