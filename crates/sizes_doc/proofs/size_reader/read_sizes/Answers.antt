use Rattle.std.proofs.Common.{◌≡◌, [], ◌∷◌, ◌++◌, inr, true, false, rules, subst, arith}
use Rattle.std.proofs.lemmas.Grind.{common_steps}
use Rattle.script_doc.specs.Statements.{is_skipped}
use Rattle.sizes_doc.proofs.SizeLemmas.{AreRead, all_read, bad_line, more_read, skipped_read}
use Rattle.sizes_doc.proofs.size_reader.read_sizes.Goals as goal

pub loop-line-preserved-in-Continue-1 : goal.loop-line-preserved-in-Continue-1
loop-line-preserved-in-Continue-1 c =
    let at : AreRead c.args.bytes.now c.loop-line.number c.loop-line.sizes.items
    (c.in-Some.line.now ∷ c.next.new.self) =
    subst (AreRead c.args.bytes.now c.loop-line.number c.loop-line.sizes.items) c.in-Some.ensures.steps
    c.loop-line.invariant in
    let kept : is_skipped c.in-Some.line.now ≡ false = search rules in
    let pushed : c.push.new.self.items ≡ c.loop-line.sizes.items ++ c.in-Ok.size ∷ [] =
    grind (arith, common_steps) in
    rw pushed (more_read _ _ _ _ _ _ at kept c.in-Ok.ensures.number c.in-Ok.ensures.ok)

pub returns-in-Err-clause-fault : goal.returns-in-Err-clause-fault
returns-in-Err-clause-fault c =
    let at : AreRead c.args.bytes.now c.loop-line.number c.loop-line.sizes.items
    (c.in-Some.line.now ∷ c.next.new.self) =
    subst (AreRead c.args.bytes.now c.loop-line.number c.loop-line.sizes.items) c.in-Some.ensures.steps
    c.loop-line.invariant in
    let kept : is_skipped c.in-Some.line.now ≡ false = search rules in
    inr (bad_line _ _ _ _ _ _ at kept c.in-Err.ensures.part)

pub loop-line-preserved : goal.loop-line-preserved
loop-line-preserved c =
    let at : AreRead c.args.bytes.now c.loop-line.number c.loop-line.sizes.items
    (c.in-Some.line.now ∷ c.next.new.self) =
    subst (AreRead c.args.bytes.now c.loop-line.number c.loop-line.sizes.items) c.in-Some.ensures.steps
    c.loop-line.invariant in
    let skipped : is_skipped c.in-Some.line.now ≡ true = search rules in
    skipped_read _ _ _ _ _ at skipped

pub returns-clause-ok : goal.returns-clause-ok
returns-clause-ok c =
    let at : AreRead c.args.bytes.now c.loop-line.number c.loop-line.sizes.items [] =
    subst (AreRead c.args.bytes.now c.loop-line.number c.loop-line.sizes.items) c.in-None.ensures.steps.0
    c.loop-line.invariant in
    all_read _ _ _ at
