use Rattle.std.proofs.Common.{◌≡◌, ◌∷◌, false, refl, rules, subst}
use Rattle.tab_words.specs.Lines.{lines_of}
use Rattle.host_trace.specs.TraceLines.{is_passed_over}
use Rattle.view_trace.proofs.ReadLemmas.{AreRead, breaks, kept_read, none_read, passed_read}
use Rattle.view_trace.proofs.lines.read_lines.Goals as goal

pub loop-line-init : goal.loop-line-init
loop-line-init c =
    let lines : c.into_iter-line-iterator.result ≡ lines_of c.args.bytes.now = search rules in
    rw lines (none_read c.args.bytes.now c.begin-reading.result c.begin-reading.ensures)

pub loop-line-preserved-then-is_passed_over : goal.loop-line-preserved-then-is_passed_over
loop-line-preserved-then-is_passed_over c =
    let at : AreRead c.args.bytes.now c.loop-line.number c.loop-line.reading (c.in-Some.line.now ∷ c.next.new.self) =
    subst (AreRead c.args.bytes.now c.loop-line.number c.loop-line.reading) c.in-Some.ensures.steps
    c.loop-line.invariant in
    passed_read _ _ _ _ _ _ at refl (search rules)

pub loop-line-preserved : goal.loop-line-preserved
loop-line-preserved c =
    let at : AreRead c.args.bytes.now c.loop-line.number c.loop-line.reading (c.in-Some.line.now ∷ c.next.new.self) =
    subst (AreRead c.args.bytes.now c.loop-line.number c.loop-line.reading) c.in-Some.ensures.steps
    c.loop-line.invariant in
    let kept : is_passed_over c.in-Some.line.now ≡ false = search rules in
    kept_read _ _ _ _ _ _ _ at refl kept (search rules)

pub returns-in-Err-clause-fault : goal.returns-in-Err-clause-fault
returns-in-Err-clause-fault c =
    let at : AreRead c.args.bytes.now c.loop-line.number c.loop-line.reading (c.in-Some.line.now ∷ c.next.new.self) =
    subst (AreRead c.args.bytes.now c.loop-line.number c.loop-line.reading) c.in-Some.ensures.steps
    c.loop-line.invariant in
    let kept : is_passed_over c.in-Some.line.now ≡ false = search rules in
    breaks _ _ _ _ _ _ _ at refl kept (search rules)
