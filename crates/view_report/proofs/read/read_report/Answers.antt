use Rattle.std.proofs.Common.{◌≡◌, ◌∷◌, ◌∙◌, false, nat_lt, refl, subst, sym, arith, rules}
use Rattle.std.proofs.lemmas.Bool.Decides.{nat_tests}
use Rattle.tab_words.specs.Lines.{lines_of}
use Rattle.tab_words.specs.Words.{words_of}
use Rattle.view_report.specs.Lines.{begins_run}
use Rattle.view_report.proofs.ReadLemmas.{AreLinesRead, line_passed, line_read, no_line_read}
use Rattle.view_report.proofs.read.read_report.Goals as goal

pub loop-line-init : goal.loop-line-init
loop-line-init c =
    let lines : c.into_iter-line-iterator.result ≡ lines_of c.args.bytes.now = search rules in
    rw lines (no_line_read c.args.bytes.now 0 c.begin-reader.result refl c.begin-reader.ensures)

pub loop-line-preserved-in-loop-line : goal.loop-line-preserved-in-loop-line
loop-line-preserved-in-loop-line c =
    let at : AreLinesRead c.args.bytes.now c.loop-line.number c.loop-line.reader (c.in-Some.line.now ∷ c.next.new.self) =
    subst (AreLinesRead c.args.bytes.now c.loop-line.number c.loop-line.reader) c.in-Some.ensures.steps
    c.loop-line.invariant in
    line_read _ _ _ _ _ _ _ at c.in-Some-said_of.ensures (c.in_ok-take.ensures.taken c.if-not-branch.false)
    (c.in_ok-take.ensures.more c.if-not-branch.false)

pub loop-line-preserved : goal.loop-line-preserved
loop-line-preserved c =
    let at : AreLinesRead c.args.bytes.now c.loop-line.number c.loop-line.reader (c.in-Some.line.now ∷ c.next.new.self) =
    subst (AreLinesRead c.args.bytes.now c.loop-line.number c.loop-line.reader) c.in-Some.ensures.steps
    c.loop-line.invariant in
    let test : nat_lt 0 c.loop-line.reader.place ≡ false = sym c.has_begun.ensures ∙ c.if-has_begun.false in
    let none : c.loop-line.reader.place ≡ 0 = grind (arith, nat_tests, test) in
    let no_run : begins_run (words_of c.in-Some.line.now) ≡ false = sym c.begins_run.ensures ∙ c.if-begins_run.false in
    line_passed _ _ _ _ _ at none no_run
