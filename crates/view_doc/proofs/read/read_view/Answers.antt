use Rattle.std.proofs.Common.{◌≡◌, ◌∷◌, refl, subst, rules}
use Rattle.tab_words.specs.Lines.{lines_of}
use Rattle.view_doc.specs.Inside.Reading.{IsLineTaken}
use Rattle.view_doc.proofs.ReadLemmas.{AreRead, more_read, none_read}
use Rattle.tab_words.specs.Words.{words_of}
use Rattle.view_doc.proofs.read.read_view.Goals as goal

pub loop-line-init : goal.loop-line-init
loop-line-init c =
    let lines : c.into_iter-line-iterator.result ≡ lines_of c.args.bytes.now = search rules in
    rw lines (none_read c.args.bytes.now 0 c.in_ok-reader.reader refl c.in_ok-reader.ensures)

pub loop-line-preserved : goal.loop-line-preserved
loop-line-preserved c =
    let at : AreRead c.args.bytes.now c.loop-line.number c.loop-line.reader (c.in-Some.line.now ∷ c.next.new.self) =
    subst (AreRead c.args.bytes.now c.loop-line.number c.loop-line.reader) c.in-Some.ensures.steps
    c.loop-line.invariant in
    let line : IsLineTaken (words_of c.in-Some.line.now) c.loop-line.reader c.take_line.new.self =
    c.in_ok-take_line.ensures.taken c.if-not-branch.false in
    more_read _ _ _ _ _ _ _ at line.says line.taken
