use Rattle.std.proofs.Common.{◌≡◌, ◌≤◌, ◌∙◌, ap, sym, length, List, ℕ, arith, rules}
use Rattle.tab_words.specs.Lines.{lines_of}
use Rattle.section_join.specs.Mended.{first_cut}
use Rattle.section_join.proofs.TurnLemmas.{behind, behind-zero, behind_here, behind_more}
use Rattle.section_join.proofs.mend.first_cut.Goals as goal

pub loop-line-init : goal.loop-line-init
loop-line-init c =
    let lines : c.into_iter-line-iterator.result ≡ lines_of c.args.bytes.now = search rules in
    let few : length c.into_iter-line-iterator.result ≤ length c.args.bytes.now = search rules in
    record { found = rw lines (sym (behind-zero _)); few = omega (arith, few) }

pub returns-then-is_cut : goal.returns-then-is_cut
returns-then-is_cut c =
    sym (c.loop-line.invariant.found
    ∙ (ap (λ (ls : List (List ℕ)). behind c.loop-line.number (first_cut ls)) c.in-Some.ensures.steps
    ∙ behind_here c.next.new.self c.in-Some.line.now c.loop-line.number (sym c.is_cut.ensures ∙ c.if-is_cut.true)))

pub loop-line-preserved : goal.loop-line-preserved
loop-line-preserved c = record {
  found = c.loop-line.invariant.found
      ∙ (ap (λ (ls : List (List ℕ)). behind c.loop-line.number (first_cut ls)) c.in-Some.ensures.steps
      ∙ behind_more c.next.new.self c.in-Some.line.now c.loop-line.number (sym c.is_cut.ensures ∙ c.if-is_cut.false));
  few = omega (arith, ap length c.in-Some.ensures.steps, c.loop-line.invariant.few);
}
