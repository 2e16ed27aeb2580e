use Rattle.std.proofs.Common.{◌≡◌, ◌∷◌, MatchOption, Option, Some, None, codes, arith, rules}
use Rattle.std.proofs.lemmas.Grind.{common_steps}
use Rattle.tab_words.specs.Words.{words_of}
use Rattle.tab_words.specs.Texts.{Line}
use Rattle.view_doc.specs.Inside.Statements.{SaysNoPlain, told_by}
use Rattle.view_doc.specs.Lines.{Says}
use Rattle.view_doc.specs.declared.statement.Statement.{Statement}
use Rattle.view_doc.proofs.LineLemmas.{IsAnswer, NoHead, NoPosted, NoTask, no_head, no_posted, no_task, nothing_said}
use Rattle.view_doc.proofs.line.plain_of.Goals as goal

-- an answer for all words is one for these
of_these : (none : Type 0) (words : Line) (answer : Option Statement) → IsAnswer none words answer
    → MatchOption answer none (λ s. Says words (told_by words s))
of_these none words None is = is
of_these none words (Some s) is = is words

pub returns-then-eq-2 : goal.returns-then-eq-2
returns-then-eq-2 c =
    let word : c.in_ok-first.first.now ≡ codes "vcpu" = search rules in
    let is : words_of c.args.line.now ≡ c.in_ok-first.first.now ∷ c.next.new.self = grind (arith, common_steps) in
    let words = codes "vcpu" ∷ c.next.new.self in
    rw (is, word) (of_these (SaysNoPlain words) words c.behind_vcpu.result
    (nothing_said (NoTask c.next.new.self) words c.behind_vcpu.result (no_task c.next.new.self)
    c.behind_vcpu.ensures))

pub returns-then-eq-3 : goal.returns-then-eq-3
returns-then-eq-3 c =
    let word : c.in_ok-first.first.now ≡ codes "plan" = search rules in
    let is : words_of c.args.line.now ≡ c.in_ok-first.first.now ∷ c.next.new.self = grind (arith, common_steps) in
    let words = codes "plan" ∷ c.next.new.self in
    rw (is, word) (of_these (SaysNoPlain words) words c.behind_plan.result
    (nothing_said (NoHead c.next.new.self) words c.behind_plan.result (no_head c.next.new.self)
    c.behind_plan.ensures))

pub returns-then-eq-4 : goal.returns-then-eq-4
returns-then-eq-4 c =
    let word : c.in_ok-first.first.now ≡ codes "posted" = search rules in
    let is : words_of c.args.line.now ≡ c.in_ok-first.first.now ∷ c.next.new.self = grind (arith, common_steps) in
    let words = codes "posted" ∷ c.next.new.self in
    rw (is, word) (of_these (SaysNoPlain words) words c.behind_posted.result
    (nothing_said (NoPosted c.next.new.self) words c.behind_posted.result (no_posted c.next.new.self)
    c.behind_posted.ensures))
