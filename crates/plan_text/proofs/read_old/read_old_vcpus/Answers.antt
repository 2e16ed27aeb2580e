use Rattle.std.proofs.Common.{◌≡◌, [], ◌∷◌, map, IsTrue, sym, ap, ◌∙◌, subst, arith, rules}
use Rattle.std.proofs.lemmas.List.{length-map}
use Rattle.tab_words.specs.Lines.{lines_of}
use Rattle.tab_words.specs.Words.{words_of}
use Rattle.tab_words.specs.Texts.{worded}
use Rattle.plan_text.specs.FirstBad.{IsFirstBadFor}
use Rattle.plan_text.specs.Inside.OldReading.{AreSomeOldVcpus}
use Rattle.plan_text.specs.OldText.{IsOldHead}
use Rattle.plan_text.proofs.OldReadingLemmas.{bad_behind_old_head, old_head_is_bad}
use Rattle.plan_text.proofs.ReadingHeadLemmas.{few_behind}
use Rattle.plan_text.proofs.read_old.read_old_vcpus.Goals as goal

pub returns-in_default-clause-bad_line : goal.returns-in_default-clause-bad_line
returns-in_default-clause-bad_line c = λ bad is.
    let none : lines_of c.args.bytes.now ≡ [] = search rules in
    let one : bad ≡ 1 = cc in
    rw one (old_head_is_bad (worded c.args.bytes.now)
    (λ line rest at head. absurd (let no : [] ≡ line ∷ rest = sym (ap (map words_of) none) ∙ at in cc)))

pub returns-then-not-is_old_head-clause-bad_line : goal.returns-then-not-is_old_head-clause-bad_line
returns-then-not-is_old_head-clause-bad_line c = λ bad is.
    let lines : lines_of c.args.bytes.now ≡ c.in-Some.head.now ∷ lines_of c.in-Some.behind.now =
    search rules in
    let one : bad ≡ 1 = cc in
    rw one (old_head_is_bad (worded c.args.bytes.now) (λ line rest at head.
    let first : words_of c.in-Some.head.now ∷ map words_of (lines_of c.in-Some.behind.now) ≡ line ∷ rest =
    sym (ap (map words_of) lines) ∙ at in
    let same : line ≡ words_of c.in-Some.head.now = cc in
    let no : IsTrue c.is_old_head.result = c.is_old_head.ensures.1 (subst IsOldHead same head) in
    absurd (search rules)))

pub from-requires : goal.from-requires
from-requires c =
    let lines : lines_of c.args.bytes.now ≡ c.in-Some.head.now ∷ lines_of c.in-Some.behind.now =
    search rules in
    let head : IsOldHead (words_of c.in-Some.head.now) = c.is_old_head.ensures.0 (search rules) in
    let few = few_behind c.args.bytes.now c.in-Some.head.now (lines_of c.in-Some.behind.now) _ _ lines head.words in
    record {
      few = omega (arith, few, length-map (lines_of c.in-Some.behind.now) words_of, c.requires.short);
    }

pub returns-clause-bad_line : goal.returns-clause-bad_line
returns-clause-bad_line c = λ bad is.
    let lines : lines_of c.args.bytes.now ≡ c.in-Some.head.now ∷ lines_of c.in-Some.behind.now =
    search rules in
    let head : IsOldHead (words_of c.in-Some.head.now) = c.is_old_head.ensures.0 (search rules) in
    let behind : IsFirstBadFor AreSomeOldVcpus 2 (worded c.in-Some.behind.now) bad =
    rw (← c.from.ensures.lines) (rw (← c.from.ensures.number) (c.read_behind_head.ensures.bad_line bad is)) in
    bad_behind_old_head bad (words_of c.in-Some.head.now) (worded c.args.bytes.now)
    (worded c.in-Some.behind.now) head (ap (map words_of) lines) behind
