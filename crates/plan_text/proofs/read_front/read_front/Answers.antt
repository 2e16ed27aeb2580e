use Rattle.std.proofs.Common.{◌≡◌, [], ◌∷◌, map, count_by, IsTrue, Err, sym, ap, ◌∙◌, arith, rules}
use Rattle.std.proofs.lemmas.List.{length-map}
use Rattle.std.proofs.lemmas.Result.{err_from_is_err_and}
use Rattle.tab_words.specs.Lines.{lines_of}
use Rattle.tab_words.specs.Words.{words_of}
use Rattle.tab_words.specs.Texts.{worded}
use Rattle.plan_text.specs.PlanLines.{head_words, is_admitted}
use Rattle.vcpu_names.specs.Names.{names_of}
use Rattle.plan_text.specs.declared.read_fault.ReadPlan.TheVariants.{BadLine}
use Rattle.plan_text.proofs.ReadingHeadLemmas.{bad_in_text, few_behind, head_is_bad}
use Rattle.plan_text.proofs.RowReaderLemmas.{front_read}
use Rattle.plan_text.proofs.read_front.read_front.Goals as goal

pub returns-in_default-clause-bad_line : goal.returns-in_default-clause-bad_line
returns-in_default-clause-bad_line c = λ bad is.
    let none : lines_of c.args.bytes.now ≡ [] = search rules in
    let one : bad ≡ 1 = cc in
    rw one (head_is_bad (names_of c.args.host.now.vcpus) c.args.tasks.now c.args.host.now.cores
    (worded c.args.bytes.now) c.args.host.now.some_core
    (λ rest at. absurd (let no : [] ≡ head_words c.args.host.now.cores
    (count_by is_admitted c.args.tasks.now) ∷ rest = sym (ap (map words_of) none) ∙ at in cc)))

pub returns-then-not-is_head-clause-bad_line : goal.returns-then-not-is_head-clause-bad_line
returns-then-not-is_head-clause-bad_line c = λ bad is.
    let lines : lines_of c.args.bytes.now ≡ c.in-Some.head.now ∷ lines_of c.in-Some.behind.now =
    search rules in
    let one : bad ≡ 1 = cc in
    let other : words_of c.in-Some.head.now ≡ head_words c.args.host.now.cores
    (count_by is_admitted c.args.tasks.now) → ⊥ =
    λ same. (let no : IsTrue c.is_head.result =
    c.is_head.ensures.1 (same ∙ ap (λ ts. head_words c.args.host.now.cores (count_by is_admitted ts))
    (sym c.items.ensures.same)) in absurd (search rules)) in
    rw one (head_is_bad (names_of c.args.host.now.vcpus) c.args.tasks.now c.args.host.now.cores
    (worded c.args.bytes.now) c.args.host.now.some_core
    (λ rest at. other (let first : words_of c.in-Some.head.now ∷ map words_of (lines_of c.in-Some.behind.now)
    ≡ head_words c.args.host.now.cores (count_by is_admitted c.args.tasks.now) ∷ rest =
    sym (ap (map words_of) lines) ∙ at in cc)))

pub from-left-requires : goal.from-left-requires
from-left-requires c =
    let lines : lines_of c.args.bytes.now ≡ c.in-Some.head.now ∷ lines_of c.in-Some.behind.now =
    search rules in
    let words : words_of c.in-Some.head.now ≡ head_words c.args.host.now.cores
    (count_by is_admitted c.items.result.now) = search rules in
    let few = few_behind c.args.bytes.now c.in-Some.head.now (lines_of c.in-Some.behind.now) _ _ lines words in
    record {
      few = omega (arith, few, length-map (lines_of c.in-Some.behind.now) words_of, c.requires.short);
    }

pub returns-in_err-homes-clause-bad_line : goal.returns-in_err-homes-clause-bad_line
returns-in_err-homes-clause-bad_line c = λ bad is.
    let p = err_from_is_err_and c.from_residual.result c.from_residual.ensures.1 in
    let same : c.in_err-homes.field-0.0 ≡ BadLine bad = cc in
    let lines : lines_of c.args.bytes.now ≡ c.in-Some.head.now ∷ lines_of c.in-Some.behind.now =
    search rules in
    let words : words_of c.in-Some.head.now ≡ head_words c.args.host.now.cores
    (count_by is_admitted c.items.result.now) = search rules in
    bad_in_text (names_of c.args.host.now.vcpus) _ c.args.tasks.now _ _ _ _ _ _ _ _ bad
    (ap names_of c.items-2.ensures.same) c.items-3.ensures.same
    c.items.ensures.same lines words c.from-left.ensures.lines c.from-left.ensures.number
    (c.in_err-homes.ensures.bad_line bad (ap Err same))

pub returns-clause-ok : goal.returns-clause-ok
returns-clause-ok c =
    let lines : lines_of c.args.bytes.now ≡ c.in-Some.head.now ∷ lines_of c.in-Some.behind.now =
    search rules in
    let words : words_of c.in-Some.head.now ≡ head_words c.args.host.now.cores
    (count_by is_admitted c.items.result.now) = search rules in
    front_read (names_of c.args.host.now.vcpus) _ c.args.tasks.now _ _ _ _ _ _ _ _ _ c.read_vcpus.new.left
    (ap names_of c.items-2.ensures.same) c.items-3.ensures.same c.items.ensures.same lines words
    c.from-left.ensures.lines c.from-left.ensures.number c.in_ok-homes.ensures.housed c.in_ok-homes.ensures.lines
    c.in_ok-homes.ensures.behind
