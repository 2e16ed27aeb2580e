use Rattle.std.proofs.Common.{◌≡◌, ◌⊎◌, ◌∙◌, ℕ, List, Ok, Err, ap, sym, length, subst, rules}
use Rattle.std.proofs.lemmas.List.{length-map}
use Rattle.tab_core.specs.declared.vcpu.Vcpu.{Vcpu}
use Rattle.tab_words.specs.Texts.{worded}
use Rattle.table_form.specs.declared.raw_tables.RawTables.{RawTables}
use Rattle.plan_text.specs.FirstBad.{IsFirstBadFor}
use Rattle.plan_text.specs.Names.{AreHostNames}
use Rattle.plan_text.specs.Meaning.{IsPlanText, IsSomePlan}
use Rattle.vcpu_names.specs.Names.{names_of}
use Rattle.plan_text.specs.declared.read_fault.ReadPlan.TheVariants.{BadLine, NoMemory}
use Rattle.plan_text.proofs.ReadingHeadLemmas.{host_names, read_is_due, refusal_is_due}
use Rattle.plan_text.proofs.read.read_plan.Goals as goal

pub read_text-requires-clause-good : goal.read_text-requires-clause-good
read_text-requires-clause-good c =
    let own : c.in_ok-names.names ≡ names_of c.args.host.now.vcpus = search rules in
    host_names c.args.host.now.vcpus c.in_ok-names.names own c.in_ok-names.ensures.good
    c.items.ensures.distinct

pub returns-clause-read : goal.returns-clause-read
returns-clause-read c =
    let own : c.in_ok-names.names ≡ names_of c.args.host.now.vcpus = search rules in
    let good : AreHostNames c.in_ok-names.names =
    host_names c.args.host.now.vcpus c.in_ok-names.names own c.in_ok-names.ensures.good
    c.items.ensures.distinct in
    let many : length c.in_ok-names.names ≡ length c.args.tasks.now =
    ap length own ∙ (length-map c.args.host.now.vcpus (λ (v : Vcpu). v.name) ∙ sym c.requires.named) in
    subst (λ (names : List (List ℕ)). (raw : RawTables)
    → IsPlanText names c.args.host.now.cores c.args.tasks.now c.args.bytes.now raw
    → (c.read_text.result ≡ Ok raw) ⊎ (c.read_text.result ≡ Err NoMemory)) own
    (read_is_due c.in_ok-names.names c.args.tasks.now c.args.host.now.cores
    (worded c.args.bytes.now) c.read_text.result many c.args.host.now.few_cores good c.read_text.ensures.ok
    c.read_text.ensures.bad_line)

pub returns-clause-refused : goal.returns-clause-refused
returns-clause-refused c =
    let own : c.in_ok-names.names ≡ names_of c.args.host.now.vcpus = search rules in
    subst (λ (names : List (List ℕ)). (bad : ℕ)
    → IsFirstBadFor (IsSomePlan names c.args.host.now.cores c.args.tasks.now) 1 (worded c.args.bytes.now) bad
    → (c.read_text.result ≡ Err (BadLine bad)) ⊎ (c.read_text.result ≡ Err NoMemory)) own
    (refusal_is_due c.in_ok-names.names c.args.tasks.now c.args.host.now.cores
    (worded c.args.bytes.now) c.read_text.result c.read_text.ensures.ok c.read_text.ensures.bad_line)
