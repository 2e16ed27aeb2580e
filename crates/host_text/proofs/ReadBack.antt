-- The text of a host is read back as that host.
use Rattle.std.proofs.Common.{◌≡◌, ℕ, ◌+◌, ◌*◌, ◌≤◌, suc, Bool, true, false, List, [], ◌∷◌, ◌++◌, length, map, get_or, Some, refl, sym, ap, subst, ◌∙◌, arith, flat_map, Option, None}
use Rattle.std.proofs.lemmas.List.{length-map}
use Rattle.std.proofs.lemmas.List.Elements.{All-tail}
use Rattle.std.proofs.lemmas.Option.{slice_get-get_or}
use Rattle.std.proofs.lemmas.Str.{IsUtf8-from_ascii}
use Rattle.std.specs.List.{All, count_by}
use Rattle.tab_core.specs.Name.{IsName}
use Rattle.tab_core.specs.Vcpus.{HaveDistinctNames}
use Rattle.tab_core.specs.declared.TheConstants.{MAX_VCPUS}
use Rattle.tab_core.specs.declared.host.Host.{Host}
use Rattle.tab_core.specs.declared.vcpu.Vcpu.{Vcpu}
use Rattle.tab_words.specs.Sections.{sections_of}
use Rattle.tab_words.specs.Texts.{Line, line_of, text_of}
use Rattle.toml.specs.Parse.{parse_document, skip_bom}
use Rattle.toml.specs.Tables.{Expression, no_nodes}
use Rattle.toml.proofs.ReadLines.{AllPrinted, read_lines}
use Rattle.toml.proofs.Turns.{document_some}
use Rattle.host_doc.specs.Document.{IsHostText}
use Rattle.host_gen.specs.Generated.{IsGenerated, most_percent}
use Rattle.host_gen.specs.HostText.{host_text, format_lines, named_tick, number_lines, vcpu_text}
use Rattle.host_gen.proofs.GeneratedLemmas.{admitted, distinct, is_good_name, none_capped}
use Rattle.host_text.specs.Admitted.{IsAdmittedHost}
use Rattle.host_text.proofs.AsciiLemmas.{host_ascii}
use Rattle.host_text.proofs.Lines.{host_lines}
use Rattle.host_text.proofs.Members.{AreGood, are_apart, members_stand}
use Rattle.host_text.proofs.Running.{all_run}
use Rattle.host_text.proofs.SectionLemmas.{host_section}
use Rattle.host_text.proofs.SizeLemmas.{host_size}
use Rattle.host_text.proofs.Statements.{AreNamed, Statement, capped_expressions, head_expressions, host_members, stated, vcpu_of, vcpus_expressions, expressions_with, number_expressions}

-- that of a capped vCPU is of the kinds that a printed document has, before others
capped_printed : (capped : Bool) (es : List Expression) → AllPrinted es
    → AllPrinted (capped_expressions capped ++ es)
capped_printed true es rest = ((refl, omega arith, refl), rest)
capped_printed false es rest = rest

-- all expressions are of the kinds that a printed document has
all_printed : (ss : List Statement) → AllPrinted (vcpus_expressions ss)
all_printed [] = tt
all_printed (s ∷ ss) = (
  omega arith,
  (
    (refl, omega arith, refl),
    (
      (refl, omega arith, refl),
      (
        (refl, omega arith, refl),
        ((refl, omega arith, refl), capped_printed s.capped (vcpus_expressions ss) (all_printed ss)),
      ),
    ),
  ),
)

numbers_printed : (host : Host) (ss : List Statement)
    → AllPrinted (number_expressions host ++ vcpus_expressions ss)
numbers_printed host ss = (
  (refl, omega arith, refl),
  (
    (refl, omega arith, refl),
    ((refl, omega arith, refl), ((refl, omega arith, refl), all_printed ss)),
  ),
)

printed : (named : Option ℕ) (host : Host) (ss : List Statement)
    → AllPrinted (expressions_with named host ++ vcpus_expressions ss)
printed None host ss = ((refl, omega arith, refl), numbers_printed host ss)
printed (Some tick) host ss =
    ((refl, omega arith, refl), ((refl, omega arith, refl), numbers_printed host ss))

-- no text that begins with its format has a byte order mark
none_before : (named : Option ℕ) (lines : List Line) (rest : List ℕ)
    → skip_bom (text_of (format_lines named ++ lines) ++ rest) ≡ text_of (format_lines named ++ lines) ++ rest
unfolding skip_bom line_of
none_before None lines rest = refl
none_before (Some tick) lines rest = refl

-- the text of a host has no byte order mark
no_mark : (host : Host) → skip_bom (host_text host) ≡ host_text host
unfolding host_text
no_mark host = none_before (named_tick host.tick_ns) (number_lines host) (flat_map vcpu_text host.vcpus)

-- the text is a document of the host's members
document : (host : Host) (ss : List Statement) → map vcpu_of ss ≡ host.vcpus
    → AreNamed ss
    → parse_document (host_text host) ≡ Some (host_members host ss)
document host ss are good =
    let text = host_text host in
    let es = head_expressions host ++ vcpus_expressions ss in
    let defined = all_run (named_tick host.tick_ns) host ss in
    let read = read_lines false false es text text (no_nodes, []) (suc (length text))
    (host_lines host ss are good) (printed (named_tick host.tick_ns) host ss) refl (omega arith) in
    document_some text defined.last (rw (no_mark host) (read ∙ defined.runs)) ∙ ap Some defined.closes

-- what the statements keep
all_named : (ss : List Statement) → All (λ (v : Vcpu). IsName v.name) (map vcpu_of ss)
    → AreNamed ss
all_named [] good = tt
all_named (s ∷ ss) good = (
  good 0 (vcpu_of s) (omega arith),
  all_named ss (All-tail (λ (v : Vcpu). IsName v.name) (vcpu_of s) (map vcpu_of ss) good),
)

-- the statements keep all that the members need
are_good : (ss : List Statement) (vcpus : List Vcpu) → map vcpu_of ss ≡ vcpus → length vcpus ≤ MAX_VCPUS
    → All (λ (v : Vcpu). IsName v.name) vcpus → HaveDistinctNames vcpus → AreGood ss
are_good ss vcpus are few good distinct = record {
  few = omega (arith, few, length-map ss vcpu_of, ap length are);
  named = all_named ss (rw (← are) at good);
  apart = are_apart ss (subst HaveDistinctNames (sym are) distinct);
}

-- the names of an admitted host's statements
are_named : (host : Host) (ss : List Statement) → map vcpu_of ss ≡ host.vcpus → IsAdmittedHost host
    → AreNamed ss
are_named host ss are is =
    (are_good ss host.vcpus are is.few is.good is.distinct).named

-- the text of a host whose vCPUs are all admitted
pub read_back : (host : Host) → IsAdmittedHost host → IsHostText (host_text host) host
read_back host is =
    let s = stated host.vcpus is.admitted in
    let good = are_good s.statements host.vcpus s.are is.few is.good is.distinct in (
      host_members host s.statements,
      (
        IsUtf8-from_ascii (host_text host) (host_ascii host s.statements s.are good.named),
        document host s.statements s.are good.named,
      ),
      members_stand host s.statements good s.are,
    )

-- a generated host is such a host
generated_admitted : (seed cores vcpus : ℕ) (host : Host) → vcpus ≤ MAX_VCPUS
    → IsGenerated seed cores vcpus host → IsAdmittedHost host
generated_admitted seed cores vcpus host few is = record {
  few = omega (arith, few, is.as_many);
  good = λ k d low.
      let this = is.each k (get_or host.vcpus k d) (slice_get-get_or host.vcpus k d low) in
      subst IsName (sym this.name) (is_good_name k (omega (arith, few, low, is.as_many)));
  distinct = distinct seed (most_percent cores vcpus) host.vcpus (omega (arith, few, is.as_many)) is.each;
  admitted = admitted seed (most_percent cores vcpus) host.vcpus is.each;
}

-- the text of a generated host is read back
pub generated_read_back : (seed cores vcpus : ℕ) (host : Host) → vcpus ≤ MAX_VCPUS
    → IsGenerated seed cores vcpus host → IsHostText (host_text host) host
generated_read_back seed cores vcpus host few is =
    read_back host (generated_admitted seed cores vcpus host few is)

-- ---- the text as a command's input

-- such a text is one section
pub one_section : (host : Host) → IsAdmittedHost host → sections_of (host_text host) ≡ host_text host ∷ []
one_section host is =
    let s = stated host.vcpus is.admitted in
    host_section host s.statements s.are (are_named host s.statements s.are is)

-- the text of such a host is short
pub short : (host : Host) → IsAdmittedHost host → length (host_text host)
    ≤ 100 + 120 * length host.vcpus + 14 * count_by (λ vcpu. vcpu.capped) host.vcpus
short host is =
    let s = stated host.vcpus is.admitted in
    host_size host s.statements s.are (are_named host s.statements s.are is)

-- the text of a generated host is one section
pub generated_one_section : (seed cores vcpus : ℕ) (host : Host) → vcpus ≤ MAX_VCPUS
    → IsGenerated seed cores vcpus host → sections_of (host_text host) ≡ host_text host ∷ []
generated_one_section seed cores vcpus host few is =
    one_section host (generated_admitted seed cores vcpus host few is)

-- in both
pub generated_short : (seed cores vcpus : ℕ) (host : Host) → vcpus ≤ MAX_VCPUS
    → IsGenerated seed cores vcpus host → length (host_text host) ≤ 100 + 120 * vcpus
generated_short seed cores vcpus host few is =
    let long = short host (generated_admitted seed cores vcpus host few is) in
    omega (arith, long, is.as_many, none_capped seed (most_percent cores vcpus) host.vcpus is.each)
