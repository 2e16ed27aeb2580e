-- `plan` doesn't refuse what `gen` writes.
use Rattle.std.proofs.Common.{◌≡◌, ℕ, ◌+◌, ◌*◌, ◌≤◌, List, [], length, ap, arith, subst, sym}
use Rattle.tab_core.specs.declared.host.Host.{Host}
use Rattle.tab_words.specs.Commands.{IsGenerable}
use Rattle.tab_words.specs.Sections.{sections_of}
use Rattle.tab_words.specs.declared.command.Command.TheVariants as called
use Rattle.host_doc.specs.Document.{IsHostText}
use Rattle.host_gen.specs.Generated.{IsGenerated}
use Rattle.host_gen.specs.HostText.{host_text}
use Rattle.host_gen.proofs.BoundLemmas.{has_periods, has_room}
use Rattle.host_text.proofs.ReadBack.{generated_one_section, generated_read_back, generated_short}
use Rattle.tableau_sim.specs.declared.input.TheConstants.{INPUT_LIMIT}
use Rattle.tableau_sim.specs.declared.status.Status.{Status}
use Rattle.tableau_sim.specs.Clauses.{IsFaultless}
use Rattle.tableau_sim.specs.Commands.{Replies}
use Rattle.tableau_sim.specs.Gen.{Gens}
use Rattle.tableau_sim.specs.Outcomes.CallOutcome.{Writes}
use Rattle.tableau_sim.specs.Hosts.{OfHost}
use Rattle.tableau_sim.specs.Plan.{HasNoPlan, Plans}
use Rattle.tableau_sim.specs.declared.status.Status.TheVariants as status
use Rattle.tableau_sim.proofs.BoundsLemmas.{planned_is_fine, stated_is_fine}
use Rattle.tableau_sim.specs.Sections.{host_section}
use Rattle.tableau_sim.proofs.OutcomesLemmas.{no_refusal}

-- no period and no room is missing
gen_has_plan : (seed cores vcpus : ℕ) (host : Host) (refusal : Status) → vcpus ≤ 99 * cores + 1
    → IsGenerated seed cores vcpus host → HasNoPlan [] host refusal → ⊥
gen_has_plan seed cores vcpus host (status.NoPeriod vcpu) few of lacks = has_periods seed cores vcpus host vcpu of lacks
gen_has_plan seed cores vcpus host (status.NoRoom vcpu rest over) few of lacks =
    has_room seed cores vcpus host vcpu rest over few of lacks
gen_has_plan seed cores vcpus host other few of lacks = absurd lacks

-- the input that `gen` writes is a host that is planned
gen_is_faultless : (seed cores vcpus : ℕ) (host : Host) (input : List ℕ) → vcpus ≤ 99 * cores + 1
    → IsGenerated seed cores vcpus host → length (sections_of input) ≡ 1
    → IsHostText (host_section (sections_of input)) host → IsFaultless Replies called.Plan input
gen_is_faultless seed cores vcpus host input few of one is refusal names h =
    no_refusal 1 (OfHost Plans) input one (stated_is_fine Plans (sections_of input) host is
    (λ r ns. planned_is_fine host r ns (λ s. gen_has_plan seed cores vcpus host s few of))) refusal names h

-- what `gen` writes is planned
pub gen_text_is_planned : (seed cores vcpus : ℕ) (text : List ℕ) → IsGenerable seed cores vcpus
    → Gens seed cores vcpus (Writes text) → IsFaultless Replies called.Plan text
gen_text_is_planned seed cores vcpus text counts (Gens.Generated host of) =
    let one = generated_one_section seed cores vcpus host counts.few_vcpus of in
    let is = generated_read_back seed cores vcpus host counts.few_vcpus of in
    gen_is_faultless seed cores vcpus host (host_text host) counts.roomy of (ap length one)
    (subst (λ s. IsHostText (host_section s) host) (sym one) is)

-- what `gen` writes is within the limit of an input
pub gen_text_is_short : (seed cores vcpus : ℕ) (text : List ℕ) → IsGenerable seed cores vcpus
    → Gens seed cores vcpus (Writes text) → length text ≤ INPUT_LIMIT
gen_text_is_short seed cores vcpus text counts (Gens.Generated host of) =
    let short = generated_short seed cores vcpus host counts.few_vcpus of in omega (arith, short, counts.few_vcpus)
