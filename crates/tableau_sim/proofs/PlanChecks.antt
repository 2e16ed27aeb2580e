-- The text of a plan passes `check` beside the text of its host, and `plan stay` keeps it: it is read back as the
-- plan's rows, whose segments have good shapes, and the plan keeps the rest.
use Rattle.std.proofs.Common.{codes, ◌≡◌, ℕ, All, List, [], ◌∷◌, Option, length, sym, ap, subst}
use Rattle.tab_core.specs.Vcpus.{capped_set}
use Rattle.tab_core.specs.declared.TheConstants.{ROUND}
use Rattle.tab_core.specs.declared.host.Host.{Host}
use Rattle.table_form.specs.Tables.Plans.{IsPlan, PlanView}
use Rattle.table_form.specs.Tables.Rows.{Row}
use Rattle.table_form.specs.Tables.Serves.{Apart, Serves}
use Rattle.table_form.specs.declared.raw_tables.RawTables.{RawTables}
use Rattle.vcpu_names.specs.Names.{names_of}
use Rattle.host_doc.proofs.HostNames.{stated_few, stated_names}
use Rattle.plan_make.specs.Planned.{IsStayingPlan}
use Rattle.plan_make.proofs.PlannedRounds.{staying_rounds}
use Rattle.plan_make.proofs.ListMembers.{all_from_places}
use Rattle.period_choice.specs.Tasks.{AreTasksOf}
use Rattle.plan_text.proofs.ReadBack.{read_back}
use Rattle.plan_text.proofs.ReadingHeadLemmas.{names_of_host}
use Rattle.plan_text.specs.Written.{AreOfPlan}
use Rattle.table_check.proofs.SegmentsOfRows.{good_shapes, rows_back}
use Rattle.host_doc.specs.Document.{IsHostText}
use Rattle.plan_text.specs.PlanText.{plan_text}
use Rattle.table_check.specs.Faults.{AreGood}
use Rattle.tab_words.specs.Sections.{sections_of}
use Rattle.tab_words.specs.declared.command.Command.TheVariants as called
use Rattle.wrap_table.specs.Whole.{IsWholePlan}
use Rattle.tableau_sim.specs.Clauses.{IsFaultless}
use Rattle.tableau_sim.specs.Commands.{Replies}
use Rattle.tableau_sim.specs.Check.{Checks}
use Rattle.tableau_sim.specs.Outcomes.{CallOutcome}
use Rattle.tableau_sim.specs.Outcomes.CallOutcome.{Refuses, Writes}
use Rattle.tableau_sim.specs.Hosts.{OfHost}
use Rattle.tableau_sim.specs.Hosts.OfHost.{Hosted}
use Rattle.tableau_sim.specs.Plan.{HasPlan, Plans, PlansFrom}
use Rattle.tableau_sim.specs.PlanStay.{IsTextOf, PlansAnew, PlansStaying}
use Rattle.tableau_sim.specs.PlanWhole.{PlansWhole}
use Rattle.tableau_sim.proofs.OneOutcome.{check_only, stay_only}
use Rattle.tableau_sim.proofs.OutcomesLemmas.{made_of_parts, no_refusal}

-- ---- the tables

-- a plan's own segments are good tables
good_tables : (plan : PlanView) (raw : RawTables) → AreOfPlan plan raw → IsPlan plan
    → All (λ (row : Row). length row ≡ ROUND) plan.rows → AreGood plan.tasks raw.rows
good_tables plan raw own keeps rounds =
    let back = rows_back raw.rows plan.rows own.rows in
    record {
      shapes = good_shapes raw.rows plan.rows own.rows rounds;
      apart = subst Apart (sym back) keeps.apart;
      serves = subst (Serves plan.tasks) (sym back) keeps.serves;
    }

-- ---- the host

-- the text is that of a plan of the host in the section
pub record WritesPlan (section text : List ℕ) : Type 0 where
  pub host : Host
  pub is_host : IsHostText section host
  pub plan : PlanView
  pub has : HasPlan (IsTextOf (section ∷ text ∷ [])) host plan

-- what is known of a plan that was made of a host, besides what it is made by
record IsMade (host : Host) (plan : PlanView) : Type 0 where
  pub tasks : AreTasksOf host plan.tasks
  pub rounds : All (λ (row : Row). length row ≡ ROUND) plan.rows
  pub capped : plan.capped ≡ capped_set host.vcpus

-- the text of a plan that was made is read as that plan's
own_text : (IsByRule : Host → PlanView → Type 0) (section : List ℕ) (host : Host) (plan : PlanView)
    → IsHostText section host → HasPlan IsByRule host plan → IsMade host plan
    → WritesPlan section (plan_text (names_of host.vcpus) plan)
own_text IsByRule section host plan is has made =
    let stated = stated_names section host is in
    let back = read_back host plan (record {
      names = names_of_host host.vcpus stated.good stated.distinct;
      few = stated_few section host is;
      rounds = made.rounds;
      keeps = has.keeps;
      is_for = has.is_for;
    }) in
    record {
      host = host;
      is_host = is;
      plan = plan;
      has = record {
        planned = record {
          raw = back.raw;
          tables = record { are_tasks = made.tasks; text = back.text };
          good = good_tables plan back.raw back.own has.keeps made.rounds;
          homes = sym back.own.homes;
          rows = sym (rows_back back.raw.rows plan.rows back.own.rows);
          capped = made.capped;
          exact = has.keeps.exact;
        };
        keeps = has.keeps;
        is_for = has.is_for;
        reservations = has.reservations;
      };
    }

-- what is written of a host and old homes is the text of a plan of the host
written_from : (homes : List (Option ℕ)) (host : Host) (section text : List ℕ) → IsHostText section host
    → PlansFrom homes host (Writes text) → WritesPlan section text
written_from homes host section text is (PlansFrom.Planned plan has) =
    own_text (IsStayingPlan homes) section host plan is has (record {
      tasks = has.planned.layout.is_start.tasks_are;
      rounds = staying_rounds homes host plan has.planned;
      capped = has.planned.capped;
    })

-- what `plan` wrote is the text of a plan of the host
plan_written : (section text : List ℕ) → OfHost Plans (section ∷ []) (Writes text) → WritesPlan section text
plan_written section text (Hosted host outcome is made) = written_from [] host section text is made

-- what was written anew is the text of a plan of the host
anew_from : (host : Host) (section old text : List ℕ) → IsHostText section host
    → PlansAnew host (section ∷ old ∷ []) (Writes text) → WritesPlan section text
anew_from host section old text is (PlansAnew.Stays homes outcome of made) =
    written_from homes host section text is made

-- what `plan stay` wrote of a host is the text of a plan of the host
stay_from : (host : Host) (section old text : List ℕ) → IsHostText section host
    → PlansStaying host (section ∷ old ∷ []) (Writes text) → WritesPlan section text
stay_from host section old text is (PlansStaying.Unchanged plan has) =
    record { host = host; is_host = is; plan = plan; has = has }
stay_from host section old text is (PlansStaying.Changed outcome none made) =
    anew_from host section old text is made

-- what `plan stay` wrote is the text of a plan of the host
stay_written : (section old text : List ℕ) → OfHost PlansStaying (section ∷ old ∷ []) (Writes text)
    → WritesPlan section text
stay_written section old text (Hosted host outcome is made) = stay_from host section old text is made

-- what `plan whole` wrote of a host is the text of a plan of the host
whole_from : (host : Host) (section text : List ℕ) → IsHostText section host
    → PlansWhole host (section ∷ []) (Writes text) → WritesPlan section text
whole_from host section text is (PlansWhole.Planned plan has) =
    own_text IsWholePlan section host plan is has (record {
      tasks = has.planned.tasks;
      rounds = all_from_places (λ (row : Row). length row ≡ ROUND) plan.rows has.planned.wrapped.rows_are.lengths;
      capped = has.planned.capped;
    })

-- what `plan whole` wrote is the text of a plan of the host
whole_written : (section text : List ℕ) → OfHost PlansWhole (section ∷ []) (Writes text) → WritesPlan section text
whole_written section text (Hosted host outcome is made) = whole_from host section text is made

-- ---- check

-- the text is one of good tables
passes : (section text : List ℕ) (p : WritesPlan section text)
    → OfHost Checks (section ∷ text ∷ []) (Writes (codes "ok\n"))
passes section text p = Hosted p.host _ p.is_host
    (Checks.Passes p.plan.tasks p.has.planned.raw p.has.planned.tables p.has.planned.good)

-- a text of the plan's own tables isn't refused, since `check` has one outcome
written_checks : (section text input : List ℕ) → WritesPlan section text
    → sections_of input ≡ section ∷ text ∷ [] → IsFaultless Replies called.Check input
written_checks section text input written parts refusal names h =
    no_refusal 2 (OfHost Checks) input (ap length parts) (λ r ns made.
    let e = check_only (section ∷ text ∷ []) _ _ (passes section text written)
    (subst (λ sections. OfHost Checks sections (Refuses r ns)) parts made) in absurd cc) refusal names h

-- the law of `plan`
pub plan_checks : (section text input : List ℕ) → OfHost Plans (section ∷ []) (Writes text)
    → sections_of input ≡ section ∷ text ∷ [] → IsFaultless Replies called.Check input
plan_checks section text input planned = written_checks section text input (plan_written section text planned)

-- the law of `plan stay`
pub stay_checks : (section old text input : List ℕ) → OfHost PlansStaying (section ∷ old ∷ []) (Writes text)
    → sections_of input ≡ section ∷ text ∷ [] → IsFaultless Replies called.Check input
stay_checks section old text input planned =
    written_checks section text input (stay_written section old text planned)

-- the law of `plan whole`
pub whole_checks : (section text input : List ℕ) → OfHost PlansWhole (section ∷ []) (Writes text)
    → sections_of input ≡ section ∷ text ∷ [] → IsFaultless Replies called.Check input
whole_checks section text input planned = written_checks section text input (whole_written section text planned)

-- ---- plan stay

-- the text of a plan is kept as it is beside that of its host, since `plan stay` has one outcome
written_stays : (section text input : List ℕ) (outcome : CallOutcome) → WritesPlan section text
    → sections_of input ≡ section ∷ text ∷ [] → Replies called.PlanStay input outcome → outcome ≡ Writes text
written_stays section text input outcome written parts replied =
    stay_only (section ∷ text ∷ []) outcome (Writes text)
    (subst (λ sections. OfHost PlansStaying sections outcome) parts
    (made_of_parts 2 (OfHost PlansStaying) input outcome (ap length parts) replied))
    (Hosted written.host _ written.is_host (PlansStaying.Unchanged written.plan written.has))

-- the law of `plan`
pub plan_stays : (section text input : List ℕ) (outcome : CallOutcome) → OfHost Plans (section ∷ []) (Writes text)
    → sections_of input ≡ section ∷ text ∷ [] → Replies called.PlanStay input outcome → outcome ≡ Writes text
plan_stays section text input outcome planned =
    written_stays section text input outcome (plan_written section text planned)

-- the law of `plan stay`
pub stay_stays : (section old text input : List ℕ) (outcome : CallOutcome)
    → OfHost PlansStaying (section ∷ old ∷ []) (Writes text)
    → sections_of input ≡ section ∷ text ∷ [] → Replies called.PlanStay input outcome → outcome ≡ Writes text
stay_stays section old text input outcome planned =
    written_stays section text input outcome (stay_written section old text planned)

-- the law of `plan whole`
pub whole_stays : (section text input : List ℕ) (outcome : CallOutcome)
    → OfHost PlansWhole (section ∷ []) (Writes text)
    → sections_of input ≡ section ∷ text ∷ [] → Replies called.PlanStay input outcome → outcome ≡ Writes text
whole_stays section text input outcome planned =
    written_stays section text input outcome (whole_written section text planned)
