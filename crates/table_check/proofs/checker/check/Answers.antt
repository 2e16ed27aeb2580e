use Rattle.std.proofs.Common.{◌≡◌, false, subst, sym, ap, ◌∙◌, IsTrue, length, ℕ, List, Option}
use Rattle.std.specs.Prelude.{IfNone}
use Rattle.std.proofs.lemmas.Bool.{false≢true}
use Rattle.std.proofs.lemmas.List.{length-map}
use Rattle.tab_core.specs.VcpuSets.{has_vcpu}
use Rattle.tab_core.specs.declared.TheConstants.{MAX_VCPUS}
use Rattle.tab_core.proofs.Lists.{get_or-replicate_same}
use Rattle.tab_core.specs.declared.periodic.Periodic.{Periodic}
use Rattle.table_form.specs.Tables.Homes.{HaveHomes, are_housed}
use Rattle.table_form.specs.Tables.Rows.{Row, cells_from}
use Rattle.table_form.specs.Tables.Serves.{Apart, OwnersHaveTasks, Serves}
use Rattle.table_check.specs.Faults.{AreGood}
use Rattle.table_check.specs.Shapes.{rows_of}
use Rattle.table_check.proofs.OneFault.{one_fault}
use Rattle.table_check.proofs.Owned.{owners_have_tasks}
use Rattle.table_check.proofs.checker.check.Goals as goal

pub returns-in_err-fault-clause-one_fault : goal.returns-in_err-fault-clause-one_fault
returns-in_err-fault-clause-one_fault c = one_fault c.args.tasks.now c.args.raw.now.rows

pub returns-in-Some-clause-one_fault : goal.returns-in-Some-clause-one_fault
returns-in-Some-clause-one_fault c = one_fault c.args.tasks.now c.args.raw.now.rows

pub invariant_of-result : goal.invariant_of-result
invariant_of-result c =
    let raw = c.args.raw.now.rows in
    let tasks : c.of.result ≡ c.args.tasks.now = c.of.ensures ∙ c.in_ok-from_slice-2.ensures.items
    ∙ c.items-5.ensures.same in
    let homes : c.of-homes.result ≡ c.args.raw.now.homes =
    c.of-homes.ensures ∙ c.in_ok-from_slice.ensures.items
    ∙ c.items-4.ensures.same in
    let rows : c.in_ok-rows.rows ≡ rows_of raw = c.in_ok-rows.ensures ∙ ap rows_of c.items-3.ensures in
    let found : AreGood c.items.result.now c.items-2.result.now =
    subst (λ fault. IfNone fault (AreGood c.items.result.now c.items-2.result.now)) c.in_default.is
    c.in_ok-fault.ensures.none in
    let good : AreGood c.args.tasks.now raw =
    subst (AreGood c.args.tasks.now) c.items-2.ensures
    (subst (λ (ts : List (Option Periodic)). AreGood ts c.items-2.result.now) c.items.ensures.same found) in
    record {
      serves = subst (λ (ts : List (Option Periodic)). Serves ts c.in_ok-rows.rows) (sym tasks)
          (subst (Serves c.args.tasks.now) (sym rows) good.serves);
      apart = subst Apart (sym rows) good.apart;
      housed = subst
          (λ (ts : List (Option Periodic)). HaveHomes ts c.of-homes.result c.in_ok-rows.rows)
          (sym tasks)
          (subst (λ (hs : List (Option ℕ)). HaveHomes c.args.tasks.now hs c.in_ok-rows.rows) (sym homes)
          (subst (λ (n : ℕ). IsTrue (are_housed n c.args.tasks.now c.args.raw.now.homes))
          (sym (ap length rows ∙ length-map {B = Row} raw (cells_from 0))) c.requires.housed));
      owned = subst (λ (ts : List (Option Periodic)). OwnersHaveTasks ts c.in_ok-rows.rows) (sym tasks)
          (subst (OwnersHaveTasks c.args.tasks.now) (sym rows)
          (owners_have_tasks c.args.tasks.now raw c.requires.owned));
      exact = λ v task at capped k lt. absurd (false≢true
          (sym (ap (λ set. has_vcpu set v) c.empty.ensures ∙ get_or-replicate_same MAX_VCPUS v false)
          ∙ capped));
    }
