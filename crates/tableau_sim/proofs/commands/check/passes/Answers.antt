use Rattle.std.proofs.Common.{◌≡◌, List, [], ◌∷◌, ◌++◌, Result, Ok, Err, false, is_err, length-append, arith, rules, subst, sym}
use Rattle.std.specs.Prelude.{OnOk}
use Rattle.table_form.specs.declared.segment.Segment.{Segment}
use Rattle.table_check.specs.Faults.{AreGood}
use Rattle.table_check.specs.Seen.{HaveSeen}
use Rattle.vcpu_names.specs.Names.{names_of}
use Rattle.tableau_sim.proofs.commands.check.passes.Goals as goal

-- what holds of a result that is no fault
no_fault : {T E P : Type 0} (result : Result T E) → is_err result ≡ false → OnOk result P → P
no_fault (Ok value) is held = held
no_fault (Err fault) is held = absurd cc

pub loop-core-init : goal.loop-core-init
loop-core-init c = record {
  rows = [];
  many = search rules;
  read = c.in-Ok.ensures.ok;
  seen = subst (λ tasks. HaveSeen tasks [] c.in-Ok-of.checks) c.items.ensures.same c.in-Ok-of.ensures;
}

pub loop-core-preserved : goal.loop-core-preserved
loop-core-preserved c =
    let passed = c.loop-core.invariant in
    let row : List Segment = c.read_row.new.row.items in
    let read = no_fault c.read_row.result (search rules) c.read_row.ensures.ok in
    record {
      rows = passed.rows ++ row ∷ [];
      many = omega (arith, length-append passed.rows (row ∷ []), passed.many);
      read = read (names_of c.args.host.now.vcpus) c.args.host.now.cores c.args.tasks.now c.args.text.now
          passed.rows passed.many c.loop-core-test.true passed.read;
      seen = subst (λ segments. HaveSeen c.args.tasks.now (passed.rows ++ segments ∷ []) c.take_row.new.self)
          c.deref.ensures.value
          (c.take_row.ensures.taken c.if-not-take_row.false c.args.tasks.now passed.rows passed.seen);
    }

pub returns : goal.returns
returns c = λ good.
    let passed = c.loop-core.invariant in
    let ended = no_fault c.read_end.result (search rules) c.read_end.ensures.ok in
    let text = ended (names_of c.args.host.now.vcpus) c.args.host.now.cores c.args.tasks.now c.args.text.now
    passed.rows (omega (arith, passed.many, c.loop-core-test.false)) passed.read in
    record {
      raw = text.raw;
      is_text = text.text;
      good = subst (AreGood c.args.tasks.now) (sym text.own)
          ((c.are_good.ensures c.args.tasks.now passed.rows passed.seen).0 good);
    }
