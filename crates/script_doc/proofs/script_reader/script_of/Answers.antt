use Rattle.std.proofs.Common.{◌≡◌, ℕ, ◌+◌, [], ◌∷◌, ◌++◌, length, cond, true, false, subst, sym, ap, rules, arith, inr, Err, Some, None}
use Rattle.std.proofs.lemmas.Grind.{common_steps}
use Rattle.tab_words.specs.Words.{words_of}
use Rattle.script_doc.specs.Events.{is_change}
use Rattle.script_doc.specs.Inside.NamedLines.{IsNamedEvent, IsNoNamedLine, IsUnknownNamedLine}
use Rattle.script_doc.specs.ScriptFaults.{Before, broken_limit}
use Rattle.script_doc.specs.Statements.{is_skipped}
use Rattle.script_doc.specs.declared.event_reader.LineFault.TheVariants.{BadLine as BadForm, UnknownName as NoSuchName}
use Rattle.script_doc.proofs.ScriptLemmas.{EventsSoFar, event_read, form_fault, in_limits, limit_fault, line_skipped, whole_script}
use Rattle.script_doc.proofs.script_reader.script_of.Goals as goal

pub returns-in-Err-clause-fault : goal.returns-in-Err-clause-fault
returns-in-Err-clause-fault c =
    let at : EventsSoFar c.args.names.now c.args.rounds c.args.bytes.now
    c.loop-line.number c.loop-line.tick c.loop-line.changes c.loop-line.events.items
    (c.in-Some.line.now ∷ c.next.new.self) =
    subst (EventsSoFar c.args.names.now c.args.rounds c.args.bytes.now
    c.loop-line.number c.loop-line.tick c.loop-line.changes c.loop-line.events.items)
    c.in-Some.ensures.steps c.loop-line.invariant in
    let kept : is_skipped c.in-Some.line.now ≡ false = search rules in
    let bad : (c.in-Err.fault ≡ BadForm → IsNoNamedLine (words_of c.in-Some.line.now)) =
    λ is. c.in-Err.ensures.bad_line (ap Err is) in
    let unknown : (c.in-Err.fault ≡ NoSuchName
    → IsUnknownNamedLine c.args.names.now (words_of c.in-Some.line.now)) =
    λ is. c.in-Err.ensures.unknown_name (ap Err is) in
    rw c.at_line.ensures (form_fault _ _ _ _ _ _ _ _ _ c.in-Err.fault at kept bad unknown)

pub returns-in-Some-broken_limit-clause-fault : goal.returns-in-Some-broken_limit-clause-fault
returns-in-Some-broken_limit-clause-fault c =
    let at : EventsSoFar c.args.names.now c.args.rounds c.args.bytes.now
    c.loop-line.number c.loop-line.tick c.loop-line.changes c.loop-line.events.items
    (c.in-Some.line.now ∷ c.next.new.self) =
    subst (EventsSoFar c.args.names.now c.args.rounds c.args.bytes.now
    c.loop-line.number c.loop-line.tick c.loop-line.changes c.loop-line.events.items)
    c.in-Some.ensures.steps c.loop-line.invariant in
    let kept : is_skipped c.in-Some.line.now ≡ false = search rules in
    let is : IsNamedEvent c.args.names.now (words_of c.in-Some.line.now) c.in-Ok.event = c.in-Ok.ensures.ok in
    let many : c.len.result ≡ length c.loop-line.events.items = grind (arith, common_steps) in
    let before_of : ℕ → Before = λ n. record { tick = c.loop-line.tick; count = n; changes = c.loop-line.changes } in
    let broken : broken_limit c.args.rounds (before_of (length c.loop-line.events.items))
    (c.loop-line.number + 1) c.in-Ok.event ≡ Some c.in-Some-broken_limit.fault =
    subst (λ (n : ℕ). broken_limit c.args.rounds (before_of n) (c.loop-line.number + 1) c.in-Ok.event
    ≡ Some c.in-Some-broken_limit.fault) many (sym c.in-Some-broken_limit.ensures) in
    inr (limit_fault _ _ _ _ _ _ _ _ _ c.in-Ok.event _ at kept is broken)

pub loop-line-preserved-in-Continue-1 : goal.loop-line-preserved-in-Continue-1
loop-line-preserved-in-Continue-1 c =
    let at : EventsSoFar c.args.names.now c.args.rounds c.args.bytes.now
    c.loop-line.number c.loop-line.tick c.loop-line.changes c.loop-line.events.items
    (c.in-Some.line.now ∷ c.next.new.self) =
    subst (EventsSoFar c.args.names.now c.args.rounds c.args.bytes.now
    c.loop-line.number c.loop-line.tick c.loop-line.changes c.loop-line.events.items)
    c.in-Some.ensures.steps c.loop-line.invariant in
    let kept : is_skipped c.in-Some.line.now ≡ false = search rules in
    let is : IsNamedEvent c.args.names.now (words_of c.in-Some.line.now) c.in-Ok.event = c.in-Ok.ensures.ok in
    let many : c.len.result ≡ length c.loop-line.events.items = grind (arith, common_steps) in
    let before_of : ℕ → Before = λ n. record { tick = c.loop-line.tick; count = n; changes = c.loop-line.changes } in
    let unbroken : broken_limit c.args.rounds (before_of (length c.loop-line.events.items))
    (c.loop-line.number + 1) c.in-Ok.event ≡ None =
    subst (λ (n : ℕ). broken_limit c.args.rounds (before_of n) (c.loop-line.number + 1) c.in-Ok.event
    ≡ None) many (sym c.in_default.ensures) in
    let limits = in_limits c.args.rounds (before_of (length c.loop-line.events.items))
    (c.loop-line.number + 1) c.in-Ok.event unbroken in
    let counted : c.loop-line.changes + c.from-changes.result
    ≡ c.loop-line.changes + cond (is_change c.in-Ok.event.act) 1 0 = grind (arith, common_steps) in
    let pushed : c.push.new.self.items ≡ c.loop-line.events.items ++ c.in-Ok.event ∷ [] =
    grind (arith, common_steps) in
    rw pushed (event_read _ _ _ _ _ _ _ _ _ _ c.in-Ok.event at kept is limits counted)

pub loop-line-preserved : goal.loop-line-preserved
loop-line-preserved c =
    let at : EventsSoFar c.args.names.now c.args.rounds c.args.bytes.now
    c.loop-line.number c.loop-line.tick c.loop-line.changes c.loop-line.events.items
    (c.in-Some.line.now ∷ c.next.new.self) =
    subst (EventsSoFar c.args.names.now c.args.rounds c.args.bytes.now
    c.loop-line.number c.loop-line.tick c.loop-line.changes c.loop-line.events.items)
    c.in-Some.ensures.steps c.loop-line.invariant in
    let skipped : is_skipped c.in-Some.line.now ≡ true = search rules in
    line_skipped _ _ _ _ _ _ _ _ _ at skipped

pub returns-clause-ok : goal.returns-clause-ok
returns-clause-ok c =
    let at : EventsSoFar c.args.names.now c.args.rounds c.args.bytes.now
    c.loop-line.number c.loop-line.tick c.loop-line.changes c.loop-line.events.items [] =
    subst (EventsSoFar c.args.names.now c.args.rounds c.args.bytes.now
    c.loop-line.number c.loop-line.tick c.loop-line.changes c.loop-line.events.items)
    c.in-None.ensures.steps.0 c.loop-line.invariant in
    rw c.of.ensures (whole_script _ _ _ _ _ _ _ at)
