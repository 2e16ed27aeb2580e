use Rattle.std.proofs.Common.{◌≡◌, ◌-◌, ◌++◌, ◌∷◌, [], List, ◌/◌, ℕ, inr, length, Some, refl, ap, subst, ◌∙◌, arith}
use Rattle.std.specs.Prelude.{slice_get}
use Rattle.std.proofs.lemmas.Option.{slice_get_read}
use Rattle.tab_core.specs.declared.TheConstants.{ROUND}
use Rattle.tab_core.proofs.Lists.{push_new}
use Rattle.round_words.specs.declared.view.Part.{Part}
use Rattle.round_words.specs.declared.view.View.{View}
use Rattle.round_words.specs.Views.{part}
use Rattle.round_words.specs.Seats.{view_of}
use Rattle.round_words.proofs.ChangesLemmas.{part_with}
use Rattle.dispatch_core.proofs.EntryLemmas.{count_used, makes_entry, used_within}
use Rattle.dispatch_core.proofs.beginning.enter.Goals as goal

pub returns-then-rounds-clock-clause-enters : goal.returns-then-rounds-clock-clause-enters
returns-then-rounds-clock-clause-enters c =
    let v : View = view_of c.args.seat.now in
    let core = c.args.core in
    let p : Part = part v core in
    let told = c.decide-count.ensures.view in
    let long : length c.args.used.now.items ≡ length p.entries = ap length c.requires.used ∙ count_used p.entries in
    inr (makes_entry p _ c.decide-count.result told.0 (c.shown.ensures.cores core c.requires.core.0)
    (let t = c.if-rounds-clock.true in omega (arith, c.len-rounds.ensures, long, c.requires.clock))
    (part_with v _ core _ c.requires.core.0.1 told.1) told.2)

pub returns-then-rounds-clock-clause-count : goal.returns-then-rounds-clock-clause-count
returns-then-rounds-clock-clause-count c =
    let old : List ℕ = c.args.used.now.items in
    let at : length old ≡ c.args.clock / ROUND = let t = c.if-rounds-clock.true in omega (arith, c.len-rounds.ensures) in
    rw (c.push_reserved.ensures.items) (subst (λ (k : ℕ). slice_get (old ++ c.decide-count.result ∷ []) k ≡ Some c.decide-count.result) at (push_new old c.decide-count.result))

pub returns-clause-count : goal.returns-clause-count
returns-clause-count c =
    let p : Part = part (view_of c.args.seat.now) c.args.core in
    let k : ℕ = c.args.clock / ROUND in
    let old : List ℕ = c.args.used.now.items in
    let long : length old ≡ length p.entries = ap length c.requires.used ∙ count_used p.entries in
    let cover = (c.shown.ensures.cores c.args.core c.requires.core.0).timeline in
    let f = c.if-rounds-clock.false in
    let place : c.len-rounds.result - 1 ≡ k = omega (arith, c.len-rounds.ensures, cover.reach, cover.ahead, c.requires.clock, long, f) in
    subst (λ (i : ℕ). slice_get old i ≡ Some c.index.result.now) place
    (slice_get_read old (length old) (c.len-rounds.result - 1) c.index.result.now refl (omega (arith, c.len-rounds.ensures, cover.reach, cover.ahead, c.requires.clock, long, f)) c.index.ensures)

pub returns-clause-within : goal.returns-clause-within
returns-clause-within c =
    used_within (view_of c.args.seat.now).events (part (view_of c.args.seat.now) c.args.core).entries (c.args.clock / ROUND) c.index.result.now c.requires.counts
    (subst (λ (xs : List ℕ). slice_get xs (c.args.clock / ROUND) ≡ Some c.index.result.now) c.requires.used (returns-clause-count c))
