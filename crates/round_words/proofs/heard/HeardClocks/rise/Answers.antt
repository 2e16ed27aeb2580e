use Rattle.std.proofs.Common.{◌≡◌, ◌≤◌, ℕ, List, length, max, ap, sym, ◌∙◌, arith}
use Rattle.std.specs.Prelude.{slice_index}
use Rattle.round_words.specs.Inside.Known.{raised}
use Rattle.round_words.proofs.KnownLemmas.{raised_length, raised_twice}
use Rattle.round_words.proofs.heard.HeardClocks.rise.Goals as goal

pub returns-then-self-cores-clause-long : goal.returns-then-self-cores-clause-long
returns-then-self-cores-clause-long c =
    let h = c.self.inside in
    ap (λ (xs : List ℕ). length xs) (sym c.self.view_is) ∙ (raised_length h.actor h.floor h.cores h.clocks ∙ c.self.told)

pub returns-then-self-cores-clause-raised : goal.returns-then-self-cores-clause-raised
returns-then-self-cores-clause-raised c = λ d.
    let h = c.self.inside in
    let t : ℕ = c.args.tick in
    let of : h.cores ≡ c.args.cores = c.if-self-cores.true in
    let small : h.cores ≤ length h.clocks = (let few = c.self.invariant in let long = c.self.told in omega arith) in
    let twice = raised_twice h.actor h.floor t h.cores h.clocks d small in
    let now : slice_index (raised h.actor c.max-self-inside.result h.cores h.clocks) d
    ≡ slice_index (raised h.actor (max h.floor t) h.cores h.clocks) d =
    ap (λ (k : ℕ). slice_index (raised h.actor k h.cores h.clocks) d) c.max-self-inside.ensures in
    let old : slice_index (raised h.actor t h.cores (raised h.actor h.floor h.cores h.clocks)) d
    ≡ slice_index (raised h.actor t h.cores c.args.self.now) d =
    ap (λ (xs : List ℕ). slice_index (raised h.actor t h.cores xs) d) c.self.view_is in
    now ∙ (sym twice ∙ (old
    ∙ (ap (λ (k : ℕ). slice_index (raised k t h.cores c.args.self.now) d) c.if-self-actor.true
    ∙ ap (λ (k : ℕ). slice_index (raised c.args.actor t k c.args.self.now) d) of)))
