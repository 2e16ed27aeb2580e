-- From the rule over words and views to what a step on the table asks.
use Rattle.std.proofs.Common.{◌≡◌, ℕ, zero, suc, ◌<◌, ◌^◌, List, [], ◌∷◌, set, sym, subst, ap, ◌∙◌, refl, inl, inr, length-set}
use Rattle.std.specs.Prelude.{slice_index}
use mathlib.Core.Option.{some, some-injective, some-ne-none}
use lib.ListN.{get_elem?}
use Rattle.atomic_table.specs.Table.{State, Me, keeps, Allows}
use Rattle.atomic_table.proofs.Lists.{set_here}
use Rattle.round_words.specs.declared.view.View.{View}
use Rattle.round_words.specs.Rule.{KeepsRule}
use Rattle.round_words.specs.declared.spacing.TheConstants.{PLACES}
use Rattle.round_words.specs.Inside.Claims.{HasLag, StepKeepsRule}
use Rattle.round_words.specs.Inside.Spacing.{KeepsSpaced, words_at}
use Rattle.round_words.specs.Shown.{ViewInvariant}
use Rattle.round_words.specs.Views.{unstarted}
use Rattle.round_words.proofs.PlaceLemmas.{below_length}
use Rattle.round_words.proofs.LoadLemmas.{shown}
use Rattle.round_words.proofs.ShownLemmas.{opening_shown}
use Rattle.round_words.proofs.SpacingLemmas.{word_is, word_written}

-- before the start there is one view
first_is : (id : ℕ) (w : View) → get_elem? (unstarted ∷ []) id ≡ some w → unstarted ≡ w
first_is zero w e = some-injective unstarted w e
first_is (suc id) w e = absurd (some-ne-none w (sym e))

-- whatever the board is, a view shows what the rule says
rule_shown : (words : List ℕ) (views : List View) (id : ℕ) (w : View) → HasLag w → KeepsRule words views
    → get_elem? views id ≡ some w → ViewInvariant w
rule_shown words views id w lag (inl h) at = subst ViewInvariant
    (first_is id w (subst (λ (vs : List View). get_elem? vs id ≡ some w) h.1 at)) opening_shown
rule_shown words views id w lag (inr r) at = shown words views id w (lag (r.known id w at).started) r at

-- a step that keeps the rule is allowed, and its new view shows what the rule says
pub allows : (slots id : ℕ) (me : Me (Unit {0}) View) (i p : ℕ) (f : ℕ → ℕ) (claim : ℕ → View → Type 0)
    → i < 37 → p ≡ slice_index PLACES i → StepKeepsRule id me.0 i f claim → ((n : ℕ) (w : View) → claim n w → HasLag w)
    → Allows (λ (s : State (Unit {0}) View). KeepsSpaced s.words s.views) slots id me p f
    (λ n u. (u.1 ≡ me.1) × claim n u.0 × ViewInvariant u.0)
allows slots id me i p f claim lt is keeps_rule lag s ruled long at small =
    let n : ℕ = slice_index s.words p in
    let words : List ℕ = words_at PLACES s.words in
    let found : slice_index words i ≡ n = word_is s.words i lt ∙ ap (slice_index s.words) (sym is) in
    let r = keeps_rule words s.views ruled.1 at (subst (λ (k : ℕ). k < 2 ^ 64) (sym found) small) in
    let w : View = r.0 in
    let at' : get_elem? (set s.views id w) id ≡ some w =
    set_here s.views id w (below_length s.views id me.0 at) in
    let told : claim n w = subst (λ (k : ℕ). claim k w) found r.2 in
    let after : set words i (f (slice_index words i)) ≡ words_at PLACES (set s.words p (f n)) =
    ap (λ (k : ℕ). set words i (f k)) found
    ∙ (sym (word_written s.words i (f n) ruled.0 lt)
    ∙ ap (λ (k : ℕ). words_at PLACES (set s.words k (f n))) (sym is)) in (
      w,
      keeps,
      tt,
      (length-set s.words p (f n) ∙ ruled.0, subst (λ (ws : List ℕ). KeepsRule ws (set s.views id w)) after r.1),
      (refl, told, rule_shown (set words i (f (slice_index words i))) (set s.views id w) id w (lag n w told) r.1 at'),
    )
