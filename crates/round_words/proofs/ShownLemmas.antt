-- What a view shows, the view of some of its parts shows too.
use Rattle.std.proofs.Common.{◌∙◌, ◌≡◌, ℕ, ◌<◌, true, Some, true≢false, refl, sym, ap, subst, arith, length}
use Rattle.std.specs.Prelude.{slice_get}
use Rattle.tab_core.specs.declared.entry.Entry.{Entry}
use Rattle.round_words.specs.declared.view.Part.{Part}
use Rattle.round_words.specs.declared.view.View.{View}
use Rattle.round_words.specs.Views.{controller, unstarted, holds, part, only, without}
use Rattle.round_words.specs.Rule.{IsCorePart}
use Rattle.round_words.specs.Shown.{HoldsCore, HasEntry, KeepsFloors, ViewInvariant}
use Rattle.round_words.proofs.ViewsLemmas.{of_only, of_without}

-- the view u has some of the parts of the view v
record IsWithin (u v : View) : Type 0 where
  lag : u.lag ≡ v.lag
  cores : u.cores ≡ v.cores
  parts : (a : ℕ) → holds u a ≡ true → (holds v a ≡ true) × (part u a ≡ part v a)

-- for the two views of `part`
within_shown : (u v : View) → IsWithin u v → ViewInvariant v → ViewInvariant u
within_shown u v sub l =
    let core : (c : ℕ) → HoldsCore u c → HoldsCore v c =
    λ c h. (subst (λ (n : ℕ). c < n) sub.cores h.0, (sub.parts c h.1).0) in
    let entered : (c r : ℕ) (e : Entry) → HoldsCore u c → HasEntry u c r e → HasEntry v c r e =
    λ c r e h x. (subst (λ (p : Part). slice_get p.entries r ≡ Some e) (sub.parts c h.1).1 x.0, x.1) in
    record {
      lists = λ a h. let k = sub.parts a h in ap (λ (p : Part). length p.heard) k.1 ∙ l.lists a k.0;
      cores = λ c h. subst IsCorePart (sym (sub.parts c h.1).1) (l.cores c (core c h));
      one_count = λ c d r e f hc hd ec fd.
          l.one_count c d r e f (core c hc) (core d hd) (entered c r e hc ec) (entered d r f hd fd);
      near = λ c d hc hd.
          let n = l.near c d (core c hc) (core d hd) in
          let x = ap (λ (p : Part). p.clock) (sub.parts c hc.1).1 in
          let y = ap (λ (p : Part). p.clock) (sub.parts d hd.1).1 in
          let z = sub.lag in
          omega arith;
      floors = λ h c hc.
          let k = sub.parts controller h in
          subst (λ (p : Part). KeepsFloors p.floors (part u c)) (sym k.1)
          (subst (KeepsFloors (part v controller).floors) (sym (sub.parts c hc.1).1)
          (l.floors k.0 c (core c hc)));
      one_winner = λ all c r e hc ec.
          let all' : (d : ℕ) → d < v.cores → holds v d ≡ true =
          λ d h. (sub.parts d (all d (subst (λ (n : ℕ). d < n) (sym sub.cores) h))).0 in
          let w = l.one_winner all' c r e (core c hc) (entered c r e hc ec) in
          let below : w.0 < u.cores = subst (λ (n : ℕ). w.0 < n) (sym sub.cores) w.1.core in
          let there = all w.0 below in (
            w.0,
            record {
              core = below;
              entry = w.1.entry;
              entered = (
                subst (λ (p : Part). slice_get p.entries r ≡ Some w.1.entry)
                    (sym (sub.parts w.0 there).1) w.1.entered.0,
                w.1.entered.1,
              );
              won = w.1.won;
              seen = w.1.seen;
              only = λ d' f' hd x won. w.1.only d' f' (core d' hd) (entered d' r f' hd x) won;
            },
          );
    }

-- the parts that `part` gives away
pub only_shown : (m : ℕ) (v : View) → ViewInvariant v → ViewInvariant (only m v)
only_shown m v = within_shown (only m v) v
    (record { lag = refl; cores = refl; parts = λ a h. let o = of_only m v a h in (o.1, o.2) })

-- the parts that `part` keeps
pub without_shown : (m : ℕ) (v : View) → ViewInvariant v → ViewInvariant (without m v)
without_shown m v = within_shown (without m v) v
    (record { lag = refl; cores = refl; parts = λ a h. let o = of_without m v a h in (o.1, o.2) })

-- a view without parts
pub opening_shown : ViewInvariant unstarted
opening_shown =
    let no : (c : ℕ) → holds unstarted c ≡ true → ⊥ = λ c h. true≢false (sym h) in record {
      lists = λ a h. absurd (no a h);
      cores = λ c h. absurd (no c h.1);
      one_count = λ c d r e f hc. absurd (no c hc.1);
      near = λ c d hc. absurd (no c hc.1);
      floors = λ h. absurd (no controller h);
      one_winner = λ all c r e hc. absurd (no c hc.1);
    }
