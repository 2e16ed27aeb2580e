use Rattle.std.proofs.Common.{◌≡◌, ℕ, ◌<◌, ◌==◌, not, List, [], ◌∷◌, ◌++◌, None, Some, length, map, refl, ap, subst, sym, ◌∙◌, arith, rules}
use Rattle.std.specs.List.{All, AllZip, range_with_len}
use Rattle.std.proofs.lemmas.Fn.{filter_same}
use Rattle.std.proofs.lemmas.List.{append_assoc, map-append}
use Rattle.std.proofs.lemmas.List.Filters.{length-filter_both}
use Rattle.std.proofs.lemmas.List.FromFn.{length-range_with_len}
use Rattle.std.proofs.lemmas.List.Elements.{All-filter}
use Rattle.std.proofs.lemmas.Option.{MatchOption-at_none, MatchOption-at_some}
use Rattle.cd_split.specs.Inside.Search.{IsCutPiece, IsHomePiece, IsHomeless, IsUncut, left_of}
use Rattle.table_form.specs.Planning.Jobs.{Subtask}
use Rattle.cd_split.specs.Splitting.{IsOverloadWith, IsSplit, Left, Splits, all_of, core_numbers, left_after_cut, rest_of, subtask_on_core, unused_without}
use Rattle.tab_core.proofs.Lists.{numbers_below}
use Rattle.cd_split.proofs.SharesLemmas.{split_into, splits_apart, splits_cost, splits_fit, splits_follow, splits_of}
use Rattle.cd_split.proofs.SearchLemmas.{splits_after_cut, splits_at_home, splits_no_more}
use Rattle.cd_split.proofs.Unique.{one_split, split_or_refused}
use Rattle.cd_split.proofs.splitting.split.Goals as goal

pub loop-pieces-init : goal.loop-pieces-init
loop-pieces-init c =
    let cores = c.args.cores.now in
    let left = left_of c.all_of-left.result in
    let all = all_of c.args.vcpu c.args.task in
    let unused = c.in_ok-unused.unused.items in
    let numbers : unused ≡ core_numbers cores =
    c.in_ok-unused.ensures ∙ ap (range_with_len 0) c.cores.ensures.count in
    let left_is : left ≡ all = c.all_of-left.ensures in
    record {
      vcpu = ap (λ (l : Left). l.vcpu) left_is;
      there = subst (All (λ core. core < length cores)) (sym numbers) (numbers_below (length cores));
      few = (let count = ap length numbers ∙ length-range_with_len 0 (length cores) in omega
          (arith, c.cores.ensures.count, c.cores.ensures.few));
      so_far = λ subtasks refused splits.
          subst (λ ps. Splits cores all (core_numbers cores) (map subtask_on_core ps ++ subtasks) refused)
          (sym c.new-pieces.ensures.items)
          (subst (λ u. Splits cores all u subtasks refused) numbers
          (subst (λ l. Splits cores l unused subtasks refused) left_is splits));
    }

pub returns-in-Some-clause-pieces : goal.returns-in-Some-clause-pieces
returns-in-Some-clause-pieces c =
    let cores = c.args.cores.now in
    let before = c.loop-pieces.invariant in
    let left = left_of c.loop-pieces.left in
    let unused = c.loop-pieces.unused.items in
    let piece = c.in-Some.piece in
    let home' = MatchOption-at_some (IsHomeless cores left c.deref-in-loop-pieces.result.now)
    (IsHomePiece cores left c.deref-in-loop-pieces.result.now) piece c.in-Some.is
    c.in_ok-piece.ensures in
    let home : IsHomePiece cores left unused piece =
    subst (λ u. IsHomePiece cores left u piece) c.deref-in-loop-pieces.ensures.value home'
    in
    subst (IsSplit cores c.args.vcpu c.args.task) (sym (c.of.ensures ∙ c.in_ok-push.ensures.items))
    (subst (λ (ss : List (ℕ × Subtask)). Splits cores (all_of c.args.vcpu c.args.task) (core_numbers cores) ss None)
    (sym (map-append subtask_on_core c.loop-pieces.pieces.items (piece ∷ [])))
    (before.so_far (subtask_on_core piece ∷ []) None (splits_at_home cores left unused piece home)))

pub returns-in-Some-clause-of : goal.returns-in-Some-clause-of
returns-in-Some-clause-of c =
    splits_of c.args.cores.now (all_of c.args.vcpu c.args.task) (core_numbers c.args.cores.now)
    c.of.result
    (split_into c.args.cores.now c.args.vcpu c.args.task c.of.result (returns-in-Some-clause-pieces c))

pub returns-in-Some-clause-fit : goal.returns-in-Some-clause-fit
returns-in-Some-clause-fit c =
    splits_fit c.args.cores.now (all_of c.args.vcpu c.args.task) (core_numbers c.args.cores.now)
    c.of.result (numbers_below (length c.args.cores.now))
    (split_into c.args.cores.now c.args.vcpu c.args.task c.of.result (returns-in-Some-clause-pieces c))

pub returns-in-Some-clause-apart : goal.returns-in-Some-clause-apart
returns-in-Some-clause-apart c =
    splits_apart c.args.cores.now (all_of c.args.vcpu c.args.task) (core_numbers c.args.cores.now)
    c.of.result
    (split_into c.args.cores.now c.args.vcpu c.args.task c.of.result (returns-in-Some-clause-pieces c))

pub returns-in-Some-clause-windows : goal.returns-in-Some-clause-windows
returns-in-Some-clause-windows c =
    splits_follow c.args.cores.now (all_of c.args.vcpu c.args.task) (core_numbers c.args.cores.now)
    c.of.result
    (split_into c.args.cores.now c.args.vcpu c.args.task c.of.result (returns-in-Some-clause-pieces c))

pub returns-in-Some-clause-cost : goal.returns-in-Some-clause-cost
returns-in-Some-clause-cost c =
    splits_cost c.args.cores.now (all_of c.args.vcpu c.args.task) (core_numbers c.args.cores.now)
    c.of.result
    (split_into c.args.cores.now c.args.vcpu c.args.task c.of.result (returns-in-Some-clause-pieces c))

pub returns-in-Some-clause-only : goal.returns-in-Some-clause-only
returns-in-Some-clause-only c = λ other splits. one_split c.args.cores.now c.args.vcpu c.args.task
    c.of.result other (returns-in-Some-clause-pieces c) splits

pub returns-in-Some-clause-room : goal.returns-in-Some-clause-room
returns-in-Some-clause-room c = λ rest over refuses. split_or_refused c.args.cores.now c.args.vcpu
    c.args.task c.of.result rest over (returns-in-Some-clause-pieces c) refuses

pub overloads_of-requires-clause-homeless : goal.overloads_of-requires-clause-homeless
overloads_of-requires-clause-homeless c =
    let cores = c.args.cores.now in
    let left = left_of c.loop-pieces.left in
    let used = c.deref-in-loop-pieces.result.now in
    subst (IsHomeless cores left) (c.deref-in-loop-pieces.ensures.value ∙ sym c.deref-in-None.ensures.value)
    (MatchOption-at_none (IsHomeless cores left used)
    (IsHomePiece cores left used) c.in_default.is c.in_ok-piece.ensures)

pub returns-in-None-clause-fault : goal.returns-in-None-clause-fault
returns-in-None-clause-fault c =
    let cores = c.args.cores.now in
    let left = left_of c.loop-pieces.left in
    let unused = c.loop-pieces.unused.items in
    let over = c.in_ok-over-in-None.over in
    let homeless : IsHomeless cores left unused =
    subst (IsHomeless cores left) c.deref-in-loop-pieces.ensures.value
    (MatchOption-at_none (IsHomeless cores left c.deref-in-loop-pieces.result.now)
    (IsHomePiece cores left c.deref-in-loop-pieces.result.now) c.in_default.is
    c.in_ok-piece.ensures) in
    let uncut : IsUncut cores left unused = subst (IsUncut cores left) c.deref-in-loop-pieces-3.ensures.value
    (MatchOption-at_none (IsUncut cores left c.deref-in-loop-pieces-3.result.now)
    (IsCutPiece cores left c.deref-in-loop-pieces-3.result.now) c.in-None.is
    c.in_ok-find_cut.ensures) in
    let overs : AllZip (IsOverloadWith cores (rest_of left)) unused over =
    subst (λ u. AllZip (IsOverloadWith cores (rest_of left)) u over)
    c.deref-in-None.ensures.value c.in_ok-over-in-None.ensures in (
      refl,
      (
        map subtask_on_core c.loop-pieces.pieces.items ++ [],
        c.loop-pieces.invariant.so_far [] (Some (left.rest, over))
            (splits_no_more cores left unused over homeless uncut overs),
      ),
    )

pub loop-pieces-preserved : goal.loop-pieces-preserved
loop-pieces-preserved c =
    let cores = c.args.cores.now in
    let before = c.loop-pieces.invariant in
    let left = left_of c.loop-pieces.left in
    let unused = c.loop-pieces.unused.items in
    let piece = c.in-Some-2.piece in
    let later = c.retain.new.self.items in
    let homeless : IsHomeless cores left unused =
    subst (IsHomeless cores left) c.deref-in-loop-pieces.ensures.value
    (MatchOption-at_none (IsHomeless cores left c.deref-in-loop-pieces.result.now)
    (IsHomePiece cores left c.deref-in-loop-pieces.result.now) c.in_default.is
    c.in_ok-piece.ensures) in
    let cut : IsCutPiece cores left unused piece =
    subst (λ u. IsCutPiece cores left u piece) c.deref-in-loop-pieces-3.ensures.value
    (MatchOption-at_some (IsUncut cores left c.deref-in-loop-pieces-3.result.now)
    (IsCutPiece cores left c.deref-in-loop-pieces-3.result.now) piece c.in-Some-2.is
    c.in_ok-find_cut.ensures) in
    let filtered : later ≡ unused_without piece.core unused =
    filter_same _ (λ other. not (other == piece.core)) _
    (λ x b f t. search rules) _ _ c.retain.ensures.filtered in
    let left_is : left_of c.behind-left.result ≡ left_after_cut left piece.cost = c.behind-left.ensures in
    record {
      vcpu = ap (λ (l : Left). l.vcpu) left_is ∙ before.vcpu;
      there = subst (All (λ core. core < length cores)) (sym filtered)
          (All-filter (λ other. not (other == piece.core))
          (λ core. core < length cores) unused before.there);
      few = (let parts = length-filter_both (λ other. not (other == piece.core))
          (λ other. not (not (other == piece.core))) (λ other. refl) unused in
          omega (arith, ap length filtered, before.few));
      so_far = λ subtasks refused splits. (
          let next = subst (λ u. Splits cores (left_after_cut left piece.cost) u subtasks refused) filtered
          (subst (λ l. Splits cores l later subtasks refused) left_is splits) in
          let cuts = map subtask_on_core c.loop-pieces.pieces.items in
          let joined : cuts ++ subtask_on_core piece ∷ subtasks ≡ map subtask_on_core c.push-in-Some-2.new.self.items ++ subtasks =
          sym (ap (λ ps. map subtask_on_core ps ++ subtasks) c.in_ok-push-in-Some-2.ensures.items
          ∙ ap (λ ss. ss ++ subtasks) (map-append subtask_on_core c.loop-pieces.pieces.items (piece ∷ []))
          ∙ append_assoc cuts (subtask_on_core piece ∷ []) subtasks) in
          subst (λ ss. Splits cores (all_of c.args.vcpu c.args.task) (core_numbers cores) ss refused) joined
          (before.so_far (subtask_on_core piece ∷ subtasks) refused
          (splits_after_cut cores left unused piece subtasks refused homeless cut next)));
    }
