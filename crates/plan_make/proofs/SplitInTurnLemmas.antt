-- The left-over vCPUs are split one after the other.
use Rattle.std.proofs.Common.{◌≡◌, ℕ, ◌+◌, ◌<◌, List, [], ◌∷◌, ◌++◌, length, get_or, set, slice_get, take, drop, Option, Some, refl, ap, subst, sym, ◌∙◌}
use Rattle.std.proofs.lemmas.List.{drop_more, take_more, take-append-drop}
use Rattle.tab_core.specs.declared.periodic.Periodic.{Periodic}
use Rattle.tab_core.specs.declared.piece.Piece.{Piece}
use Rattle.std.specs.List.{All}
use Rattle.worst_fit.specs.Placement.{IsAdmitted}
use Rattle.cd_split.specs.Cores.{LackVcpu}
use Rattle.cd_split.specs.Splitting.{IsSplitRefused}
use Rattle.cd_split.specs.declared.fault.SplitFault.{SplitFault}
use Rattle.cd_split.specs.declared.fault.SplitFault.TheVariants.{NoMemory, NoRoom}
use Rattle.tab_core.specs.declared.host.Host.{Host}
use Rattle.worst_fit.specs.declared.placed.Placed.{Placed}
use Rattle.plan_make.specs.Inside.Allotted.{AreAllottedTo, AreLaidOut}
use Rattle.plan_make.specs.Inside.Splits.{IsLayoutFault, IsRefusedNext, IsStuckFault, SplitsNext}
use Rattle.plan_make.specs.Layout.{IsStayingStart}
use Rattle.plan_make.specs.SplitInTurn.{GetsSplit, SplitsEach, home_of, with_pieces}
use Rattle.plan_make.proofs.WithPieces.{length-with_pieces}
use Rattle.plan_make.proofs.AllottedLemmas.{allotted_next}
use Rattle.plan_make.proofs.HomesLemmas.{ArePlaced, next_is_admitted, next_is_homeless, next_is_known, placed_next}
use Rattle.plan_make.proofs.SharesLemmas.{below_from_fit, home_below, some_piece}

-- one more is split
pub splits_each_push : (tasks : List (Option Periodic)) (cores : List (List Piece)) (homes : List (Option ℕ))
    (left : List ℕ) (end : List (List Piece)) (homes' : List (Option ℕ)) (vcpu : ℕ) (pieces : List Piece) →
    SplitsEach tasks cores homes left end homes' → GetsSplit tasks end vcpu pieces
    → SplitsEach tasks cores homes (left ++ vcpu ∷ []) (with_pieces end pieces)
    (set homes' vcpu (Some (home_of pieces)))
splits_each_push tasks cores homes [] end homes' vcpu pieces each split = (
  pieces,
  subst (λ cs. GetsSplit tasks cs vcpu pieces) each.0 split,
  (ap (λ cs. with_pieces cs pieces) each.0, ap (λ hs. set hs vcpu (Some (home_of pieces))) each.1),
)
splits_each_push tasks cores homes (v ∷ left) end homes' vcpu pieces each split = (
  each.0,
  each.1,
  splits_each_push tasks (with_pieces cores each.0)
      (set homes v (Some (home_of each.0))) left end homes' vcpu pieces each.2 split,
)

-- one more vCPU is split, of what the loop's call gave
pub splits_each_next : (tasks : List (Option Periodic)) (start : List (List Piece))
    (core_of : List (Option ℕ))
    (left : List ℕ) (cores : List (List Piece)) (homes : List (Option ℕ)) (vcpu : ℕ) (end : List (List Piece))
    (homes' : List (Option ℕ)) →
    SplitsEach tasks start core_of left cores homes → SplitsNext tasks cores homes vcpu end homes'
    → SplitsEach tasks start core_of (left ++ vcpu ∷ []) end homes'
splits_each_next tasks start core_of left cores homes vcpu end homes' each next =
    let pieces = next.added.pieces in
    let split : GetsSplit tasks cores vcpu pieces =
    record { task = next.task; at = next.at; splits = next.added.shares.splits } in
    let all = splits_each_push tasks start core_of left cores homes vcpu pieces each split in
    let home_is = ap (λ h. set homes vcpu (Some h)) (sym next.added.home_is) ∙ sym next.homes_are in
    subst (λ hs. SplitsEach tasks start core_of (left ++ vcpu ∷ []) end hs) home_is
    (subst (λ cs. SplitsEach tasks start core_of (left ++ vcpu ∷ []) cs
    (set homes vcpu (Some (home_of pieces)))) (sym next.added.end_is) all)

-- the vCPUs are laid out with the one that was split
pub laid_out_next : (tasks : List (Option Periodic)) (cores : List (List Piece))
    (homes : List (Option ℕ)) (vcpu : ℕ)
    (left : List ℕ) (end : List (List Piece)) (homes' : List (Option ℕ)) →
    AreLaidOut tasks cores homes (vcpu ∷ left) → vcpu < length homes
    → SplitsNext tasks cores homes vcpu end homes' → AreLaidOut tasks end homes' left
laid_out_next tasks cores homes vcpu left end homes' laid known next =
    let added = next.added in
    let count = ap length added.end_is ∙ length-with_pieces cores added.pieces in
    let below = below_from_fit cores added.pieces added.shares.fit in
    let some = some_piece cores vcpu next.task added.pieces added.shares.splits in
    let there = subst (λ h. h < length cores) (sym added.home_is)
    (home_below (length cores) added.pieces some below) in
    let homeless = next_is_homeless tasks (length cores) homes vcpu left laid.places in
    record {
      places = subst (λ n. ArePlaced tasks n homes' left) (sym count)
          (subst (λ hs. ArePlaced tasks (length cores) hs left) (sym next.homes_are)
          (placed_next tasks (length cores) homes vcpu left next.home laid.places there known));
      allotted = subst (λ cs. AreAllottedTo tasks homes' cs) (sym added.end_is)
          (subst (λ hs. AreAllottedTo tasks hs (with_pieces cores added.pieces)) (sym next.homes_are)
          (allotted_next tasks homes cores vcpu next.home next.task added.pieces laid.allotted
          added.shares next.at homeless known added.home_is));
    }

-- a split leaves the count of cores
pub count_next : (tasks : List (Option Periodic)) (cores : List (List Piece))
    (homes : List (Option ℕ)) (vcpu : ℕ)
    (end : List (List Piece)) (homes' : List (Option ℕ))
    → SplitsNext tasks cores homes vcpu end homes' → length end ≡ length cores
count_next tasks cores homes vcpu end homes' next = ap length next.added.end_is
    ∙ length-with_pieces cores next.added.pieces

-- the state of the loop over the left-over vCPUs, of which so many are split
pub record AreSplit (tasks : List (Option Periodic)) (start : List (List Piece)) (core_of : List (Option ℕ))
    (left : List ℕ) (n : ℕ) (cores : List (List Piece)) (homes : List (Option ℕ)) : Type 0 where
  pub split : SplitsEach tasks start core_of (take n left) cores homes
  pub laid_out : AreLaidOut tasks cores homes (drop n left)
  pub count : length cores ≡ length start

-- before the first of them
pub none_split : {tasks : List (Option Periodic)} {start : List (List Piece)} {core_of : List (Option ℕ)}
    {left : List ℕ} →
    AreLaidOut tasks start core_of left → AreSplit tasks start core_of left 0 start core_of
none_split laid = record { split = (refl, refl); laid_out = laid; count = refl }

-- what splitting the next one needs
pub record IsReady (tasks : List (Option Periodic)) (cores : List (List Piece))
    (homes : List (Option ℕ)) (vcpu : ℕ) (left : List ℕ) : Type 0 where
  pub laid_out : AreLaidOut tasks cores homes (vcpu ∷ left)
  pub admitted : IsAdmitted tasks vcpu
  pub known : vcpu < length homes
  pub new : All (LackVcpu vcpu) cores

-- what the loop's call requires of the next one
pub next_is_ready : {tasks : List (Option Periodic)} {start : List (List Piece)} {core_of : List (Option ℕ)}
    {left : List ℕ} {n : ℕ}
    {cores : List (List Piece)} {homes : List (Option ℕ)} {vcpu : ℕ}
    → AreSplit tasks start core_of left n cores homes →
    n < length left → vcpu ≡ get_or left n vcpu → IsReady tasks cores homes vcpu (drop (n + 1) left)
next_is_ready {tasks = tasks} {left = left} {n = n} {cores = cores} {homes = homes} {vcpu = vcpu}
    state lt is =
    let rest = drop (n + 1) left in
    let left_is : drop n left ≡ vcpu ∷ rest = drop_more left n vcpu lt ∙ ap (λ v. v ∷ rest) (sym is) in
    let laid = subst (AreLaidOut tasks cores homes) left_is state.laid_out in
    record {
      laid_out = laid;
      admitted = next_is_admitted tasks (length cores) homes vcpu rest laid.places;
      known = next_is_known tasks (length cores) homes vcpu rest laid.places;
      new = laid.allotted.lack vcpu (next_is_homeless tasks (length cores) homes vcpu rest laid.places);
    }

-- the loop's step
pub one_more_split : {tasks : List (Option Periodic)} {start : List (List Piece)} {core_of : List (Option ℕ)}
    {left : List ℕ} {n : ℕ}
    {cores : List (List Piece)} {homes : List (Option ℕ)} {vcpu : ℕ} {end : List (List Piece)}
    {homes' : List (Option ℕ)} →
    AreSplit tasks start core_of left n cores homes → n < length left → vcpu ≡ get_or left n vcpu →
    SplitsNext tasks cores homes vcpu end homes' → AreSplit tasks start core_of left (n + 1) end homes'
one_more_split {tasks = tasks} {start = start} {core_of = core_of} {left = left} {n = n}
    {cores = cores} {homes = homes} {vcpu = vcpu} {end = end} {homes' = homes'} state lt is next =
    let ready = next_is_ready state lt is in
    let more : take n left ++ vcpu ∷ [] ≡ take (n + 1) left =
    ap (λ v. take n left ++ v ∷ []) is ∙ sym (take_more left n vcpu lt) in
    record {
      split = subst (λ l. SplitsEach tasks start core_of l end homes') more
          (splits_each_next tasks start core_of (take n left) cores homes vcpu end homes' state.split next);
      laid_out = laid_out_next tasks cores homes vcpu
          (drop (n + 1) left) end homes' ready.laid_out ready.known next;
      count = count_next tasks cores homes vcpu end homes' next ∙ state.count;
    }

-- the first that can't be split
pub first_stuck : {tasks : List (Option Periodic)} {start : List (List Piece)} {core_of : List (Option ℕ)}
    {left : List ℕ} {n : ℕ}
    {cores : List (List Piece)} {homes : List (Option ℕ)} {vcpu : ℕ} (fault : SplitFault) →
    AreSplit tasks start core_of left n cores homes → n < length left → vcpu ≡ get_or left n vcpu →
    IsRefusedNext tasks cores vcpu fault → IsStuckFault tasks start core_of left fault
first_stuck NoMemory state lt is refused = tt
first_stuck {tasks = tasks} {left = left} {n = n} {cores = cores} {homes = homes} {vcpu = vcpu}
    (NoRoom named rest over) state lt is refused =
    let task = refused.0 in
    let named_is = refused.2.0 in
    record {
      before = take n left;
      after = drop (n + 1) left;
      left_is = sym (take-append-drop n left)
          ∙ ap (λ l. take n left ++ l) (drop_more left n vcpu lt
          ∙ ap (λ v. v ∷ drop (n + 1) left) (sym is ∙ sym named_is));
      cores = cores;
      homes = homes;
      split = state.split;
      task = task;
      at = ap (slice_get tasks) named_is ∙ refused.1;
      refuses = subst (λ v. IsSplitRefused cores v task rest over)
          (sym named_is) refused.2.1;
    }

-- a host with a first vCPU that can't be split has no plan
pub layout_fault : (old_homes : List (Option ℕ)) (host : Host) (tasks : List (Option Periodic))
    (placed : Placed) (start : List (List Piece))
    (fault : SplitFault) → IsStayingStart old_homes host tasks placed start
    → IsStuckFault tasks start placed.core_of placed.left fault → IsLayoutFault old_homes host fault
layout_fault old_homes host tasks placed start NoMemory is_start stuck = tt
layout_fault old_homes host tasks placed start (NoRoom vcpu rest over) is_start stuck = record {
  tasks = tasks;
  placed = placed;
  start = start;
  is_start = is_start;
  stuck = stuck;
}
