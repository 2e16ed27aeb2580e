-- The vCPUs that are unsplit, one after the other.
use Rattle.std.proofs.Common.{◌≡◌, ℕ, ◌+◌, ◌<◌, cond, eqb, List, [], ◌∷◌, ◌++◌, length, get_or, slice_get, take, map, replicate, Option, None, Some, refl, ap, subst, sym, ◌∙◌, inl, inr, arith, length-set, length-take}
use Rattle.std.proofs.lemmas.List.{length-replicate}
use Rattle.std.specs.List.{All}
use Rattle.std.proofs.lemmas.Bool.{cases_Bool, eqb-true, eq-eqb}
use Rattle.std.proofs.lemmas.List.{append-nil, map-append, map_push}
use Rattle.std.proofs.lemmas.List.Elements.{All-append, All-cons, All-nil, All-weaker}
use Rattle.std.proofs.lemmas.Option.{slice_get-get_or, slice_get_within}
use Rattle.tab_core.proofs.Lists.{get_or-replicate_same}
use Rattle.tab_core.specs.declared.periodic.Periodic.{Periodic}
use Rattle.tab_core.specs.declared.piece.Piece.{Piece}
use Rattle.table_form.specs.Planning.Jobs.{Subtask, subtask_of}
use Rattle.worst_fit.specs.Load.{FitsEachCore}
use Rattle.cd_split.specs.Cores.{HaveRoomFor, LackVcpu, pieces_on}
use Rattle.plan_make.specs.Unsplit.{StandUnsplit, unsplit, unsplit_at, unsplit_from}
use Rattle.plan_make.proofs.WithPieces.{pieces_on-with_piece, with_piece}
use Rattle.plan_make.proofs.UnsplitLemmas.{All-from_map, IsUnsplitOn, all_unsplit_on, unsplit_fit, unsplit_from-none, unsplit_from-take_more}

-- the first vCPUs are unsplit
abbrev pub FirstStand : ℕ → List (Option Periodic) → List (Option ℕ) → ℕ → List (List Piece) → Type 0
FirstStand n tasks homes count cores = StandUnsplit (take n tasks) (take n homes) count cores

-- the next vCPU has no piece yet
pub next_is_new : (n : ℕ) (tasks : List (Option Periodic)) (homes : List (Option ℕ)) (count : ℕ)
    (cores : List (List Piece)) (core : ℕ) →
    FirstStand n tasks homes count cores → core < count → LackVcpu n (pieces_on cores core)
next_is_new n tasks homes count cores core stand there =
    let P : Subtask → Type 0 = λ s. s.vcpu ≡ n → ⊥ in
    let below = All-weaker (IsUnsplitOn core 0 (take n tasks) (take n homes)) P
    (λ s w same. (let number = ap (λ (x : Subtask). x.vcpu) w.is in
    let within = slice_get_within (take n tasks) w.number (Some w.task) w.at in
    absurd (omega (arith, length-take n tasks))))
    (unsplit_from core 0 (take n tasks) (take n homes))
    (all_unsplit_on core 0 (take n tasks) (take n homes)) in
    All-from_map subtask_of P (pieces_on cores core) (subst (All P) (sym (stand.stand core there)) below)

-- a core's pieces with that of the next vCPU
stand_on_home : (n : ℕ) (tasks : List (Option Periodic)) (homes : List (Option ℕ)) (count : ℕ)
    (cores : List (List Piece)) (task : Periodic) (core : ℕ) (p : Piece) →
    FirstStand n tasks homes count cores → core < count → slice_get tasks n ≡ Some (Some task)
    → slice_get homes n ≡ Some (Some core) →
    subtask_of p ≡ unsplit n task → map subtask_of (pieces_on cores core ++ p ∷ [])
    ≡ unsplit_from core 0 (take (n + 1) tasks) (take (n + 1) homes)
stand_on_home n tasks homes count cores task core p stand there at at' is =
    let here : unsplit_at core n (Some task) (Some core) ≡ subtask_of p ∷ [] =
    rw (eq-eqb core core refl) (ap (λ s. s ∷ []) (sym is)) in
    map_push subtask_of (pieces_on cores core) p ∙ ap (λ ss. ss ++ subtask_of p ∷ []) (stand.stand core there)
    ∙ sym (ap (λ ss. unsplit_from core 0 (take n tasks) (take n homes) ++ ss) here)
    ∙ sym (unsplit_from-take_more core n tasks homes (Some task) (Some core) at at')

-- it has room on its core
pub next_has_room : (n : ℕ) (tasks : List (Option Periodic)) (homes : List (Option ℕ)) (count : ℕ)
    (cores : List (List Piece)) (task : Periodic) (core : ℕ) (p : Piece) →
    FirstStand n tasks homes count cores → FitsEachCore tasks count homes → core < count
    → slice_get tasks n ≡ Some (Some task) → slice_get homes n ≡ Some (Some core) →
    subtask_of p ≡ unsplit n task → HaveRoomFor (pieces_on cores core) p
next_has_room n tasks homes count cores task core p stand fits there at at' is =
    unsplit_fit core (n + 1) tasks homes (pieces_on cores core ++ p ∷ [])
    (stand_on_home n tasks homes count cores task core p stand there at at' is)
    (fits core there)

-- with its piece one vCPU more is unsplit
pub next_stands : (n : ℕ) (tasks : List (Option Periodic)) (homes : List (Option ℕ)) (count : ℕ)
    (cores : List (List Piece)) (task : Periodic) (core : ℕ) (p : Piece) →
    FirstStand n tasks homes count cores → core < count → slice_get tasks n ≡ Some (Some task)
    → slice_get homes n ≡ Some (Some core) →
    subtask_of p ≡ unsplit n task → p.core ≡ core → FirstStand (n + 1) tasks homes count (with_piece cores p)
next_stands n tasks homes count cores task core p stand there at at' is on = record {
  size = length-set cores p.core (pieces_on cores p.core ++ p ∷ []) ∙ stand.size;
  own = λ other. subst (All (λ q. q.core ≡ other))
      (sym (pieces_on-with_piece cores p other in_range))
      (All-append (λ q. q.core ≡ other) (pieces_on cores other)
      (cond (eqb p.core other) (p ∷ []) []) (stand.own other) (new_own other));
  stand = λ other lt. ap (map subtask_of) (pieces_on-with_piece cores p other in_range)
      ∙ map-append subtask_of (pieces_on cores other) (cond (eqb p.core other) (p ∷ []) [])
      ∙ ap (λ ss. ss ++ map subtask_of (cond (eqb p.core other) (p ∷ []) [])) (stand.stand other lt)
      ∙ ap (λ ss. unsplit_from other 0 (take n tasks) (take n homes) ++ ss) (new_at other)
      ∙ sym (unsplit_from-take_more other n tasks homes (Some task) (Some core) at at');
}
  where
    in_range : p.core < length cores
    in_range = let size = stand.size in omega arith

    new_own : (other : ℕ) → All (λ q. q.core ≡ other) (cond (eqb p.core other) (p ∷ []) [])
    new_own other = elim (cases_Bool (eqb p.core other)) [
      | inl same ↦
          rw same (All-cons (λ q. q.core ≡ other) p [] (eqb-true p.core other same)
          (All-nil (λ (q : Piece). q.core ≡ other)))
      | inr not ↦ rw not (All-nil (λ (q : Piece). q.core ≡ other))
    ]

    new_at : (other : ℕ)
        → map subtask_of (cond (eqb p.core other) (p ∷ []) []) ≡ unsplit_at other n (Some task) (Some core)
    new_at other = subst (λ c. map subtask_of (cond (eqb p.core other) (p ∷ []) [])
        ≡ unsplit_at other n (Some task) (Some c)) on (elim (cases_Bool (eqb p.core other)) [
          | inl same ↦ rw same (ap (λ s. s ∷ []) is)
          | inr not ↦ rw not refl
        ])

-- a vCPU that is on no core changes nothing
pub next_is_none : (n : ℕ) (tasks : List (Option Periodic)) (homes : List (Option ℕ)) (count : ℕ)
    (cores : List (List Piece)) (task : Option Periodic) (home : Option ℕ) →
    FirstStand n tasks homes count cores → slice_get tasks n ≡ Some task → slice_get homes n ≡ Some home →
    ((core : ℕ) → unsplit_at core n task home ≡ []) → FirstStand (n + 1) tasks homes count cores
next_is_none n tasks homes count cores task home stand at at' none = record {
  size = stand.size;
  own = stand.own;
  stand = λ core lt. stand.stand core lt
      ∙ sym (append-nil (unsplit_from core 0 (take n tasks) (take n homes)))
      ∙ ap (λ ss. unsplit_from core 0 (take n tasks) (take n homes) ++ ss) (sym (none core))
      ∙ sym (unsplit_from-take_more core n tasks homes task home at at');
}

-- at first nobody is placed
pub none_stand : (tasks : List (Option Periodic)) (homes : List (Option ℕ)) (count : ℕ)
    (cores : List (List Piece))
    → cores ≡ replicate count [] → FirstStand 0 tasks homes count cores
none_stand tasks homes count cores empty = record {
  size = ap length empty ∙ length-replicate count [];
  own = λ core. subst (All (λ p. p.core ≡ core)) (sym (nothing core))
      (All-nil (λ (p : Piece). p.core ≡ core));
  stand = λ core lt. ap (map subtask_of) (nothing core) ∙ sym (unsplit_from-none core);
}
  where
    nothing : (core : ℕ) → pieces_on cores core ≡ []
    nothing core = ap (λ cs. pieces_on cs core) empty ∙ get_or-replicate_same count core []

-- what a read tells

-- a read by index that gave a task or a core, as the definitions read it
pub read_some : {X : Type 0} (xs : List (Option X)) (n : ℕ) (d : Option X) (x : X) → n < length xs
    → get_or xs n d ≡ Some x → slice_get xs n ≡ Some (Some x)
read_some xs n d x lt is = slice_get-get_or xs n d lt ∙ ap Some is

-- a read that gave none
pub read_none : {X : Type 0} (xs : List (Option X)) (n : ℕ) (d : Option X) → n < length xs
    → ((x : X) → get_or xs n d ≡ Some x → ⊥) → slice_get xs n ≡ Some None
read_none {X = X} xs n d lt not = slice_get-get_or xs n d lt ∙ ap Some (nothing (get_or xs n d) not)
  where
    nothing : (o : Option X) → ((x : X) → o ≡ Some x → ⊥) → o ≡ None
    nothing None not = refl
    nothing (Some x) not = absurd (not x refl)
