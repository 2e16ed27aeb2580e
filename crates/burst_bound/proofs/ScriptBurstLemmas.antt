-- The bursts of a script, event by event.
use Rattle.std.proofs.Common.{◌≡◌, ℕ, zero, suc, ◌+◌, ◌<◌, ◌≤◌, List, [], ◌∷◌, ◌++◌, get_or, length, length-append, drop, Some, refl, sym, ap, ◌∙◌, append_assoc, arith}
use Rattle.std.specs.Prelude.{slice_get}
use Rattle.std.proofs.lemmas.List.{append-nil, drop_all, drop_more}
use Rattle.script_doc.specs.declared.event.Act.{Act}
use Rattle.script_doc.specs.declared.event.Act.TheVariants.{Wake, Block, Change, Burst}
use Rattle.script_doc.specs.declared.event.Event.{Event}
use Rattle.burst_bound.specs.ScriptBursts.{ScriptBurst, bursts_at, bursts_from, bursts_of}

-- there are k bursts among the first i events
pub record BurstsSoFar (events : List Event) (i k : ℕ) : Type 0 where
  pub before : List ScriptBurst
  pub whole : bursts_of events ≡ before ++ bursts_from i (drop i events)
  pub count : length before ≡ k

-- before the first event
pub no_burst_yet : (events : List Event) → BurstsSoFar events 0 0
no_burst_yet events = record { before = []; whole = refl; count = refl }

-- the events from one on begin with it
from_here : (events : List Event) (i : ℕ) (event : Event) → i < length events → event ≡ get_or events i event
    → bursts_from i (drop i events) ≡ bursts_at i event.tick event.act ++ bursts_from (i + 1) (drop (i + 1) events)
from_here events i event lt is =
    ap (bursts_from i) (drop_more events i event lt ∙ ap (λ (e : Event). e ∷ drop (i + 1) events) (sym is))

-- an element after a prefix
at_front : {X : Type 0} (front rest : List X) (x : X) → slice_get (front ++ x ∷ rest) (length front) ≡ Some x
at_front [] rest x = refl
at_front (y ∷ front) rest x = at_front front rest x

-- an event that is a burst is the next one
pub burst_next : (events : List Event) (i k : ℕ) (event : Event) (vcpu work : ℕ) → BurstsSoFar events i k
    → i < length events → event ≡ get_or events i event → event.act ≡ Burst vcpu work
    → (slice_get (bursts_of events) k ≡ Some (record { event = i; tick = event.tick; vcpu = vcpu; work = work }))
    × BurstsSoFar events (i + 1) (k + 1)
burst_next events i k event vcpu work so_far lt is act =
    let burst : ScriptBurst = record { event = i; tick = event.tick; vcpu = vcpu; work = work } in
    let rest : List ScriptBurst = bursts_from (i + 1) (drop (i + 1) events) in
    let here : bursts_from i (drop i events) ≡ burst ∷ rest =
    from_here events i event lt is ∙ ap (λ (a : Act). bursts_at i event.tick a ++ rest) act in
    let whole : bursts_of events ≡ so_far.before ++ burst ∷ rest =
    so_far.whole ∙ ap (λ (bs : List ScriptBurst). so_far.before ++ bs) here in (
      ap (slice_get (bursts_of events)) (sym so_far.count)
          ∙ ap (λ (bs : List ScriptBurst). slice_get bs (length so_far.before)) whole
          ∙ at_front so_far.before rest burst,
      record {
        before = so_far.before ++ burst ∷ [];
        whole = whole ∙ sym (append_assoc so_far.before (burst ∷ []) rest);
        count = length-append so_far.before (burst ∷ []) ∙ omega (arith, so_far.count);
      },
    )

-- an act that is no burst
not_burst : (i tick : ℕ) (act : Act) → ((vcpu work : ℕ) → act ≡ Burst vcpu work → ⊥) → bursts_at i tick act ≡ []
not_burst i tick (Wake vcpu) other = refl
not_burst i tick (Block vcpu) other = refl
not_burst i tick (Change edits) other = refl
not_burst i tick (Burst vcpu work) other = absurd (other vcpu work refl)

-- another event is none
pub no_burst_here : (events : List Event) (i k : ℕ) (event : Event) → BurstsSoFar events i k → i < length events
    → event ≡ get_or events i event → ((vcpu work : ℕ) → event.act ≡ Burst vcpu work → ⊥)
    → BurstsSoFar events (i + 1) k
no_burst_here events i k event so_far lt is other = record {
  before = so_far.before;
  whole = so_far.whole ∙ ap (λ (bs : List ScriptBurst). so_far.before ++ bs) (from_here events i event lt is
      ∙ ap (λ (bs : List ScriptBurst). bs ++ bursts_from (i + 1) (drop (i + 1) events))
      (not_burst i event.tick event.act other));
  count = so_far.count;
}

-- after the last event they are all
pub all_bursts : (events : List Event) (i k : ℕ) → BurstsSoFar events i k → length events ≤ i
    → k ≡ length (bursts_of events)
all_bursts events i k so_far le =
    sym so_far.count
    ∙ ap length (sym (append-nil so_far.before)
    ∙ (ap (λ (es : List Event). so_far.before ++ bursts_from i es) (sym (drop_all i events le)) ∙ sym so_far.whole))

-- what holds of each pair of two lists holds with one pair more
pub pairs_more : {X Y : Type 0} (R : X → Y → Type 0) (xs : List X) (ys : List Y) (x : X) (y : Y)
    → ((k : ℕ) (u : X) (w : Y) → slice_get xs k ≡ Some u → slice_get ys k ≡ Some w → R u w)
    → slice_get xs (length ys) ≡ Some x → R x y
    → (k : ℕ) (u : X) (w : Y) → slice_get xs k ≡ Some u → slice_get (ys ++ y ∷ []) k ≡ Some w → R u w
pairs_more R [] ys x y each here is k u w at there = absurd cc
pairs_more R (z ∷ zs) [] x y each here is zero u w at there =
    (let one : x ≡ u = cc in let two : y ≡ w = cc in rw (← one, ← two) is)
pairs_more R (z ∷ zs) [] x y each here is (suc k) u w at there = absurd cc
pairs_more R (z ∷ zs) (v ∷ vs) x y each here is zero u w at there = each 0 u w at there
pairs_more R (z ∷ zs) (v ∷ vs) x y each here is (suc k) u w at there =
    pairs_more R zs vs x y (λ j a b g h. each (suc j) a b g h) here is k u w at there

-- an event is one burst at most
few_at : (number tick : ℕ) (act : Act) → length (bursts_at number tick act) ≤ 1
few_at number tick (Wake vcpu) = omega arith
few_at number tick (Block vcpu) = omega arith
few_at number tick (Change edits) = omega arith
few_at number tick (Burst vcpu work) = omega arith

-- there are no more bursts than events
pub few_bursts : (number : ℕ) (events : List Event) → length (bursts_from number events) ≤ length events
few_bursts number [] = omega arith
few_bursts number (event ∷ events) =
    omega (
      arith,
      length-append (bursts_at number event.tick event.act) (bursts_from (number + 1) events),
      few_at number event.tick event.act,
      few_bursts (number + 1) events,
    )
