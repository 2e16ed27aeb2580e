-- The pending job of earliest deadline comes before all others.
use Rattle.std.proofs.Common.{◌≡◌, ℕ, ◌<◌, ◌≤◌, Bool, true, false, cond, List, [], ◌∷◌, Option, Some, None, refl, ap, subst, sym, ◌∙◌, inl, inr, ◌⊎◌, arith}
use Rattle.std.proofs.lemmas.Bool.{false≢true}
use Rattle.std.proofs.lemmas.Bool.Decides.{nat_tests}
use Rattle.table_form.specs.Planning.Jobs.{Job}
use Rattle.table_form.specs.Planning.EdfRow.{is_pending, comes_before, sooner, first_pending}
use Rattle.edf_table.specs.Inside.Progress.{Among}

-- b is not after a in the order of jobs, as a fact on numbers
abbrev pub NotAfter : Job → Job → Type 0
NotAfter a b = (a.deadline < b.deadline) ⊎ ((a.deadline ≡ b.deadline) × (a.vcpu ≤ b.vcpu))

-- what the test of the definition says where it fails
pub not_after_from_test : (a b : Job) → comes_before b a ≡ false → NotAfter a b
not_after_from_test a b h = grind (arith, nat_tests)

-- what the test of the definition says where it holds
pub not_after_from_before : (a b : Job) → comes_before a b ≡ true → NotAfter a b
not_after_from_before a b h = grind (arith, nat_tests)

-- the order is transitive, ties included, so a least one can be carried along the list
pub not_after_trans : (a b c : Job) → NotAfter a b → NotAfter b c → NotAfter a c
not_after_trans a b c (inl x) (inl y) = inl (omega arith)
not_after_trans a b c (inl x) (inr y) = inl (omega arith)
not_after_trans a b c (inr x) (inl y) = inl (omega arith)
not_after_trans a b c (inr x) (inr y) = inr (omega arith, omega arith)

-- a job is not after itself
pub not_after_refl : (a : Job) → NotAfter a a
not_after_refl a = inr (refl, omega arith)

-- the answer is a pending job that no pending job of the list precedes, or there is none
abbrev pub IsFirst : List (Option Job) → ℕ → List Job → Option Job → Type 0
IsFirst cells tick js None = (j : Job) → Among js j → is_pending cells tick j ≡ false
IsFirst cells tick js (Some i) = Among js i × (is_pending cells tick i ≡ true)
    × ((j : Job) → Among js j → is_pending cells tick j ≡ true → NotAfter i j)

-- a job that isn't pending changes nothing where there is no first
none_first : (cells : List (Option Job)) (tick : ℕ) (j : Job) (js : List Job)
    → is_pending cells tick j ≡ false →
    IsFirst cells tick js None → IsFirst cells tick (j ∷ js) None
none_first cells tick j js unready rest k (inl e) =
    subst (λ (x : Job). is_pending cells tick x ≡ false) e unready
none_first cells tick j js unready rest k (inr a) = rest k a

-- a job that isn't pending changes nothing where there is a first
stays_first : (cells : List (Option Job)) (tick : ℕ) (j : Job) (js : List Job) (i : Job)
    → is_pending cells tick j ≡ false →
    IsFirst cells tick js (Some i) → IsFirst cells tick (j ∷ js) (Some i)
stays_first cells tick j js i unready (a, p, least) = (inr a, p, least')
  where
    least' : (k : Job) → Among (j ∷ js) k → is_pending cells tick k ≡ true → NotAfter i k
    least' k (inl e) pk = absurd (false≢true (sym unready ∙ (ap (is_pending cells tick) e ∙ pk)))
    least' k (inr b) pk = least k b pk

-- the only pending job is the first
alone_first : (cells : List (Option Job)) (tick : ℕ) (j : Job) (js : List Job)
    → is_pending cells tick j ≡ true →
    IsFirst cells tick js None → IsFirst cells tick (j ∷ js) (Some j)
alone_first cells tick j js ready rest = (inl refl, ready, least')
  where
    least' : (k : Job) → Among (j ∷ js) k → is_pending cells tick k ≡ true → NotAfter j k
    least' k (inl e) pk = subst (λ (x : Job). NotAfter j x) e (not_after_refl j)
    least' k (inr b) pk = absurd (false≢true (sym (rest k b) ∙ pk))

-- a later job leaves the first one
kept_first : (cells : List (Option Job)) (tick : ℕ) (j : Job) (js : List Job) (i : Job) → NotAfter i j →
    IsFirst cells tick js (Some i) → IsFirst cells tick (j ∷ js) (Some i)
kept_first cells tick j js i le (a, p, least) = (inr a, p, least')
  where
    least' : (k : Job) → Among (j ∷ js) k → is_pending cells tick k ≡ true → NotAfter i k
    least' k (inl e) pk = subst (λ (x : Job). NotAfter i x) e le
    least' k (inr b) pk = least k b pk

-- an earlier one takes its place
new_first : (cells : List (Option Job)) (tick : ℕ) (j : Job) (js : List Job) (i : Job)
    → is_pending cells tick j ≡ true → NotAfter j i →
    IsFirst cells tick js (Some i) → IsFirst cells tick (j ∷ js) (Some j)
new_first cells tick j js i ready le (a, p, least) = (inl refl, ready, least')
  where
    least' : (k : Job) → Among (j ∷ js) k → is_pending cells tick k ≡ true → NotAfter j k
    least' k (inl e) pk = subst (λ (x : Job). NotAfter j x) e (not_after_refl j)
    least' k (inr b) pk = not_after_trans j i k le (least k b pk)

-- either of them, by the test
choose_first : (cells : List (Option Job)) (tick : ℕ) (j : Job) (js : List Job) (i : Job) (b : Bool)
    → comes_before i j ≡ b → is_pending cells tick j ≡ true →
    IsFirst cells tick js (Some i) → IsFirst cells tick (j ∷ js) (Some (cond b i j))
choose_first cells tick j js i true e ready h = kept_first cells tick j js i (not_after_from_before i j e) h
choose_first cells tick j js i false e ready h =
    new_first cells tick j js i ready (not_after_from_test j i e) h

-- one job more keeps the statement, pending or not
first_more : (cells : List (Option Job)) (tick : ℕ) (j : Job) (js : List Job) (rest : Option Job)
    (b : Bool) → is_pending cells tick j ≡ b →
    IsFirst cells tick js rest → IsFirst cells tick (j ∷ js) (cond b (Some (sooner j rest)) rest)
first_more cells tick j js None true e h = alone_first cells tick j js e h
first_more cells tick j js (Some i) true e h = choose_first cells tick j js i (comes_before i j) refl e h
first_more cells tick j js None false e h = none_first cells tick j js e h
first_more cells tick j js (Some i) false e h = stays_first cells tick j js i e h

-- the definition's walk down the list gives the first job: on this all else rests
pub first_pending_is : (cells : List (Option Job)) (tick : ℕ) (js : List Job)
    → IsFirst cells tick js (first_pending cells tick js)
unfolding first_pending
first_pending_is cells tick [] = λ j a. absurd a
first_pending_is cells tick (j ∷ js) =
    first_more cells tick j js (first_pending cells tick js) (is_pending cells tick j) refl
    (first_pending_is cells tick js)
