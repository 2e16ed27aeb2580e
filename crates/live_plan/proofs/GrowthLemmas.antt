-- Lists that grow at their end, whose element at each index is known.
use Rattle.std.proofs.Common.{◌≡◌, ℕ, zero, suc, ◌+◌, ◌≤◌, List, [], ◌∷◌, ◌++◌, length, get_or, take, Some, inl, inr, ap, sym, subst, ◌∙◌, arith}
use Rattle.std.specs.Prelude.{slice_get}
use Rattle.std.proofs.Math.ListN.{get_or-append}
use Rattle.std.proofs.Math.Seq.{get_or-append_seam}
use Rattle.std.proofs.lemmas.Bool.{cases_lt}
use Rattle.tab_core.proofs.Lists.{push_split}
use Rattle.slice_table.specs.declared.full_span.FullSpan.{FullSpan}
use Rattle.slice_table.specs.Slices.{IsTableOf}
use Rattle.table_form.specs.Tables.Plans.{PlanView}

-- one element more, which is the next
pub each_more : {X : Type 0} (f : ℕ → X) (xs : List X) (i : ℕ) (x d : X) → length xs ≡ i + 1
    → ((k : ℕ) → k ≤ i → get_or xs k d ≡ f k) → x ≡ f (i + 1)
    → (k : ℕ) → k ≤ i + 1 → get_or (xs ++ x ∷ []) k d ≡ f k
each_more f xs i x d long each is k le = elim (cases_lt k (length xs)) [
  | inl lt ↦ get_or-append xs (x ∷ []) d k lt ∙ each k (omega arith)
  | inr ge ↦ (let last : k ≡ length xs = omega arith in
      ap (λ (j : ℕ). get_or (xs ++ x ∷ []) j d) last ∙ get_or-append_seam xs x [] d ∙ is ∙ ap f (sym long ∙ sym last))
]

-- one table more, which is that of the next core
pub tables_more : (plan : PlanView) (tables : List (List FullSpan)) (core : ℕ) (next : List FullSpan) → length tables ≡ core
    → ((c : ℕ) (table : List FullSpan) → slice_get tables c ≡ Some table → IsTableOf plan c table) → IsTableOf plan core next
    → (c : ℕ) (table : List FullSpan) → slice_get (tables ++ next ∷ []) c ≡ Some table → IsTableOf plan c table
tables_more plan tables core next count each is c table at = elim (push_split tables c next table at) [
  | inl old ↦ each c table old
  | inr last ↦ subst (IsTableOf plan c) last.1 (subst (λ (j : ℕ). IsTableOf plan j next) (sym (last.0 ∙ count)) is)
]

-- two lists that are one up to an index are one up to the next, if they have one element there
same_push : {X : Type 0} (xs ys : List X) (i : ℕ) (x : X) → slice_get xs i ≡ Some x → slice_get ys i ≡ Some x
    → take i xs ≡ take i ys → take (suc i) xs ≡ take (suc i) ys
same_push [] ys i x at at' is = absurd cc
same_push (a ∷ xs) [] i x at at' is = absurd cc
same_push (a ∷ xs) (b ∷ ys) zero x at at' is = ap (λ z. z ∷ []) (let here : a ≡ x = cc in let there : b ≡ x = cc in here ∙ sym there)
same_push (a ∷ xs) (b ∷ ys) (suc i) x at at' is =
    let here : a ≡ b = cc in
    let rest : take i xs ≡ take i ys = cc in
    let more = same_push xs ys i x at at' rest in
    cc

pub same_more : {X : Type 0} (xs ys : List X) (i : ℕ) (x : X) → slice_get xs i ≡ Some x → slice_get ys i ≡ Some x
    → take i xs ≡ take i ys → take (i + 1) xs ≡ take (i + 1) ys
same_more xs ys i x at at' is = let next : i + 1 ≡ suc i = omega arith in rw next (same_push xs ys i x at at' is)
