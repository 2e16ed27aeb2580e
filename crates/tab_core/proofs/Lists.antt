-- Lists read by index: after a push, after a write, after a drop, one after the other; and lists of
-- numbers in order.
use Rattle.std.proofs.Common.{◌≡◌, ◌≢◌, ℕ, zero, suc, ◌+◌, ◌<◌, ◌⊎◌, inl, inr, List, [], ◌∷◌, ◌++◌, length, get_or, set, take, drop, replicate, Option, Some, None, refl, ap, sym, ◌∙◌, arith, add-one}
use Rattle.std.proofs.Math.Seq.{drop-cons}
use Rattle.std.specs.List.{All, AllZip, range_with_len}
use Rattle.std.specs.Option.{option_flatten}
use Rattle.std.specs.Prelude.{slice_get, slice_index_or}
use Rattle.std.proofs.lemmas.List.FromFn.{get_or-range_with_len, length-range_with_len}

-- a push leaves what was there before
pub push_old : {X : Type 0} (xs : List X) (k : ℕ) (x y : X) → slice_get xs k ≡ Some y
    → slice_get (xs ++ x ∷ []) k ≡ Some y
push_old [] k x y at = absurd cc
push_old (z ∷ zs) zero x y at = at
push_old (z ∷ zs) (suc k) x y at = push_old zs k x y at

-- the pushed element is after them
pub push_new : {X : Type 0} (xs : List X) (x : X) → slice_get (xs ++ x ∷ []) (length xs) ≡ Some x
push_new [] x = refl
push_new (z ∷ zs) x = push_new zs x

-- what is in a list after a push was there before, or was pushed
pub push_split : {X : Type 0} (xs : List X) (k : ℕ) (x y : X) → slice_get (xs ++ x ∷ []) k ≡ Some y
    → (slice_get xs k ≡ Some y) ⊎ ((k ≡ length xs) × (x ≡ y))
push_split [] zero x y at = inr (refl, cc)
push_split [] (suc k) x y at = absurd cc
push_split (z ∷ zs) zero x y at = inl at
push_split (z ∷ zs) (suc k) x y at =
    elim (push_split zs k x y at) [ inl old ↦ inl old | inr new ↦ inr (omega (arith, new.0), new.1) ]

-- a write is read back
pub set_here : {X : Type 0} (xs : List X) (i : ℕ) (x : X) → i < length xs → slice_get (set xs i x) i ≡ Some x
set_here [] i x lt = absurd (omega arith)
set_here (z ∷ zs) zero x lt = refl
set_here (z ∷ zs) (suc i) x lt = set_here zs i x (omega arith)

-- a write leaves the other elements
pub set_other : {X : Type 0} (xs : List X) (i k : ℕ) (x : X) → k ≢ i
    → slice_get (set xs i x) k ≡ slice_get xs k
set_other [] i k x ne = refl
set_other (z ∷ zs) zero zero x ne = absurd (ne refl)
set_other (z ∷ zs) zero (suc k) x ne = refl
set_other (z ∷ zs) (suc i) zero x ne = refl
set_other (z ∷ zs) (suc i) (suc k) x ne = set_other zs i k x (λ e. ne (ap suc e))

-- a walk along a list: what is left begins with the element at the index
pub drop_next : {X : Type 0} (xs : List X) (i : ℕ) (x : X) → i < length xs → x ≡ get_or xs i x
    → drop i xs ≡ x ∷ drop (i + 1) xs
drop_next xs i x lt at = rw (add-one i) (drop-cons xs i x lt ∙ ap (λ y. y ∷ drop (suc i) xs) (sym at))

-- reading what is left, by an index of the whole list
pub get-drop : {X : Type 0} (xs : List X) (a n b : ℕ) → b ≡ a + n → slice_get (drop a xs) n ≡ slice_get xs b
get-drop xs zero n b is = ap (slice_get xs) (omega arith)
get-drop [] (suc a) n b is = refl
get-drop (x ∷ xs) (suc a) n zero is = absurd (omega arith)
get-drop (x ∷ xs) (suc a) n (suc b) is = get-drop xs a n b (omega arith)

-- a list of one value has it at each index, also beyond its end where that is the default
pub get_or-replicate_same : {X : Type 0} (n k : ℕ) (x : X) → get_or (replicate n x) k x ≡ x
get_or-replicate_same zero zero x = refl
get_or-replicate_same zero (suc k) x = refl
get_or-replicate_same (suc n) zero x = refl
get_or-replicate_same (suc n) (suc k) x = get_or-replicate_same n k x

-- an entry of a list of options that is one, known from the entry that there may be
pub flatten_some : {X : Type 0} (o : Option (Option X)) (x : X) → option_flatten o ≡ Some x
    → o ≡ Some (Some x)
flatten_some None x e = absurd cc
flatten_some (Some p) x e = ap Some e

-- two lists that agree place by place do so after a push to each
pub zip_push : {A B : Type 0} (R : A → B → Type 0) (xs : List A) (ys : List B) (x : A) (y : B)
    → AllZip R xs ys → R x y → AllZip R (xs ++ x ∷ []) (ys ++ y ∷ [])
zip_push R [] [] x y zip here = (here, tt)
zip_push R [] (b ∷ ys) x y zip here = absurd zip
zip_push R (a ∷ xs) [] x y zip here = absurd zip
zip_push R (a ∷ xs) (b ∷ ys) x y zip here = (zip.0, zip_push R xs ys x y zip.1 here)

-- numbers in order, from any first one, grow at their end
range_more : (a n : ℕ) → range_with_len a (suc n) ≡ range_with_len a n ++ (a + n) ∷ []
range_more a zero = ap (λ m. m ∷ []) (omega arith)
range_more a (suc n) = ap (λ xs. a ∷ xs)
    (range_more (a + 1) n ∙ ap (λ m. range_with_len (a + 1) n ++ m ∷ []) (omega arith))

-- a loop that pushes its counter makes the numbers from 0 on
pub range_next : (n : ℕ) → range_with_len 0 (n + 1) ≡ range_with_len 0 n ++ n ∷ []
range_next n =
    let next : n + 1 ≡ suc n = omega arith in
    let last : 0 + n ≡ n = omega arith in
    ap (range_with_len 0) next ∙ range_more 0 n ∙ ap (λ m. range_with_len 0 n ++ m ∷ []) last

-- each of which is below their count
pub numbers_below : (n : ℕ) → All (λ k. k < n) (range_with_len 0 n)
numbers_below n k d lt =
    let count = length-range_with_len 0 n in
    let is = get_or-range_with_len 0 n k d (omega arith) in
    omega arith

-- what is in a list is there with more after it
pub get_left : {X : Type 0} (xs ys : List X) (k : ℕ) (x : X) → slice_get xs k ≡ Some x
    → slice_get (xs ++ ys) k ≡ Some x
get_left [] ys k x at = absurd cc
get_left (z ∷ zs) ys zero x at = at
get_left (z ∷ zs) ys (suc k) x at = get_left zs ys k x at

-- two lists together have at a place of the first what that has there
pub get_front : {X : Type 0} (xs ys : List X) (k : ℕ) → k < length xs
    → slice_get (xs ++ ys) k ≡ slice_get xs k
get_front [] ys k lt = absurd (omega arith)
get_front (z ∷ zs) ys zero lt = refl
get_front (z ∷ zs) ys (suc k) lt = get_front zs ys k (omega arith)

-- two lists together have after the first what the second has
pub get_right : {X : Type 0} (xs ys : List X) (k : ℕ) → slice_get (xs ++ ys) (length xs + k) ≡ slice_get ys k
get_right [] ys k = (let e : 0 + k ≡ k = omega arith in ap (slice_get ys) e)
get_right (z ∷ zs) ys k =
    (let e : suc (length zs) + k ≡ suc (length zs + k) = omega arith in rw e (get_right zs ys k))

-- a push leaves what lies before a place
pub take_push_old : {X : Type 0} (xs : List X) (k : ℕ) (x y : X) → slice_get xs k ≡ Some y
    → take k (xs ++ x ∷ []) ≡ take k xs
take_push_old [] k x y at = absurd cc
take_push_old (z ∷ zs) zero x y at = refl
take_push_old (z ∷ zs) (suc k) x y at = ap (λ t. z ∷ t) (take_push_old zs k x y at)

-- before a pushed element is the whole list
pub take_push_new : {X : Type 0} (xs : List X) (x : X) → take (length xs) (xs ++ x ∷ []) ≡ xs
take_push_new [] x = refl
take_push_new (z ∷ zs) x = ap (λ t. z ∷ t) (take_push_new zs x)

-- below the length there is an element
pub element_at : {X : Type 0} (xs : List X) (k : ℕ) → k < length xs → (x : X) × (slice_get xs k ≡ Some x)
element_at [] k lt = absurd (omega arith)
element_at (x ∷ xs) zero lt = (x, refl)
element_at (x ∷ xs) (suc k) lt = element_at xs k (omega arith)

-- which is the one that is read there, whatever stands for a missing one
pub there : {X : Type 0} (xs : List X) (k : ℕ) (d : X) → k < length xs
    → slice_get xs k ≡ Some (slice_index_or xs k d)
there [] k d lt = absurd (omega arith)
there (z ∷ zs) zero d lt = refl
there (z ∷ zs) (suc k) d lt = there zs k d (omega arith)

-- one place has one element
pub same : {X : Type 0} (o : Option X) (x y : X) → o ≡ Some x → o ≡ Some y → x ≡ y
same o x y at at' = cc

-- what holds of one element holds of the list of it alone
pub only_one : {X : Type 0} (P : X → Type 0) (x : X) → P x → All P (x ∷ [])
only_one P x is zero d lt = is
only_one P x is (suc k) d lt = absurd (omega arith)

-- lists that are the same after a place are so after the next
pub rest_later : {X : Type 0} (old now : List X) (at : ℕ) → drop at now ≡ drop at old
    → drop (at + 1) now ≡ drop (at + 1) old
rest_later {X} old now at rest =
    ap (λ n. drop n now) (add-one at) ∙ one_less at now ∙ ap (λ xs. drop 1 xs) rest ∙ sym (one_less at old)
    ∙ ap (λ n. drop n old) (sym (add-one at))
  where
    one_less : (n : ℕ) (xs : List X) → drop (suc n) xs ≡ drop 1 (drop n xs)
    one_less zero xs = refl
    one_less (suc n) [] = refl
    one_less (suc n) (x ∷ xs) = one_less n xs
