-- Where vCPUs run, with one more mark at the end.
use Rattle.std.proofs.Common.{◌≡◌, ◌≢◌, ℕ, ◌<◌, ◌==◌, ◌&&◌, Bool, true, false, not, if◌then◌else◌, List, [], ◌∷◌, ◌++◌, length, get_or, reverse, set, Option, Some, None, ap, refl, sym, ◌∙◌, ⊎_elim, arith, subst}
use Rattle.std.proofs.lemmas.Bool.{and_from, and_left, and_parts, both_ways, cases_Bool, cases_eq, cases_lt, eq-eqb, eqb-true, ne_eqb, not-true}
use Rattle.std.proofs.lemmas.List.{append-nil, get_or-set_other, get_or-set_same, get_or_default, get_or_past, length-set}
use Rattle.std.proofs.lemmas.List.Folds.{Any-from_list_any, list_any_at, list_any_none}
use Rattle.std.proofs.lemmas.List.Sorted.{IsPermutation-reverse, list_any-IsPermutation}
use Rattle.std.specs.List.{find, list_any}
use Rattle.std.specs.Option.{is_some, option_and_then}
use Rattle.host_trace.specs.declared.mark.Mark.{Mark}
use Rattle.host_judge.specs.Clashes.{IsCountOf, are_same, are_two, cpu_by, cpu_of_run, is_doubled, lines_where, shares_cpu}
use Rattle.host_judge.specs.Inside.Clashed.{HasClashes}
use Rattle.host_judge.specs.Traces.{last_that}
use Rattle.host_judge.specs.declared.clashes.Clashes.{Clashes}
use Rattle.host_judge.specs.declared.report.LineCount.{LineCount}
use Rattle.host_judge.proofs.MarkLemmas.{last_that-push}
use Rattle.host_judge.proofs.TraceLemmas.{lines_where-push}

-- ---- tests of numbers that may be known

-- neither test passes where a number isn't known
none_same : (one : Option ℕ) → are_same None one ≡ false
none_same None = refl
none_same (Some one) = refl

same_none : (one : Option ℕ) → are_same one None ≡ false
same_none None = refl
same_none (Some one) = refl

none_two : (one : Option ℕ) → are_two one None ≡ false
none_two None = refl
none_two (Some one) = refl

two_none : (one : Option ℕ) → are_two None one ≡ false
two_none None = refl
two_none (Some one) = refl

-- what is the same as a known number
same_known : (one : Option ℕ) (number : ℕ) → are_same one (Some number) ≡ true → one ≡ Some number
same_known None number is = absurd (both_ways false refl is)
same_known (Some one) number is = ap Some (eqb-true one number is)

-- what differs from a known number
two_known : (one two : Option ℕ) (number : ℕ) → two ≡ Some number → are_two one two ≡ true
    → (other : ℕ) × (one ≡ Some other) × (other ≢ number)
two_known None two number is differs = absurd (both_ways (are_two None two) (two_none two) differs)
two_known (Some one) two number is differs =
    let known : not (one == number) ≡ true = subst (λ o. are_two (Some one) o ≡ true) is differs in (
      one,
      refl,
      λ same. both_ways (one == number) (not-true (one == number) known) (eq-eqb one number same),
    )

-- two answers that follow from each other
same_answer : (one two : Bool) → (one ≡ true → two ≡ true) → (two ≡ true → one ≡ true) → one ≡ two
same_answer true two to from = sym (to refl)
same_answer false true to from = from refl
same_answer false false to from = refl

-- no vCPU runs on a CPU that isn't known
pub none_on : (cpus : List (Option ℕ)) → list_any (λ other. are_same other None) cpus ≡ false
none_on [] = refl
none_on (cpu ∷ cpus) = rw (same_none cpu) (none_on cpus)

-- ---- where a vCPU runs

-- after a mark of it
cpu_by-own : (marks : List Mark) (mark : Mark) (vcpu : Option ℕ) → are_same mark.vcpu vcpu ≡ true
    → cpu_by (marks ++ mark ∷ []) vcpu ≡ cpu_of_run mark
cpu_by-own marks mark vcpu own =
    ap (option_and_then cpu_of_run) (last_that-push (λ m. are_same m.vcpu vcpu) marks mark
    ∙ ap (λ b. if b then Some mark else last_that (λ m. are_same m.vcpu vcpu) marks) own)

-- the CPU after a mark of another vCPU
cpu_by-other : (marks : List Mark) (mark : Mark) (vcpu : Option ℕ) → are_same mark.vcpu vcpu ≡ false
    → cpu_by (marks ++ mark ∷ []) vcpu ≡ cpu_by marks vcpu
cpu_by-other marks mark vcpu other =
    ap (option_and_then cpu_of_run) (last_that-push (λ m. are_same m.vcpu vcpu) marks mark
    ∙ ap (λ b. if b then Some mark else last_that (λ m. are_same m.vcpu vcpu) marks) other)

-- what is found passes each test that follows
found_passes : (test next : Mark → Bool) (marks : List Mark) → ((mark : Mark) → test mark ≡ true → next mark ≡ true)
    → is_some (find test marks) ≡ true → list_any next marks ≡ true
found_passes test next [] follows some = some
found_passes test next (mark ∷ marks) follows some = ⊎_elim
    (λ here. rw (follows mark here) refl)
    (λ not_here.
    let rest : is_some (find test marks) ≡ true = rw not_here at some in
    ⊎_elim (λ yes. rw yes refl) (λ no. rw no (found_passes test next marks follows rest)) (cases_Bool (next mark)))
    (cases_Bool (test mark))

-- what is made of nothing is nothing
some_before : {X Y : Type 0} (make : X → Option Y) (one : Option X) → is_some (option_and_then make one) ≡ true
    → is_some one ≡ true
some_before make None some = some
some_before make (Some one) some = refl

-- what is the same as a number is known
known_same : (one two : Option ℕ) → are_same one two ≡ true → is_some one ≡ true
known_same None two same = absurd (both_ways (are_same None two) (none_same two) same)
known_same (Some one) two same = refl

-- a vCPU that runs by the marks has one of them
has_mark : (marks : List Mark) (vcpu cpu : Option ℕ) (next : Mark → Bool)
    → ((mark : Mark) → are_same mark.vcpu vcpu ≡ true → next mark ≡ true)
    → are_same (cpu_by marks vcpu) cpu ≡ true → list_any next marks ≡ true
has_mark marks vcpu cpu next follows on =
    list_any-IsPermutation next marks (reverse marks) (IsPermutation-reverse marks)
    ∙ found_passes (λ m. are_same m.vcpu vcpu) next (reverse marks) follows
    (some_before cpu_of_run (last_that (λ m. are_same m.vcpu vcpu) marks) (known_same (cpu_by marks vcpu) cpu on))

-- ---- another runs there

-- the list by vCPU says where each runs by the marks
abbrev pub AreCpus : List Mark → List (Option ℕ) → Type 0
AreCpus marks cpus = (vcpu : ℕ) → cpu_by marks (Some vcpu) ≡ get_or cpus vcpu None

-- one of the list but this vCPU, which a mark shows
listed_shows : (marks : List Mark) (cpus : List (Option ℕ)) (vcpu : ℕ) (mark : Mark) → mark.vcpu ≡ Some vcpu
    → AreCpus marks cpus → vcpu < length cpus
    → list_any (λ other. are_same other (cpu_of_run mark)) (set cpus vcpu None) ≡ true → shares_cpu marks mark ≡ true
listed_shows marks cpus vcpu mark is are low any =
    let found = Any-from_list_any (λ other. are_same other (cpu_of_run mark)) (set cpus vcpu None) any in
    ⊎_elim
    (λ same. absurd (
    let here : get_or (set cpus vcpu None) vcpu found.1 ≡ None = get_or-set_same cpus vcpu None found.1 low in
    let none : found.1 ≡ None =
    sym (sym (ap (λ i. get_or (set cpus vcpu None) i found.1) same ∙ here) ∙ found.3) in
    both_ways (are_same None (cpu_of_run mark)) (none_same (cpu_of_run mark)) (rw none at found.4)))
    (λ other.
    let there : get_or cpus found.0 found.1 ≡ found.1 =
    sym (get_or-set_other cpus vcpu found.0 None found.1 other) ∙ found.3 in
    let low_other : found.0 < length cpus = omega (arith, found.2, length-set cpus vcpu None) in
    let on : cpu_by marks (Some found.0) ≡ found.1 =
    are found.0 ∙ get_or_default cpus found.0 None found.1 low_other ∙ there in
    let on_cpu : are_same (cpu_by marks (Some found.0)) (cpu_of_run mark) ≡ true = rw on found.4 in
    has_mark marks (Some found.0) (cpu_of_run mark)
    (λ m. are_two m.vcpu mark.vcpu && are_same (cpu_by marks m.vcpu) (cpu_of_run mark))
    (λ m own.
    let named : m.vcpu ≡ Some found.0 = same_known m.vcpu found.0 own in
    rw (named, is) (and_from (not (found.0 == vcpu)) (are_same (cpu_by marks (Some found.0)) (cpu_of_run mark))
    (ap not (ne_eqb found.0 vcpu other)) on_cpu)) on_cpu)
    (cases_eq found.0 vcpu)

-- a mark of another vCPU, which is in the list
shown_listed : (marks : List Mark) (cpus : List (Option ℕ)) (vcpu : ℕ) (mark : Mark) → mark.vcpu ≡ Some vcpu
    → AreCpus marks cpus → shares_cpu marks mark ≡ true
    → list_any (λ other. are_same other (cpu_of_run mark)) (set cpus vcpu None) ≡ true
shown_listed marks cpus vcpu mark is are any =
    let found = Any-from_list_any
    (λ m. are_two m.vcpu mark.vcpu && are_same (cpu_by marks m.vcpu) (cpu_of_run mark)) marks any in
    let both = and_parts (are_two found.1.vcpu mark.vcpu)
    (are_same (cpu_by marks found.1.vcpu) (cpu_of_run mark)) found.4 in
    let two = two_known found.1.vcpu mark.vcpu vcpu is both.0 in
    let on_cpu : are_same (cpu_by marks (Some two.0)) (cpu_of_run mark) ≡ true =
    subst (λ o. are_same (cpu_by marks o) (cpu_of_run mark) ≡ true) two.1 both.1 in
    let listed : are_same (get_or cpus two.0 None) (cpu_of_run mark) ≡ true =
    subst (λ o. are_same o (cpu_of_run mark) ≡ true) (are two.0) on_cpu in
    let stays : get_or (set cpus vcpu None) two.0 None ≡ get_or cpus two.0 None =
    get_or-set_other cpus vcpu two.0 None None two.2 in
    ⊎_elim
    (λ low. list_any_at (λ other. are_same other (cpu_of_run mark)) (set cpus vcpu None) two.0 None
    (omega (arith, low, length-set cpus vcpu None)) (rw stays listed))
    (λ past. absurd (
    let none : get_or cpus two.0 None ≡ None = get_or_past cpus two.0 None past in
    both_ways (are_same None (cpu_of_run mark)) (none_same (cpu_of_run mark)) (rw none at listed)))
    (cases_lt two.0 (length cpus))

-- the list answers as the marks do
shared_is : (marks : List Mark) (cpus : List (Option ℕ)) (vcpu : ℕ) (mark : Mark) → mark.vcpu ≡ Some vcpu
    → AreCpus marks cpus → vcpu < length cpus
    → shares_cpu marks mark ≡ list_any (λ other. are_same other (cpu_of_run mark)) (set cpus vcpu None)
shared_is marks cpus vcpu mark is are low = same_answer (shares_cpu marks mark)
    (list_any (λ other. are_same other (cpu_of_run mark)) (set cpus vcpu None))
    (shown_listed marks cpus vcpu mark is are) (listed_shows marks cpus vcpu mark is are low)

-- ---- one more mark

-- the lines of a kind, with one more mark
pub counted_next : (test : List Mark → Mark → Bool) (marks : List Mark) (mark : Mark) (old new : LineCount) (one : Bool)
    → test marks mark ≡ one
    → ((lines : List ℕ) → IsCountOf lines old → IsCountOf (lines ++ (if one then mark.line ∷ [] else [])) new)
    → IsCountOf (lines_where test [] marks) old → IsCountOf (lines_where test [] (marks ++ mark ∷ [])) new
counted_next test marks mark old new one is next counted =
    rw (lines_where-push test [] marks mark, is) (next (lines_where test [] marks) counted)

-- the list after a mark
cpus_next : (marks : List Mark) (cpus : List (Option ℕ)) (vcpu : ℕ) (mark : Mark) → mark.vcpu ≡ Some vcpu
    → AreCpus marks cpus → vcpu < length cpus
    → AreCpus (marks ++ mark ∷ []) (set (set cpus vcpu None) vcpu (cpu_of_run mark))
cpus_next marks cpus vcpu mark is are low v = ⊎_elim
    (λ same.
    let own : are_same mark.vcpu (Some v) ≡ true = rw is (eq-eqb vcpu v (sym same)) in
    cpu_by-own marks mark (Some v) own
    ∙ sym (ap (λ i. get_or (set (set cpus vcpu None) vcpu (cpu_of_run mark)) i None) same
    ∙ get_or-set_same (set cpus vcpu None) vcpu (cpu_of_run mark) None (omega (arith, low, length-set cpus vcpu None))))
    (λ other.
    let not_own : are_same mark.vcpu (Some v) ≡ false = rw is (ne_eqb vcpu v (λ same. other (sym same))) in
    cpu_by-other marks mark (Some v) not_own ∙ are v
    ∙ sym (get_or-set_other (set cpus vcpu None) vcpu v (cpu_of_run mark) None other
    ∙ get_or-set_other cpus vcpu v None None other))
    (cases_eq v vcpu)

-- after a mark of a vCPU that the host has
pub clashes_known : (marks : List Mark) (mark : Mark) (old new : Clashes) (vcpu : ℕ) (from to : Option ℕ)
    (others : List (Option ℕ)) (one two : Bool) → HasClashes marks old → mark.vcpu ≡ Some vcpu
    → vcpu < length old.cpus.items → from ≡ get_or old.cpus.items vcpu None → to ≡ cpu_of_run mark
    → others ≡ set old.cpus.items vcpu None → one ≡ list_any (λ other. are_same other to) others
    → two ≡ are_two from to → new.cpus.items ≡ set others vcpu to
    → ((lines : List ℕ) → IsCountOf lines old.shared
    → IsCountOf (lines ++ (if one then mark.line ∷ [] else [])) new.shared)
    → ((lines : List ℕ) → IsCountOf lines old.doubled
    → IsCountOf (lines ++ (if two then mark.line ∷ [] else [])) new.doubled)
    → HasClashes (marks ++ mark ∷ []) new
clashes_known marks mark old new vcpu from to others one two has is low left comes rest shares doubles put shared doubled =
    let moved : new.cpus.items ≡ set (set old.cpus.items vcpu None) vcpu (cpu_of_run mark) =
    put ∙ ap (λ cpus. set cpus vcpu to) rest ∙ ap (set (set old.cpus.items vcpu None) vcpu) comes in
    let is_one : shares_cpu marks mark ≡ one =
    shared_is marks old.cpus.items vcpu mark is has.cpus low
    ∙ sym (shares ∙ ap (λ cpus. list_any (λ other. are_same other to) cpus) rest
    ∙ ap (λ cpu. list_any (λ other. are_same other cpu) (set old.cpus.items vcpu None)) comes) in
    let is_two : is_doubled marks mark ≡ two =
    ap (λ v. are_two (cpu_by marks v) (cpu_of_run mark)) is ∙ ap (λ cpu. are_two cpu (cpu_of_run mark)) (has.cpus vcpu)
    ∙ sym (doubles ∙ ap (λ cpu. are_two cpu to) left ∙ ap (are_two (get_or old.cpus.items vcpu None)) comes) in
    record {
      cpus = rw moved (cpus_next marks old.cpus.items vcpu mark is has.cpus low);
      shared = counted_next shares_cpu marks mark old.shared new.shared one is_one shared has.shared;
      doubled = counted_next is_doubled marks mark old.doubled new.doubled two is_two doubled has.doubled;
    }

-- a mark of no vCPU of the host's puts none beside another
not_shared : (marks : List Mark) (mark : Mark) → mark.vcpu ≡ None → shares_cpu marks mark ≡ false
not_shared marks mark is =
    list_any_none (λ m. are_two m.vcpu mark.vcpu && are_same (cpu_by marks m.vcpu) (cpu_of_run mark)) marks
    (λ k m low. rw is (and_left (are_two (get_or marks k m).vcpu None)
    (are_same (cpu_by marks (get_or marks k m).vcpu) (cpu_of_run mark)) (none_two (get_or marks k m).vcpu)))

-- no mark is of a vCPU that isn't known
none_found : (marks : List Mark) → find (λ m. are_same m.vcpu None) marks ≡ None
none_found [] = refl
none_found (mark ∷ marks) = rw (same_none mark.vcpu) (none_found marks)

-- a mark of no vCPU puts none on two CPUs
not_doubled : (marks : List Mark) (mark : Mark) → mark.vcpu ≡ None → is_doubled marks mark ≡ false
not_doubled marks mark is =
    ap (λ vcpu. are_two (cpu_by marks vcpu) (cpu_of_run mark)) is
    ∙ ap (λ found. are_two (option_and_then cpu_of_run found) (cpu_of_run mark)) (none_found (reverse marks))
    ∙ two_none (cpu_of_run mark)

-- lines that stay as they are
stays_counted : (test : List Mark → Mark → Bool) (marks : List Mark) (mark : Mark) (count : LineCount)
    → test marks mark ≡ false → IsCountOf (lines_where test [] marks) count
    → IsCountOf (lines_where test [] (marks ++ mark ∷ [])) count
stays_counted test marks mark count isnt counted =
    counted_next test marks mark count count false isnt (λ lines is. rw (append-nil lines) is) counted

-- after a mark of another
pub clashes_unknown : (marks : List Mark) (mark : Mark) (clashes : Clashes) → mark.vcpu ≡ None
    → HasClashes marks clashes → HasClashes (marks ++ mark ∷ []) clashes
clashes_unknown marks mark clashes is has = record {
  cpus = λ v. cpu_by-other marks mark (Some v) (rw is (none_same (Some v))) ∙ has.cpus v;
  shared = stays_counted shares_cpu marks mark clashes.shared (not_shared marks mark is) has.shared;
  doubled = stays_counted is_doubled marks mark clashes.doubled (not_doubled marks mark is) has.doubled;
}
