use Rattle.std.proofs.Common.{◌≡◌, ℕ, zero, suc, [], ◌∷◌, ◌++◌, Option, None, Some, ap, sym, subst, ◌∙◌, arith}
use Rattle.std.specs.Prelude.{IfSome, slice_index_or}
use Rattle.std.proofs.lemmas.Option.{none-some}
use Rattle.live_book.specs.Books.{IsMadeFor, LiveView}
use Rattle.live_book.specs.Inside.Lists.{AreMadeFor}
use Rattle.live_book.specs.Mades.{MadeView}
use Rattle.tests_live.proofs.stepping.listed.Goals as goal

-- the only value is for the only change
one_made : (b : LiveView) (made : Option MadeView) → IfSome made (IsMadeFor b 0) → (c : ℕ) (m : MadeView)
    → slice_index_or (made ∷ []) c None ≡ Some m → IsMadeFor b c m
one_made b None for_it zero m at = absurd (none-some m at)
one_made b (Some x) for_it zero m at = subst (λ (o : Option MadeView). IfSome o (IsMadeFor b 0)) at for_it
one_made b made for_it (suc c) m at = absurd (none-some m at)

pub returns : goal.returns
returns c =
    let b = c.args.book.now in
    let items = c.in_ok-push.ensures.items ∙ ap (λ list. list ++ c.args.made ∷ []) c.new-list.ensures.items in
    subst (AreMadeFor b) (sym items) (record {
      count = sym c.requires.one;
      few = omega (arith, c.requires.one);
      each = one_made b c.args.made c.requires.for_it;
    })
