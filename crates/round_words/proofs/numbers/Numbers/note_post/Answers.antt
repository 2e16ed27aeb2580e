use Rattle.std.proofs.Common.{◌∙◌, sym, refl, arith}
use Rattle.round_words.specs.Views.{controller, part, posts}
use Rattle.round_words.proofs.ListLemmas.{length_push}
use Rattle.round_words.proofs.NumbersLemmas.{agree_same, as_before}
use Rattle.round_words.proofs.numbers.Numbers.note_post.Goals as goal

pub returns : goal.returns
returns c = λ v floor has next agrees.
    agree_same c.args.self.now _ v controller (posts (part v controller) floor) agrees has (λ k. as_before (part v controller) k) refl refl
    agrees.floor_is
    (λ e. next ∙ sym (length_push (part v controller).floors floor)) (λ away. absurd (away refl))
    (λ lt. absurd (omega arith)) (λ k away. refl) (λ lt. absurd (omega arith)) (λ k away. refl) refl refl
