use Rattle.std.proofs.Common.{◌≡◌, ◌<◌, sym, subst, ◌∙◌, arith}
use Rattle.std.proofs.lemmas.List.{get_or-take}
use Rattle.std.specs.Prelude.{slice_index}
use Rattle.run_course.specs.Inside.Keeping.{IsRoomFor}
use Rattle.run_course.proofs.ran.ready.Goals as goal

pub returns-clause-ready : goal.returns-clause-ready
returns-clause-ready c = (
  record {
    course_is = c.in-Ok.ensures.same.0;
    rounds_are = c.in-Ok.ensures.same.1;
    agrees = c.in-Ok.ensures.agree;
    keeps = λ trace core a at lt.
        let small : core < c.cores-cores.result = omega (arith, lt, c.cores-cores.ensures.cores) in
        let kept : a.keep ≡ slice_index c.in_ok-keep.keep core =
        c.in-Ok.ensures.keeps core a at ∙ get_or-take _ _ _ _ small in
        subst (IsRoomFor c.args.course.now c.args.rounds core) (sym kept) (c.in_ok-keep.ensures.keeps trace core lt);
  },
  c.in-Ok-room.ensures.room,
)
