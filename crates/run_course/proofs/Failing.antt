-- A power-on that fails at once.
use Rattle.std.proofs.Common.{◌≡◌, inl, ℕ, Bool, true, not, Option, List, [], ◌∷◌, is_some, refl, ap, sym, subst, ◌∙◌, arith, append-nil}
use Rattle.trace_model.specs.Trace.{TraceSecond}
use Rattle.minute_model.specs.declared.Rule.{Rule}
use Rattle.log_model.specs.declared.lines.Break.{Break}
use Rattle.log_model.specs.Log.{RunLog, In, cut_in}
use Rattle.log_model.specs.Course.{Went, Course, Before, unmoved, fresh, cut_told, has_power, second_told, went}
use Rattle.history_model.specs.Presence.{Start}
use Rattle.run_unit_course.specs.Lines.{cut_at}
use Rattle.run_unit_course.specs.Followed.{UnitPower, Lit, Due, Lost, MayFail}
use Rattle.run_course.specs.Moments.{and_break}
use Rattle.run_course.specs.Followed.{Progress, Comes, IsSupplied, BookFollowsRun}
use Rattle.run_course.specs.Seconds.{GoesOnBy, next_told}
use Rattle.run_course.specs.Within.{not_begun}
use Rattle.run_course.specs.Caused.{AreNewCauses}
use Rattle.run_course.proofs.Moments.{both-still}
use Rattle.run_course.proofs.Steps.{went-same_}
use Rattle.run_course.proofs.Told.{comes-power, lost-comes}
use Rattle.run_course.specs.Reached.{course_at, IsUpTo}
use Rattle.run_course.specs.Telling.{told_with, APowerOnIsCut}
use Rattle.run_course.proofs.Reached.{TellsNothing, nothing-told}
use Rattle.run_course.proofs.Moment.{HasCourse, entered-here}
use Rattle.run_course.proofs.Telling.{cut-now, lit-as, cut-course, cut-causes}

comes-by : (rule : Rule) (start : Start) (from first : ℕ) (done : List TraceSecond) (p : Progress) → BookFollowsRun rule start from first done p → MayFail p.supply p.next → Comes (went p.log done).before p.next
comes-by rule start from first done p f may = by p.supply refl may f.power
  where
    by : (sp : UnitPower) → p.supply ≡ sp → MayFail sp p.next → IsSupplied p.supply (went p.log done).before p.next → Comes (went p.log done).before p.next
    by (Lit []) is may h = subst (λ (s : UnitPower). IsSupplied s (went p.log done).before p.next) is h
    by (Lit (t ∷ span)) is may h = absurd may
    by Due is may h = subst (λ (s : UnitPower). IsSupplied s (went p.log done).before p.next) is h p.next
    by Lost is may h = lost-comes (went p.log done).before p.next (subst (λ (s : UnitPower). IsSupplied s (went p.log done).before p.next) is h) may

pub power-on_cut : APowerOnIsCut
power-on_cut rule start from first done p f may s number given mid later more broke =
    let before : Before = (went p.log done).before in
    let cut : Break = cut_at s.number true 0 in
    let log : RunLog = and_break p.log cut in
    let none : TellsNothing p.log s.number = nothing-told rule start from first done p f s.number (omega (arith, number)) in
    let comes = comes-by rule start from first done p f may in
    let power : has_power before s ≡ true = comes-power before s p.next comes number given in
    let starts : not before.running ≡ true = ap not comes.running in
    let up : IsUpTo p.log s.number (In 0) = record { uncut = none.cut; torn = λ ph slot behind. none.torn ph slot; found = λ ph slot behind. none.found ph slot } in
    let c : Course = fresh true before.slots in
    let course : course_at p.log before s (In 0) ≡ c =
    both-still p.log s.number (In 0) (unmoved (not before.running)) (fresh (not before.running) before.slots) (none.torn (In 0)) (none.found (In 0)) ∙ ap (λ (b : Bool). fresh b before.slots) starts in
    let goes : GoesOnBy p log s = record { number = number; given = given; breaks = (cut ∷ [], refl, (number, tt)); finds = ([], sym (append-nil p.log.finds), tt) } in
    let same : went log done ≡ went p.log done = went-same_ rule start from first done p f.order f.next f.unfound s log goes in
    let told : next_told log done s ≡ told_with true true s (cut_told true (not_begun s.actions c)) =
    ap (λ (w : Went). second_told log w.before s) same ∙ lit-as log before s power given
    ∙ ap (λ (b : Bool). told_with b (is_some (cut_in log s.number)) s (second_told log before s).course) starts
    ∙ ap (λ (o : Option ℕ). told_with true (is_some o) s (second_told log before s).course) (cut-now p.log s 0 none.cut)
    ∙ ap (told_with true true s) (cut-course p.log before s (In 0) s.actions power up ([], refl, refl) ∙ ap (λ (d : Course). cut_told true (not_begun s.actions d)) course) in
    let parts : HasCourse true p s (In 0) p.log c.entered mid mid c = record {
      number = number;
      given = given;
      breaks = [];
      breaks_are = sym (append-nil p.log.breaks);
      breaks_here = tt;
      finds = [];
      finds_are = sym (append-nil p.log.finds);
      finds_here = tt;
      refused = [];
      refused_are = sym (append-nil p.log.refused);
      refusals = refl;
      uncut = tt;
      unit = omega arith;
      tear_lines = refl;
      failed_tears = λ slot. refl;
      torn_cards = λ card. inl (omega arith);
      calm_cards = λ card none. refl;
      begun = tt;
      moments = tt;
      told_finds = refl;
      judged = λ e at. inl (record { among = at; none = refl });
      counted = λ card. omega arith;
      found_now = tt;
    } in (
      told,
      subst (AreNewCauses mid later (cut ∷ []) [] [] log s) (sym told)
          (cut-causes p s (In 0) p.log c.entered mid mid later c true s.actions up ([], refl, refl) (entered-here true before.slots) more broke parts),
    )
