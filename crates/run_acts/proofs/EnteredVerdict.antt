-- What may be found of a card that enters.
use Rattle.std.proofs.Common.{◌≡◌, inl, inr, ⊎_elim, ℕ, ◌≤◌, ◌<◌, Option, Some, is_some, None, option_map, List, [], ◌∷◌, ◌++◌, drop, length, refl, ap, sym, subst, ◌∙◌, arith, true, false}
use Rattle.activity_codec.specs.declared.entries.Entry.{Entry}
use Rattle.trace_model.specs.declared.Card.{Card}
use Rattle.trace_model.specs.declared.Card.TheVariants.{A, B}
use Rattle.trace_model.specs.Trace.{TraceSecond}
use Rattle.tach_media.specs.Medium.{State, IsCoherent}
use Rattle.minute_rules.specs.Kept.{Kept}
use Rattle.card_files.specs.card_layout.declared.files.Application.{Application}
use Rattle.card_files.specs.card_layout.declared.files.Fid.{Fid}
use Rattle.card_files.specs.card_layout.Application.{application_in, first_bad_field, place_of_field}
use Rattle.card_files.specs.card_layout.Files.{files_of}
use Rattle.hand_model.specs.card_image.Judging.{first_bad_file, first_bad_of, file_check, file_checks, IsValid}
use Rattle.hand_model.specs.card_image.View.{CardView, card_view}
use Rattle.hand_model.specs.card_image.Own.{own_sizes, own_view, own_number, own_bad_file, IsOwnValid}
use Rattle.device_calls.proofs.OnCard.{own-is}
use Rattle.log_model.specs.declared.lines.Verdict.TheVariants.{Accepted, NotValid, TimeOverlap}
use Rattle.log_model.specs.Log.{In}
use Rattle.log_model.specs.Course.{Visit}
use Rattle.device_calls.specs.device_rule.Rules.{Out}
use Rattle.device_calls.specs.device_rule.Views.{unit_view, owed}
use Rattle.device_calls.specs.safety_model.Recording.{card_image, unit_seen}
use Rattle.device_calls.specs.safety_model.Safe.{card_of}
use Rattle.run_minutes.specs.run_promise.Found.{found_of}
use Rattle.run_minutes.specs.run_devices.Told.{arranged, with_standing, card_marks}
use Rattle.run_minutes.proofs.run_devices.OnCards.{valid-own}
use Rattle.run_outcome.specs.declared.outcome.Outcome.{Outcome}
use Rattle.run_minutes.specs.run_promise.Origin.{Origin}
use Rattle.run_minutes.specs.run_promise.Beside.{HaveLeftMore}
use Rattle.run_minutes.specs.declared.keeper.Keeper.{Keeper}
use Rattle.device_calls.specs.declared.entering.Entered.{Entered}
use Rattle.run_insertion.specs.declared.lines.Entering.{Entering}
use Rattle.run_insertion.specs.Entering.{APPLICATION_FILE}
use Rattle.run_insertion.specs.Told.{IsToldSo}
use Rattle.run_record.specs.Within.{course_in, often, VerdictBy, RecordInSecond}
use Rattle.run_acts.specs.Entered.{values_with, MayJudge}
use Rattle.run_acts.proofs.EnteredFacts.{mine-back, unit-back, before, was, now-is, unit-began, card-began}
use Rattle.run_acts.proofs.EnteredNewest.{written-or, in-time}
use Rattle.run_acts.proofs.EnteredLater.{behind, before-here}
use Rattle.run_acts.proofs.EnteredFirst.{brings}

-- ---- of an image

pub bad-sizes : (x : List ℕ) (field : ℕ) → first_bad_field (application_in x) ≡ Some field → own_bad_file x ≡ Some (APPLICATION_FILE, place_of_field field)
unfolding own_bad_file first_bad_file files_of
bad-sizes x field is = ap (λ (bad : Option ℕ). first_bad_of (file_check 0x0501 (option_map place_of_field bad) ∷ drop 1 (file_checks (own_sizes x) x))) is

pub bad-file : (app : Application) (x : List ℕ) (bad : Option (Fid × ℕ)) → own_sizes x ≡ app → first_bad_file app x ≡ bad → own_bad_file x ≡ bad
unfolding own_bad_file
bad-file app x bad own is = ap (λ (a : Application). first_bad_file a x) own ∙ is

-- ---- what is owed to a card goes by its own row

owed-a : (a b d u : List ℕ) (y : CardView) → owed A (unit_view a b u) y ≡ owed A (unit_view a d u) y
unfolding unit_view
owed-a a b d u y = refl

owed-b : (a b d u : List ℕ) (y : CardView) → owed B (unit_view a b u) y ≡ owed B (unit_view d b u) y
unfolding unit_view
owed-b a b d u y = refl

owed-as : (o : Origin) (c : Card) (u : List ℕ) (y : CardView) → (found_of o.found c).number ≡ own_number (card_image o.recording c) → owed c (unit_view o.found.card_a.number o.found.card_b.number u) y ≡ owed c (unit_seen o.recording u) y
owed-as o A u y is = ap (λ (n : List ℕ). owed A (unit_view n o.found.card_b.number u) y) is ∙ owed-a (own_number o.recording.card_a) o.found.card_b.number (own_number o.recording.card_b) u y
owed-as o B u y is = ap (λ (n : List ℕ). owed B (unit_view o.found.card_a.number n u) y) is ∙ owed-b o.found.card_a.number (own_number o.recording.card_b) (own_number o.recording.card_a) u y

module _ (o : Origin) (done : List TraceSecond) (s : TraceSecond) (n : ℕ) (waits fewer : List Visit) (e : Entering) (k : Keeper) (out : Outcome) (unfound next_ begun : ℕ) (minutes : Kept) (U X Z : State) (w : RecordInSecond o done s (In n) waits None [] (values_with k out unfound next_ begun minutes) (arranged e.which U X Z)) (m : MayJudge o done s n waits fewer e k out unfound next_ begun minutes U X Z w) (coherent : IsCoherent X) (coherent_unit : IsCoherent U) (W Y : State) (left : HaveLeftMore o (arranged e.which U X Z) (arranged e.which W Y Z)) where
  -- what the card might have left it might have left still
  card-left : (y : List ℕ) → X.may_leave y → (card_of (arranged e.which W Y Z) e.which).left_since (found_of o.found e.which).began y
  card-left y there = left.card e.which y (mine-back e.which U X Z (λ (a : State). a.left_since (found_of o.found e.which).began y) (coherent.counts_now (found_of o.found e.which).began y (card-began o done s n waits fewer e k out unfound next_ begun minutes U X Z w m) there))

  unit-left : (u : List ℕ) → U.may_leave u → (arranged e.which W Y Z).unit.left_since o.found.unit.began u
  unit-left u there = left.unit u (unit-back e.which U X Z (λ (a : State). a.left_since o.found.unit.began u) (coherent_unit.counts_now o.found.unit.began u (unit-began o done s n waits fewer e k out unfound next_ begun minutes U X Z w m) there))

  -- a valid card is valid
  valid-still : IsOwnValid (card_image o.recording e.which) → (y : List ℕ) → X.may_leave y → IsOwnValid y
  valid-still valid y there =
      let valid_ = subst IsOwnValid (sym (m.origin.image e.which)) valid in
      ((was o done s n waits fewer e k out unfound next_ begun minutes U X Z w m).mine valid_).valid y (coherent.counts_now (found_of o.found e.which).began y (card-began o done s n waits fewer e k out unfound next_ begun minutes U X Z w m) there)

  -- NOT VALID
  pub not-valid : (fid : Fid) (place : ℕ) (y : List ℕ) → X.may_leave y → own_bad_file y ≡ Some (fid, place) →
      (many : ℕ) × (many ≤ often o w.b done (course_in w.b done s (In n) (values_with k out unfound next_ begun minutes).log) s.number e.which) × VerdictBy o w.b done many out.marks.items ((arranged e.which W Y Z).unit.left_since o.found.unit.began) ((card_of (arranged e.which W Y Z) e.which).left_since (found_of o.found e.which).began) e.which s.number (NotValid fid place)
  not-valid fid place y there bad = (
    0,
    omega arith,
    (
      ⊎_elim
          (λ whole. ap own_bad_file (sym (whole y there)) ∙ bad)
          (λ may. absurd (clash (valid-still may.valid y there)))
          (written-or o done s n waits fewer e k out unfound next_ begun minutes U X Z w m coherent),
      tt,
    ),
  )
    where
      clash : own_bad_file y ≡ None → ⊥
      clash none = let both : false ≡ true = ap (λ (q : Option (Fid × ℕ)). is_some q) (sym none ∙ bad) in cc

  -- OF A LATER TIME
  pub later-time : (app : Application) (stored : ℕ) (y : List ℕ) → X.may_leave y → own_sizes y ≡ app → IsValid app y → stored ≡ (card_view app y).stored → s.number < stored →
      (many : ℕ) × (many ≤ often o w.b done (course_in w.b done s (In n) (values_with k out unfound next_ begun minutes).log) s.number e.which) × VerdictBy o w.b done many out.marks.items ((arranged e.which W Y Z).unit.left_since o.found.unit.began) ((card_of (arranged e.which W Y Z) e.which).left_since (found_of o.found e.which).began) e.which s.number (TimeOverlap stored e.at.second)
  later-time app stored y there own valid is late =
      let seen : (own_view y).stored ≡ stored = ap (λ (v : CardView). v.stored) (own-is app y own) ∙ sym is in (
        often o w.b done (course_in w.b done s (In n) (values_with k out unfound next_ begun minutes).log) s.number e.which,
        omega arith,
        (
          ⊎_elim
              (λ whole. (
                subst IsOwnValid (whole y there) (valid-own app y own valid),
                now-is o done s n waits fewer e k out unfound next_ begun minutes U X Z w m,
                (late, inl (sym seen ∙ ap (λ (x : List ℕ). (own_view x).stored) (whole y there))),
              ))
              (λ may.
              let late_ : s.number < (own_view y).stored = omega (arith, late, seen) in
              let at_ = behind o done s n waits fewer e k out unfound next_ begun minutes U X Z w m coherent coherent_unit y there late_ may in
              let low = may.since.stored in
              let past = may.since.past in (
                may.valid,
                now-is o done s n waits fewer e k out unfound next_ begun minutes U X Z w m,
                (late, inr (omega (arith, low, past), before-here o done s n waits fewer e k out unfound next_ begun minutes U X Z w m coherent coherent_unit y there late_ may, sym seen ∙ at_.0, (y, card-left y there, seen))),
              ))
              (written-or o done s n waits fewer e k out unfound next_ begun minutes U X Z w m coherent),
          tt,
        ),
      )

  -- ACCEPTED
  pub accepted-may : (entered : Entered) (clock : ℕ) (told : IsToldSo o.found (with_standing e.which Out (before o done s n waits fewer e k out unfound next_ begun minutes U X Z w m)) e entered U X) →
      (many : ℕ) × (many ≤ often o w.b done (course_in w.b done s (In n) (values_with k out unfound next_ begun minutes).log) s.number e.which) × VerdictBy o w.b done many (out.marks.items ++ card_marks e.which clock entered.owed.items) ((arranged e.which W Y Z).unit.left_since o.found.unit.began) ((card_of (arranged e.which W Y Z) e.which).left_since (found_of o.found e.which).began) e.which s.number (Accepted entered.replayed)
  accepted-may entered clock told =
      let valid = subst IsOwnValid (m.origin.image e.which) told.valid in
      let i = told.found.unit_image in
      let x = told.found.card_image in (
        often o w.b done (course_in w.b done s (In n) (values_with k out unfound next_ begun minutes).log) s.number e.which,
        omega arith,
        (
          (
            valid,
            in-time o done s n waits fewer e k out unfound next_ begun minutes U X Z w m coherent entered told,
            (
              i,
              x,
              unit-left i told.found.on,
              card-left x told.found.there,
              (let early : (own_view x).stored ≤ e.at.second = told.found.early in let now = now-is o done s n waits fewer e k out unfound next_ begun minutes U X Z w m in omega (arith, early, now)),
              ap (λ (es : List Entry). length es) (sym (owed-as o e.which i (own_view x) (m.origin.number e.which valid))) ∙ told.found.number,
            ),
          ),
          brings o done s n waits fewer e k out unfound next_ begun minutes U X Z w m coherent entered clock told,
        ),
      )
