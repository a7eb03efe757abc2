-- Worked rows of the sessions that are found open: a card is put in, driven, and put in again; and of the uses that its insertions find.
use Rattle.std.proofs.Common.{◌≡◌, inl, ⊎_elim, ℕ, ◌≤◌, true, false, List, [], ◌∷◌, refl, sym, ◌∙◌, arith}
use Rattle.run_events.specs.activity_codec.declared.values.Slot.TheVariants.{Driver}
use Rattle.run_devices.specs.trace_model.declared.Card.{Card}
use Rattle.run_devices.specs.trace_model.declared.Card.TheVariants.{A}
use Rattle.run_devices.specs.trace_model.declared.Action.{Action}
use Rattle.run_devices.specs.trace_model.declared.Action.TheVariants.{Insert, Withdraw, Tear}
use Rattle.run_devices.specs.trace_model.Trace.{TraceSecond}
use Rattle.run_devices.specs.tacho_types.declared.texts.Registration.{Registration}
use Rattle.run_events.specs.card_files.declared.current_use.CurrentUse.{CurrentUse}
use Rattle.run_devices.specs.log_model.declared.lines.Break.TheVariants.{Tear as Torn}
use Rattle.run_devices.specs.log_model.declared.lines.Find.{Find}
use Rattle.run_devices.specs.log_model.declared.lines.Verdict.TheVariants.{Accepted}
use Rattle.run_devices.specs.log_model.Log.{RunLog, In, cut_in, is_torn_in, found_in}
use Rattle.run_devices.specs.log_model.Course.{ToldSecond, Visit, second_told, not_begun, went}
use Rattle.run_devices.specs.note_model.Done.{done_of}
use Rattle.run_devices.specs.note_model.Noted.{notes_of}
use Rattle.run_note_record.specs.Opened.{session_in, times_put, HasComeBefore, AreFirst}
use Rattle.run_note_record.specs.Uses.{uses_from, use_behind, insertions_on, times_of}
use Rattle.run_devices.proofs.run_course.Telling.{each-of}

-- a second with power
abbrev second : (number speed : ℕ) → List Action → TraceSecond
second number speed actions = record { number = number; has_power = true; speed = speed; actions = actions }

-- a card is put in and withdrawn, and put in again in the second after that
abbrev visits_twice : List TraceSecond
visits_twice = second 1267401600 0 (Insert Driver A ∷ []) ∷ second 1267401601 0 (Withdraw Driver ∷ []) ∷ second 1267401602 0 (Insert Driver A ∷ []) ∷ []

abbrev found : (second : ℕ) → Find
found second = record { second = second; slot = Driver; verdict = Accepted 0; begun = 1 }

abbrev accepted : RunLog
accepted = record { breaks = []; refused = []; finds = found 1267401600 ∷ found 1267401602 ∷ [] }

abbrev first_told : ToldSecond
first_told = second_told accepted not_begun.before (second 1267401600 0 (Insert Driver A ∷ []))

abbrev visit : Visit
visit = record { phase = In 1; slot = Driver; card = A }

-- at the first time it has not come before,
comes_first : HasComeBefore (went accepted visits_twice).told visits_twice A 1267401600 → ⊥
unfolding went cut_in is_torn_in found_in
comes_first come = ⊎_elim
    (λ past.
    let before = past.2 in
    let late = each-of (λ (t : ToldSecond). 1267401600 ≤ t.second.number) (went accepted visits_twice).told past.0 (omega arith, (omega arith, (omega arith, tt))) past.1 in
    absurd (omega (arith, before, late)))
    (λ twice.
    let often = twice.3 in
    let once = each-of (λ (s : TraceSecond). times_put A s ≤ 1) visits_twice twice.0 (omega arith, (omega arith, (omega arith, tt))) twice.1 in
    absurd (omega (arith, often, once)))
    come

-- so a session that was left open on it before the run is told then: that none was is refused;
open_session : (start : Card → List ℕ) → session_in (start A) ≡ 1267300000 → AreFirst start (went accepted visits_twice).told visits_twice (λ u visit. 0) → ⊥
unfolding went cut_in is_torn_in found_in
open_session start is first = ⊎_elim
    (λ same. let wrong : 1267300000 ≡ 0 = sym is ∙ same in absurd (omega (arith, wrong)))
    (λ come. comes_first come)
    (first first_told (visit, Accepted 0) (0, omega arith, refl) (0, omega arith, refl) refl)

-- and at the second time it has come before
comes_again : HasComeBefore (went accepted visits_twice).told visits_twice A 1267401602
unfolding went cut_in is_torn_in found_in
comes_again = inl (first_told, (0, omega arith, refl), omega arith, refl)

-- ---- the uses of its insertions

-- the card is put in and withdrawn, put in again and pulled out, and put in a third time
abbrev visits_thrice : List TraceSecond
visits_thrice =
    second 1267401600 0 (Insert Driver A ∷ []) ∷ second 1267401601 0 (Withdraw Driver ∷ []) ∷ second 1267401602 0 (Insert Driver A ∷ []) ∷ second 1267401603 0 (Tear Driver ∷ []) ∷ second 1267401604 0 (Insert Driver A ∷ []) ∷ []

abbrev thrice : RunLog
thrice = record { breaks = Torn 1267401603 Driver false 1 false ∷ []; refused = []; finds = found 1267401600 ∷ found 1267401602 ∷ found 1267401604 ∷ [] }

-- at the first time it tells the session of its image at the start, at the second time none, since it was withdrawn, and at the third time that of the second
thrice_uses : (own : Registration) (held : CurrentUse) → times_of (uses_from own held (insertions_on A (notes_of thrice (done_of thrice visits_thrice)))) ≡ held.session.0 ∷ 0 ∷ 1267401602 ∷ []
unfolding notes_of done_of cut_in is_torn_in found_in
thrice_uses own held = refl

-- and the third session is left open, in this vehicle
thrice_left : (own : Registration) (held : CurrentUse) → use_behind own held (insertions_on A (notes_of thrice (done_of thrice visits_thrice))) ≡ record { session = record { 0 = 1267401604 }; registration = own }
unfolding notes_of done_of cut_in is_torn_in found_in
thrice_left own held = refl
