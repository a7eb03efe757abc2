-- The insertion of a card that is accepted tells its newest vehicle entry, as an image of it does that a stop may leave.
use Rattle.device_calls.specs.card_image.View.{card_view}
use Rattle.std.proofs.Common.{◌≡◌, ◌∙◌, ℕ, ◌^◌, ◌<◌, Bool, false, Option, Some, None, List, [], ◌∷◌, length, refl, ap, sym, subst, arith}
use Rattle.tach_media.specs.Medium.{State}
use Rattle.tacho_types.specs.declared.texts.Registration.{Registration}
use Rattle.tach_media.specs.card_layout.declared.files.Application.{Application}
use Rattle.device_calls.specs.card_files.declared.vehicle.Vehicle.{Vehicle}
use Rattle.device_calls.specs.card_image.Fields.{newest_vehicle}
use Rattle.device_calls.specs.card_image.Own.{own_sizes, IsOwnValid}
use Rattle.device_calls.specs.card_validity.declared.looking.CardLook.{CardLook}
use Rattle.device_calls.specs.card_session.Sessions.{book_of}
use Rattle.run_acts.specs.message_model.Records.{insertion_ring}
use Rattle.run_acts.specs.unit_notes.Entries.{insertion_bytes}
use Rattle.run_acts.specs.unit_notes.Fields.{InsertionFits}
use Rattle.run_acts.proofs.unit_notes.EntryFields.{tells_insertion}
use Rattle.run_minutes.specs.run_promise.Found.{CardFound}
use Rattle.run_insertion.specs.declared.lines.Entering.{Entering}
use Rattle.run_insertion.specs.Entering.{Way, Unread, Unsized, Judged, Unfit, Ahead, Fell, Unasked, Unnoted, Seated, Lost, ending_of, previous_of, previous_time_of, insertion_of}
use Rattle.run_insertion.specs.Entered.{FitsInsertion, IsWay, IsFoundIn}
use Rattle.run_acts.specs.Comings.{VehicleTold, told_in, told_of, TellMore}
use Rattle.run_acts.proofs.Comings.{leaves-more, insertion-more}
use Rattle.run_minutes.proofs.run_devices.OnCards.{valid-own}
use Rattle.run_acts.proofs.EnteredStays.{TellsBy}
use Rattle.recorder_with_cards.specs.EnteredRings.{InsertsAt, WritesBy}
use Rattle.recorder_with_cards.proofs.EnteredHolder.{previous-long, previous-low}

-- what is told of it, by its own bytes
previous-told : (v : Option Vehicle) (told : VehicleTold) → told ≡ record { registration = (previous_of v).0; time = previous_time_of v } → told ≡ told_of v
previous-told None told is = is
previous-told (Some v) told is = is

newest-of : (app : Application) (x : List ℕ) → (book_of app x).vehicles.newest ≡ newest_vehicle app x
unfolding book_of
newest-of app x = refl

module _ (look : CardLook) (e : Entering) (sized : FitsInsertion look) (small : e.at.second < 2 ^ 32) (few : e.odometer.0 < 2 ^ 24) where
  fits : InsertionFits (insertion_of look e)
  fits = record {
    surname = sized.surname;
    first = sized.first;
    number = sized.number;
    previous = previous-long look.previous sized.previous;
    expiry = sized.expiry;
    time = small;
    odometer = few;
    out_time = omega arith;
    out_odometer = omega arith;
    previous_time = previous-low look.previous sized.previous;
  }

  whole-bytes : length (insertion_bytes (insertion_of look e)) ≡ insertion_ring.width
  whole-bytes = (tells_insertion (insertion_of look e) fits).size

  its-vehicle : told_in (insertion_bytes (insertion_of look e)) ≡ told_of look.previous
  its-vehicle =
      let t = tells_insertion (insertion_of look e) fits in
      previous-told look.previous (told_in (insertion_bytes (insertion_of look e))) (λ i. record { registration = t.previous i; time = t.previous_time i })

-- SO IT TELLS, by what became of it, where no call failed
pub way-tells : (f : CardFound) (registration : Registration) (e : Entering) (failed : Bool) (unit : Option (List ℕ)) (U W X Y : State) → failed ≡ false → e.at.second < 2 ^ 32 → e.odometer.0 < 2 ^ 24 →
    (y : List ℕ) → X.may_leave y → (IsOwnValid f.image → own_sizes y ≡ own_sizes f.image) → (way : Way) → IsWay way registration e failed unit X Y → IsFoundIn e.at.second unit way y → WritesBy (ending_of way) e failed U W → TellsBy e.at.second (ending_of way) f U W X
way-tells f registration e failed unit U W X Y fine small few y at sizes Unread is found writes = tt
way-tells f registration e failed unit U W X Y fine small few y at sizes (Unsized field) is found writes = leaves-more U W writes
way-tells f registration e failed unit U W X Y fine small few y at sizes (Judged app (Unfit fid place)) is found writes = leaves-more U W writes
way-tells f registration e failed unit U W X Y fine small few y at sizes (Judged app (Ahead stored)) is found writes = (leaves-more U W writes, (y, at, valid-own app y found.0 found.1.0, (λ valid. found.1.1 ∙ ap (λ (a : Application). (card_view a y).stored) (sym found.0 ∙ sizes valid)), found.1.2))
way-tells f registration e failed unit U W X Y fine small few y at sizes (Judged app Fell) is found writes = tt
way-tells f registration e failed unit U W X Y fine small few y at sizes (Judged app Unasked) is found writes = tt
way-tells f registration e failed unit U W X Y fine small few y at sizes (Judged app (Unnoted entered clock)) is found writes = tt
way-tells f registration e failed unit U W X Y fine small few y at sizes (Judged app (Seated entered clock entry)) is found writes = (
  subst (λ (v : VehicleTold). TellMore (v ∷ []) U W) (its-vehicle entered.look e is.1.sized small few)
      (insertion-more entry (insertion_bytes (insertion_of entered.look e)) U W (whole-bytes entered.look e is.1.sized small few)
      (subst (λ (b : Bool). InsertsAt b entry (insertion_of entered.look e) U W) fine writes)),
  λ valid. (y, at, found.1.looked.previous ∙ ap (λ (a : Application). newest_vehicle a y) (sym found.0 ∙ sizes valid) ∙ sym (newest-of (own_sizes f.image) y)),
)
way-tells f registration e failed unit U W X Y fine small few y at sizes (Judged app (Lost entered clock entry)) is found writes = tt
