-- An insertion, whole: what was judged of a card is what a session over it knows.
use Rattle.std.proofs.Common.{◌≡◌, ◌≢◌, ℕ, ◌/◌, ◌<◌, Bool, true, false, Option, Some, None, List, IfSome, refl, ◌∙◌, subst, arith}
use Rattle.std.specs.Prelude.{nat_eq}
use Rattle.std.proofs.lemmas.Bool.Decides.{nat_tests}
use Rattle.activity_codec.specs.declared.entries.Entry.{Entry}
use Rattle.tacho_types.specs.declared.texts.Registration.{Registration}
use Rattle.card_layout.specs.declared.files.Application.{Application}
use Rattle.tach_media.specs.Medium.{State, LeavesOnly, Reads}
use Rattle.tach_media.proofs.Runs.{weaken, after_reads, where_told, at_image}
use Rattle.card_files.specs.declared.vehicle.Vehicle.{Vehicle}
use Rattle.card_validity.specs.card_image.Fields.{last_use_of, session_time}
use Rattle.card_validity.specs.declared.files.Judged.{Judged}
use Rattle.card_validity.specs.Judged.{IsKnown, IsJudged}
use Rattle.card_session.specs.declared.words.TheConstants.{LATEST_MINUTE}
use Rattle.card_session.specs.Sessions.{Session, IsSession, book_of}
use Rattle.card_session.specs.Parts.{DoesPart}
use Rattle.card_session.specs.Inserting.{Takes, IsTaken, IsTaking, IsCardInserted, IsCardInserting}
use Rattle.card_session.proofs.Told.{session}
use Rattle.card_session.proofs.InsertingValid.{valid_open, valid_closed}

-- a session over a card that was judged
abbrev pub judged_session : Application → Judged → Registration → ℕ → Session
judged_session app j g m = session app j.days j.vehicles j.newest j.vehicle g m None

zero_test : (n : ℕ) → n ≡ 0 → nat_eq n 0 ≡ true
zero_test n is = grind (arith, nat_tests)

some_test : (n : ℕ) → n ≢ 0 → nat_eq n 0 ≡ false
some_test n is = grind (arith, nat_tests)

pub takes_judged : (app : Application) (x : List ℕ) (j : Judged) (g : Registration) (m : ℕ) → IsKnown app x j → last_use_of j.vehicle / 60 < LATEST_MINUTE → Takes (judged_session app j g m) j.current x
unfolding book_of
takes_judged app x j g m known low =
    let are = known.days.holds.ordered in
    record {
      knows = record { days = known.days; points = known.points; newest = known.newest; vehicle = known.vehicle };
      current_is = known.current;
      mark = subst (λ (o : Option Vehicle). last_use_of o / 60 < LATEST_MINUTE) known.vehicle low;
      ready = λ none. let good = valid_closed app x are known.passes (zero_test (session_time app x) none) in record { ends = good.0; strict = good.1 };
      strict = λ some. valid_open app x are known.passes (some_test (session_time app x) some);
    }

module _ (app : Application) (j : Judged) (g : Registration) (m odometer now : ℕ) (owed : List Entry) (low : last_use_of j.vehicle / 60 < LATEST_MINUTE) (u : Session) (old mid : State) (reads : Reads old mid false)
    (judged : IfSome old.image (λ x. IsJudged app x j)) where
  takes : (x : List ℕ) → old.image ≡ Some x → Takes (judged_session app j g m) j.current x
  takes x was = takes_judged app x j g m (at_image (λ x. IsJudged app x j) was judged).known low

  module _ {new : State} {failed : Bool} (part : DoesPart mid new failed (IsTaken (judged_session app j g m) u j.current odometer owed now) (IsTaking (judged_session app j g m) j.current odometer owed now)) where
    pub whole_moments : LeavesOnly old new (IsCardInserting app g odometer owed now)
    whole_moments = weaken (after_reads reads.leaves (reads.same refl) part.leaves) (λ x c was one. one (takes x was))

    both : failed ≡ false → (x y : List ℕ) → old.image ≡ Some x → new.image ≡ Some y → IsCardInserted app g odometer owed now x y × IsSession u y
    both fine x y was is =
        at_image (λ y. IsTaken (judged_session app j g m) u j.current odometer owed now x y) is
        (at_image (λ x. IfSome new.image (IsTaken (judged_session app j g m) u j.current odometer owed now x)) (reads.same refl ∙ was) (part.done fine)) (takes x was)

    pub whole_inserted : failed ≡ false → IfSome old.image (λ x. IfSome new.image (IsCardInserted app g odometer owed now x))
    whole_inserted fine = where_told old.image new.image (IsCardInserted app g odometer owed now) (λ x y was is. (both fine x y was is).0)

    pub whole_session : failed ≡ false → IfSome old.image (λ x. IfSome new.image (IsSession u))
    whole_session fine = where_told old.image new.image (λ x y. IsSession u y) (λ x y was is. (both fine x y was is).1)
