-- What a turn leaves of unit and cards: the minutes that are kept, and the note behind them.
use Rattle.std.proofs.Common.{◌≡◌, Bool, true, false, not, List, refl, arith}
use Rattle.std.specs.Prelude.{map}
use Rattle.trace_model.specs.declared.Card.TheVariants.{A, B}
use Rattle.tach_media.specs.Medium.{State, IsCoherent, LeavesOnly}
use Rattle.unit_model.specs.minute_model.declared.Minute.{Minute}
use Rattle.unit_notes.specs.Journal.{LeavesJournal}
use Rattle.device_calls.specs.safety_model.Safe.{Devices}
use Rattle.run_minutes.specs.run_promise.Found.{Found}
use Rattle.run_minutes.specs.run_promise.Between.{RunLedger, devices}
use Rattle.device_calls.specs.run_unit_course.Legs.{all_travelled}
use Rattle.run_minutes.proofs.run_devices.Noted.{noted-powered, noted-powerless}
use Rattle.run_minutes.proofs.run_devices.Travelled.{travelled-noted}
use Rattle.run_minutes.specs.declared.keeper.Moment.{Moment}
use Rattle.run_minutes.specs.Minutes.{Done, Reach, Whole, Short, KeepingState, IsReach}
use Rattle.run_minutes.specs.Deeds.{AllKeep, kepts_on}
use Rattle.run_minutes.specs.Books.{AreBooked, HaveTime, AreTimedOn}
use Rattle.run_minutes.specs.Decided.{BooksAll, carried_by, readings_of}
use Rattle.run_acts.specs.Booked.{IsTurnReach, BooksTurn}

-- the unit failed in one of the minutes
pub turn-cut : (decided : List Minute) (at : Moment) (t u : KeepingState) (d e : Devices) (reach : Reach) → IsReach decided at true t u reach → BooksAll decided true reach t u d e → (r : Reach) × IsTurnReach decided at true t u r × BooksTurn decided true r t u d e
turn-cut decided at t u d e (Whole xs) is books = absurd is
turn-cut decided at t u d e (Short xs m round) is books = (Short xs m round, is, books)

-- all are kept, and what has ended is noted
module _ (decided : List Minute) (at : Moment) (t u : KeepingState) (d : Devices) (U V X Y : State) (whole : IsCoherent U) (run : LeavesOnly U V LeavesJournal) where
  earlier : HaveTime (devices V X Y) → HaveTime (devices U X Y)
  earlier time = record { unit = omega (arith, time.unit, run.later); card_a = time.card_a; card_b = time.card_b }

  noted-booked : (f : Found) (w : RunLedger) → AreBooked f w u.keeper.cabin.cards u.marks.items (devices U X Y) → V.works ≡ true → AreBooked f w u.keeper.cabin.cards u.marks.items (devices V X Y)
  noted-booked f w booked works = record {
    found = booked.found;
    powered = noted-powered f w u.keeper.cabin.cards U V X Y booked.found whole booked.powered run works;
    told = booked.told;
    early = booked.early;
  }

  -- no card is touched by the note
  cards-same : (f : Found) → AreTimedOn f (readings_of t.keeper decided) d (devices U X Y) → AreTimedOn f (readings_of t.keeper decided) d (devices V X Y)
  cards-same f timed A = timed A
  cards-same f timed B = timed B

  cards-keep : (f : Found) → AllKeep f (kepts_on t.keeper decided) t.keeper.cabin.cards u.keeper.cabin.cards d (devices U X Y) → AllKeep f (kepts_on t.keeper decided) t.keeper.cabin.cards u.keeper.cabin.cards d (devices V X Y)
  cards-keep f all A = all A
  cards-keep f all B = all B

  pub turn-noted : (reach : Reach) → IsReach decided at false t u reach → BooksAll decided false reach t u d (devices U X Y) → (failed : Bool) → V.works ≡ not failed
      → (r : Reach) × IsTurnReach decided at failed t u r × BooksTurn decided failed r t u d (devices V X Y)
  turn-noted (Short xs m round) is books failed works = absurd is
  turn-noted (Whole xs) is books false works = (
    Whole xs,
    is,
    λ f w start g may gone stored time.
        let booked = books f w start g may gone stored (earlier time) in
        ((noted-booked f (carried_by t.keeper xs w) booked.0.0 works, travelled-noted start (carried_by t.keeper xs w).book (all_travelled (map (λ (x : Done). x.minute) xs) g) booked.0.1 whole run), cards-same f booked.1, λ well. cards-keep f (booked.2 refl)),
  )
  turn-noted (Whole xs) is books true works = (
    Whole xs,
    is,
    λ f w start g may gone stored time.
        let booked = books f w start g may gone stored (earlier time) in (
          (
            noted-powerless f (carried_by t.keeper xs w) u.keeper.cabin.cards U V X Y booked.0.0.found whole booked.0.0.powered run,
            travelled-noted start (carried_by t.keeper xs w).book (all_travelled (map (λ (x : Done). x.minute) xs) g) booked.0.1 whole run,
          ),
          cards-same f booked.1,
          λ well. absurd (cc),
        ),
  )
