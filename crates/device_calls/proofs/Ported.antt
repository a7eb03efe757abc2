-- A card behind a port may be written where its session writes.
use Rattle.std.proofs.Common.{◌≡◌, inl, inr, ⊎_elim, ℕ, ◌+◌, ◌*◌, ◌≤◌, Bool, Option, List, [], ◌∷◌, refl, ap, subst, arith}
use Rattle.std.specs.Borrow.{GName}
use Rattle.std.specs.Prelude.{IfErr, Result, Ok, Err}
use Rattle.activity_codec.specs.declared.entries.Entry.{Entry}
use Rattle.trace_model.specs.declared.Card.{Card}
use Rattle.tacho_types.specs.declared.texts.Registration.{Registration}
use Rattle.tach_media.specs.Medium.{State, LiesInside, LeavesOnly, HasCause, Reads, Layer, Reference, Commands, lent}
use Rattle.tach_media.proofs.Runs.{at_image, if_told}
use Rattle.card_layout.specs.declared.files.Application.{Application}
use Rattle.card_layout.specs.Files.{files_of, place_of, size_of, image_size_of}
use Rattle.card_layout.proofs.Sizes.{largest_image, days_at, vehicles_at, events_at, use_at}
use Rattle.card_layout.specs.declared.command.CardState.{CardState}
use Rattle.card_layout.specs.declared.command.ElementaryFile.{ElementaryFile}
use Rattle.card_session.specs.gated_ring.Ring.{size_of as ring_size}
use Rattle.card_commands.specs.Ports.{IsPort, port_state, writable_of}
use Rattle.card_commands.proofs.Updated.{updated_writable}
use Rattle.card_validity.specs.card_image.Fields.{file, day_string, vehicle_ring}
use Rattle.card_session.specs.Sessions.{MayKeep, MayClose}
use Rattle.card_session.specs.Inserting.{MayInsert, IsCardInserting}
use Rattle.unit_rule.specs.history_model.Book.{Book}
use Rattle.device_calls.specs.declared.entering.Entered.{Entered}
use Rattle.device_calls.specs.declared.entering.NotEntered.{NotEntered}
use Rattle.device_calls.specs.declared.entering.NotEntered.TheVariants.{UnitFailed, CardFailed, NotValid, TimeOverlap}
use Rattle.device_calls.specs.Entering.{IsInTime, owed_on, IsRefused, IsEntering}
use Rattle.device_calls.specs.OnCard.{IsOnItsCard}
use Rattle.device_calls.specs.Rule.{Both}

lies_front : (ranges : List (ℕ × ℕ)) (place m n : ℕ) → m ≤ n → LiesInside ranges place n → LiesInside ranges place m
lies_front [] place m n le lies = lies
lies_front (r ∷ ranges) place m n le lies = ⊎_elim (λ here. inl (here.0, omega (arith, here.1, le))) (λ rest. inr (lies_front ranges place m n le rest)) lies

days_may : (app : Application) → LiesInside (writable_of app) (day_string app).base (4 + (day_string app).size)
unfolding files_of
days_may app =
    let at : 43 + 144 * app.events + 48 * app.faults ≡ place_of app (file 0x0504) = omega arith in
    subst (λ (p : ℕ). LiesInside (writable_of app) p (4 + app.activity)) at (updated_writable app (file 0x0504) _ (days_at app) refl)

vehicles_may : (app : Application) → LiesInside (writable_of app) (vehicle_ring app).base (ring_size (vehicle_ring app))
unfolding files_of
vehicles_may app =
    let wide : 2 + 31 * app.vehicles ≡ ring_size (vehicle_ring app) = omega arith in
    subst (λ (n : ℕ). LiesInside (writable_of app) (place_of app (file 0x0505)) n) wide (updated_writable app (file 0x0505) _ (vehicles_at app) refl)

events_may : (app : Application) → LiesInside (writable_of app) (place_of app (file 0x0502)) (size_of app (file 0x0502))
unfolding files_of
events_may app =
    let at : 43 ≡ place_of app (file 0x0502) = omega arith in
    let wide : 144 * app.events ≡ size_of app (file 0x0502) = omega arith in
    subst (λ (p : ℕ). LiesInside (writable_of app) p (size_of app (file 0x0502))) at (subst (λ (n : ℕ). LiesInside (writable_of app) 43 n) wide (updated_writable app (file 0x0502) _ (events_at app) refl))

use_may : (app : Application) → LiesInside (writable_of app) (place_of app (file 0x0507)) 19
unfolding files_of
use_may app = updated_writable app (file 0x0507) _ (use_at app) refl

module _ {app : Application} {selected : Option ElementaryFile} {card : CardState} {s : State} (port : IsPort app selected card s) where
  pub may_keep_port : MayKeep app (port_state app s)
  may_keep_port = record { fits = omega (arith, largest_image app port.good, port.size); days = days_may app; vehicles = vehicles_may app }

  pub may_close_port : MayClose app (port_state app s)
  may_close_port = record { keep = may_keep_port; session = lies_front (writable_of app) (place_of app (file 0x0507)) 4 19 (omega arith) (use_may app) }

  pub may_insert_port : MayInsert app (port_state app s)
  may_insert_port = record { keep = may_keep_port; events = events_may app; current = use_may app }

-- ---- what is said of a port is said of its card

same_layers : (a b : Application) (m n : GName) (p q : ℕ) (v w : List (ℕ × ℕ)) (k l : List Layer) → Commands b q w ∷ Reference n ∷ l ≡ Commands a p v ∷ Reference m ∷ k → (q ≡ p) × (w ≡ v) × (l ≡ k)
same_layers a b m n p q v w k l is = (cc, cc, cc)

same_sizes : (a b : Application) (m n : GName) (p q : ℕ) (v w : List (ℕ × ℕ)) (k l : List Layer) → Commands b q w ∷ Reference n ∷ l ≡ Commands a p v ∷ Reference m ∷ k → b ≡ a
same_sizes a b m n p q v w k l is = cc

module _ (a b : Application) (m n : GName) (X Y : State) where
  pub port_same : {R : List ℕ → List ℕ → Type 0} → LeavesOnly (port_state a (lent m X)) (port_state b (lent n Y)) R → b ≡ a
  port_same {R} l = same_sizes a b m n X.size Y.size X.writable Y.writable X.layers Y.layers l.layers

  pub port_leaves : {R : List ℕ → List ℕ → Type 0} → b ≡ a → LeavesOnly (port_state a (lent m X)) (port_state b (lent n Y)) R → LeavesOnly X Y R
  port_leaves {R} same l =
      let parts = same_layers a b m n X.size Y.size X.writable Y.writable X.layers Y.layers l.layers in
      let sizes : image_size_of b ≡ image_size_of a = ap image_size_of same in
      record {
        size = parts.0;
        behind = omega (arith, l.behind, parts.0, sizes);
        writable = parts.1;
        layers = parts.2;
        tells = l.tells;
        later = l.later;
        since = l.since;
        now = l.now;
        keeps = l.keeps;
      }

  pub port_cause : {failed : Bool} → HasCause (port_state a (lent m X)) (port_state b (lent n Y)) failed → HasCause X Y failed
  port_cause cause = record { works = cause.works; broken = cause.broken; already = cause.already; faults = cause.faults; fault = cause.fault; breakdowns = cause.breakdowns; breaks = cause.breaks; unbroken = cause.unbroken; once = cause.once; tells = record { later = cause.tells.later; told = cause.tells.told } }

  pub port_reads : {failed : Bool} → b ≡ a → Reads (port_state a (lent m X)) (port_state b (lent n Y)) failed → Reads X Y failed
  port_reads same reads = record { same = reads.same; leaves = port_leaves same reads.leaves; clock = reads.clock; cause = port_cause reads.cause }

  pub port_on : (r : Both) (which : Card) (k : Book) (session : ℕ) (e : Entry) (failed : Bool) (U : State) → IsOnItsCard r which k session e failed U (port_state b (lent n Y)) → IsOnItsCard r which k session e failed U Y
  port_on r which k session e failed U on = record { kept = λ well. on.kept well; torn = λ bad. on.torn bad }

  module _ (app : Application) (registration : Registration) (odometer now : ℕ) (U V : State) (same : b ≡ a) where
    refused_port : (f : NotEntered) → IsRefused app now (port_state a (lent m X)) (port_state b (lent n Y)) f → IsRefused app now X Y f
    refused_port UnitFailed refused = port_reads same refused
    refused_port CardFailed refused = tt
    refused_port (NotValid fid place) refused = (port_reads same refused.0, refused.1)
    refused_port (TimeOverlap stored at) refused = (port_reads same refused.0, refused.1, refused.2, refused.3)

    refused_ported : (r : Result Entered NotEntered) → IfErr r (IsRefused app now (port_state a (lent m X)) (port_state b (lent n Y))) → IfErr r (IsRefused app now X Y)
    refused_ported (Ok e) refused = tt
    refused_ported (Err f) refused = refused_port f refused

    pub port_in_time : IsInTime app now (port_state a (lent m X)) (port_state b (lent n Y)) → IsInTime app now X Y
    port_in_time is = ⊎_elim (λ only. inl (port_leaves same only)) (λ early. inr early) is

    pub port_enters : (r : Result Entered NotEntered) → IsEntering app registration odometer now U V (port_state a (lent m X)) (port_state b (lent n Y)) r → IsEntering app registration odometer now U V X Y r
    port_enters r enters = record {
      unit = enters.unit;
      accepted = enters.accepted;
      refused = refused_ported r enters.refused;
      moments = if_told U.image _ (λ u told. port_leaves same (at_image (λ u. LeavesOnly (port_state a (lent m X)) (port_state b (lent n Y)) (λ x c. IsCardInserting app registration odometer (owed_on app u x) now x c)) told enters.moments));
      begun = ⊎_elim (λ only. inl (port_leaves same only)) (λ both. inr both) enters.begun;
      settled = enters.settled;
      cause = port_cause enters.cause;
      most = enters.most;
    }
