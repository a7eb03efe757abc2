-- Entries from their fields.
use Rattle.std.proofs.Common.{◌≡◌, ◌∙◌, sym, ap, ℕ, List, [], ◌∷◌, ◌++◌, length, refl}
use Rattle.std.proofs.lemmas.List.{append-nil}
use Rattle.std.specs.Prelude.{slice_index_or}
use Rattle.byteorder.specs.Endian.{big_number}
use Rattle.card_layout.proofs.Cuts.{cut-joined}
use Rattle.tacho_types.specs.declared.numbers.TimeReal.{TimeReal}
use Rattle.tacho_types.specs.declared.numbers.Odometer.{Odometer}
use Rattle.tacho_types.specs.declared.texts.Registration.{Registration}
use Rattle.tacho_types.specs.Numbers.{time_of, odometer_of}
use Rattle.card_files.specs.declared.card_event.CardEvent.{CardEvent}
use Rattle.card_files.specs.declared.vehicle.Vehicle.{Vehicle}
use Rattle.card_files.specs.Events.{event_of, event_widths}
use Rattle.card_files.specs.Vehicles.{vehicle_of, vehicle_widths}

pub registration_is : (r : Registration) (bytes : List ℕ) → r.0 ≡ bytes → r ≡ record { 0 = bytes }
registration_is r bytes e = ap (λ (x : List ℕ). let v : Registration = record { 0 = x } in v) e

-- ---- events

pub same_event : (k k' : ℕ) (b b' e e' : TimeReal) (r r' : Registration) → k ≡ k' → b ≡ b' → e ≡ e' → r ≡ r'
    → (let x : CardEvent = record { kind = k; begin = b; end = e; registration = r } in x) ≡ record { kind = k'; begin = b'; end = e'; registration = r' }
same_event k k' b b' e e' r r' ek eb ee er = rw (ek, eb, ee, er) refl

read_event_fields : List (List ℕ) → CardEvent
read_event_fields fields =
    record {
      kind = big_number 1 (slice_index_or fields 0 []);
      begin = time_of (slice_index_or fields 1 []);
      end = time_of (slice_index_or fields 2 []);
      registration = record { 0 = slice_index_or fields 3 [] };
    }

pub event_of-joined : (k b e r : List ℕ) → length k ≡ 1 → length b ≡ 4 → length e ≡ 4 → length r ≡ 15
    → event_of (k ++ (b ++ (e ++ r))) ≡ record { kind = big_number 1 k; begin = time_of b; end = time_of e; registration = record { 0 = r } }
unfolding event_of read_event_fields
event_of-joined k b e r lk lb le lr =
    ap (λ (last : List ℕ). event_of (k ++ (b ++ (e ++ last)))) (sym (append-nil r))
    ∙ ap read_event_fields (cut-joined event_widths (k ∷ b ∷ e ∷ r ∷ []) (lk, (lb, (le, (lr, refl)))))

-- ---- vehicles

pub same_vehicle : (o o' p p' : Odometer) (f f' l l' : TimeReal) (r r' : Registration) (c c' : List ℕ) → o ≡ o' → p ≡ p' → f ≡ f' → l ≡ l' → r ≡ r' → c ≡ c'
    → (let x : Vehicle = record { odometer_begin = o; odometer_end = p; first_use = f; last_use = l; registration = r; counter = c } in x)
    ≡ record { odometer_begin = o'; odometer_end = p'; first_use = f'; last_use = l'; registration = r'; counter = c' }
same_vehicle o o' p p' f f' l l' r r' c c' eo ep ef el er ec = rw (eo, ep, ef, el, er, ec) refl

read_vehicle_fields : List (List ℕ) → Vehicle
read_vehicle_fields fields =
    record {
      odometer_begin = odometer_of (slice_index_or fields 0 []);
      odometer_end = odometer_of (slice_index_or fields 1 []);
      first_use = time_of (slice_index_or fields 2 []);
      last_use = time_of (slice_index_or fields 3 []);
      registration = record { 0 = slice_index_or fields 4 [] };
      counter = slice_index_or fields 5 [];
    }

pub vehicle_of-joined : (o p f l r c : List ℕ) → length o ≡ 3 → length p ≡ 3 → length f ≡ 4 → length l ≡ 4 → length r ≡ 15 → length c ≡ 2
    → vehicle_of (o ++ (p ++ (f ++ (l ++ (r ++ c)))))
    ≡ record { odometer_begin = odometer_of o; odometer_end = odometer_of p; first_use = time_of f; last_use = time_of l; registration = record { 0 = r }; counter = c }
unfolding vehicle_of read_vehicle_fields
vehicle_of-joined o p f l r c lo lp lf ll lr lc =
    ap (λ (last : List ℕ). vehicle_of (o ++ (p ++ (f ++ (l ++ (r ++ last)))))) (sym (append-nil c))
    ∙ ap read_vehicle_fields (cut-joined vehicle_widths (o ∷ p ∷ f ∷ l ∷ r ∷ c ∷ []) (lo, (lp, (lf, (ll, (lr, (lc, refl)))))))
