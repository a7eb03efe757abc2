-- What is carried of the rings, over each step.
use Rattle.std.proofs.Common.{◌≡◌, ◌⊎◌, inl, inr, ⊎_elim, ℕ, suc, ◌+◌, ◌<◌, ◌≤◌, Bool, true, false, not, ◌||◌, Option, Some, None, IfSome, option_map, List, [], ◌∷◌, ◌++◌, Contains, length, refl, ap, sym, subst, ◌∙◌, arith, append_assoc, append-nil, nat_lt}
use Rattle.std.specs.List.{AllByRecursion, list_any}
use Rattle.std.proofs.lemmas.Bool.{ltb-true, ltb-false}
use Rattle.std.proofs.lemmas.List.{length-append}
use Rattle.tach_media.specs.card_layout.Images.{bytes_at}
use Rattle.run_devices.specs.trace_model.declared.Card.{Card}
use Rattle.run_events.specs.gated_ring.Ring.{Shape, IsShape, PointsInside, size_of, next, indices, taken, staying}
use Rattle.run_events.specs.gated_ring.Change.{IsAdded, IsAdding}
use Rattle.run_events.proofs.gated_ring.Elsewhere.{ring_outside, ring_elsewhere, taken_elsewhere}
use Rattle.run_events.proofs.gated_ring.Listing.{taken_below}
use Rattle.run_events.specs.message_model.Records.{insertion_ring, unit_place_ring}
use Rattle.run_devices.specs.log_model.Log.{RunLog}
use Rattle.run_devices.specs.log_model.Slots.{same_card}
use Rattle.run_devices.specs.note_model.Done.{has_failed_in}
use Rattle.run_devices.specs.note_model.Odometer.{SpanFrom, odometer_at}
use Rattle.run_devices.specs.note_model.Noted.{Acceptance, InsertionNote, PlaceNote, Note, Accepts, Enters, insertions_of, places_of}
use Rattle.run_devices.specs.note_model.Rings.{Stand, AreNoFewer}
use Rattle.run_devices.specs.safety_model.Safe.{Devices}
use Rattle.run_note_record.specs.Opened.{HasComeBefore}
use Rattle.run_devices.specs.trace_model.Trace.{TraceSecond}
use Rattle.run_devices.specs.log_model.Course.{ToldSecond}
use Rattle.run_events.specs.run_rings.Carried.{RingKeeps}
use Rattle.run_events.proofs.run_rings.Carried.{carries-none, carries-same, carries-more}
use Rattle.run_events.proofs.run_rings.Indices.{index-stays, lies-next, lies-first}
use Rattle.run_events.proofs.run_rings.Standing.{stand-one}
use Rattle.run_events.proofs.run_rings.Few.{ring-stays, ring-takes, few-start, few-go, few-as, few-more}
use Rattle.run_note_record.specs.Origin.{Origin}
use Rattle.run_note_record.specs.Beside.{HaveLeftMore}
use Rattle.run_note_record.specs.Ringed.{holder_in, TellsIn, IsInsertionIn, IsPlaceIn, sure_insertion, sure_place, ShowsNotes, Seating, one_behind, LiesBehind, StandsAt, IsSeated, ShowsInsertions, Ringed, GoOn, NoRingIsWritten, RingsStay, FewerSit, IsAddedAt, MayBeAdded, Since}
use Rattle.run_note_record.specs.OnCards.{place_width, IsPlaceOn, VehiclesGo, SessionsGo, NoOtherComes, CardsGo, PlaceIsTaken}
use Rattle.run_note_record.specs.Moved.{Move, goes_in, IsPutIn}
use Rattle.run_note_record.specs.Sessions.{IsBrokenSince, OpensIn, Opens}
use Rattle.run_note_record.proofs.Sessions.{sessions-none, sessions-moved, sessions-go, sessions-accepted, opens-none, sessions-entered, broken-put, opens-put}
use Rattle.run_note_record.proofs.OnCards.{call-failed, whole-head, maybe, places-none, places-go, places-beside, places-taken, vehicles-none, vehicles-go, vehicles-moved}
use Rattle.run_note_record.proofs.Stands.{Weaker, stand-as, unsure-as, each-as, each-append, all-parts, all-of, all-each, insertions-more, places-more, insertion-as, place-as}

-- two images have their insertions at the same indices, and the next one comes to the same
abbrev pub HasSameTurn : (x y : List ℕ) → Type 0
HasSameTurn x y = (indices insertion_ring y ≡ indices insertion_ring x) × (taken insertion_ring y ≡ taken insertion_ring x)

pub insertion_shape : IsShape insertion_ring
insertion_shape = record { some = omega arith; gate = omega arith; pointer = omega arith; holds = λ _. omega arith; short = omega arith }

pub place_shape : IsShape unit_place_ring
place_shape = record { some = omega arith; gate = omega arith; pointer = omega arith; holds = λ _. omega arith; short = omega arith }

-- ---- what each image behind a call was written from, and nothing else
abbrev pub Writes : (R : List ℕ → List ℕ → Type 0) → (d e : Devices) → Type 0
Writes R d e = (y : List ℕ) → e.unit.may_leave y → (x : List ℕ) × d.unit.may_leave x × R x y

-- AT THE START
pub none-noted : (d : Devices) → NoRingIsWritten d
none-noted d o log spans start cards = record {
  insertions = λ ring x left. record {
    shows = record { more = []; carries = subst (λ (y : List ℕ). RingKeeps insertion_ring o.origin.recording.unit y []) (sym (start x left)) (carries-none insertion_ring o.origin.recording.unit ring); stand = refl; few = few-start insertion_ring (sure_insertion o.origin log spans) o.origin.recording.unit x ring (start x left) };
    seated = λ c. tt;
  };
  places = λ ring x left. record { more = []; carries = subst (λ (y : List ℕ). RingKeeps unit_place_ring o.origin.recording.unit y []) (sym (start x left)) (carries-none unit_place_ring o.origin.recording.unit ring); stand = refl; few = few-start unit_place_ring (sure_place o.origin log spans) o.origin.recording.unit x ring (start x left) };
  on_cards = places-none o.origin log spans d cards;
  vehicles = vehicles-none o.origin spans (IsPutIn o.moves) d cards;
  sessions = sessions-none o.origin o.moves log d cards;
}

-- FEWER CARDS
pub fewer-sit : (d : Devices) → FewerSit d
fewer-sit d o log spans notes seats fewer v each = record {
  insertions = λ ring x left. let was = v.insertions ring x left in record { shows = was.shows; seated = λ c. by c was (fewer c) (seats c) (each c) (was.seated c) };
  places = v.places;
  on_cards = v.on_cards;
  vehicles = v.vehicles;
  sessions = v.sessions;
}
  where
    by : (c : Card) {x : List ℕ} (was : ShowsInsertions o log spans notes seats d x) (q p : Option Seating) → (q ≡ p) ⊎ (q ≡ None) → IfSome p (λ s. IsSeated (sure_insertion o.origin log spans) (IsInsertionIn o log spans d) c s (insertions_of notes) was.shows.more x) →
        IfSome q (λ s. IsSeated (sure_insertion o.origin log spans) (IsInsertionIn o log spans d) c s (insertions_of notes) was.shows.more x)
    by c {x} was q p (inl same) is = subst (λ (t : Option Seating). IfSome t (λ s. IsSeated (sure_insertion o.origin log spans) (IsInsertionIn o log spans d) c s (insertions_of notes) was.shows.more x)) (sym same) is
    by c {x} was q p (inr none) is = subst (λ (t : Option Seating). IfSome t (λ s. IsSeated (sure_insertion o.origin log spans) (IsInsertionIn o log spans d) c s (insertions_of notes) was.shows.more x)) (sym none) tt

-- ---- as a log goes on, over devices

module _ (origin : Origin) (told told_now : List ToldSecond) (trace trace_now : List TraceSecond) (moves moves_now : List Move) (come : (c : Card) (u : ℕ) → HasComeBefore told trace c u → HasComeBefore told_now trace_now c u)
    (log later : RunLog) (spans now : List SpanFrom) (notes : List Note) (d e : Devices) (more : HaveLeftMore origin d e) (on : GoOn log later spans now notes) where
  abbrev since_was : Since
  since_was = record { origin = origin; told = told; trace = trace; moves = moves }

  abbrev since_now : Since
  since_now = record { origin = origin; told = told_now; trace = trace_now; moves = moves_now }

  pub tells-since : (u : ℕ) (c : Card) (registration : List ℕ) (time : ℕ) → TellsIn since_was d u c registration time → TellsIn since_now e u c registration time
  tells-since u c registration time tells = ((tells.0.0, more.card c tells.0.0 tells.0.1, tells.0.2), ⊎_elim (λ first. inl first) (λ before. inr (come c u before)) tells.1)

  pub weaker-since : AllByRecursion (Weaker (sure_insertion origin log spans) (sure_insertion origin later now) (IsInsertionIn since_was log spans d) (IsInsertionIn since_now later now e)) (insertions_of notes)
  weaker-since = all-of
      (λ (i : InsertionNote). (odometer_at i.accepted.second now ≡ odometer_at i.accepted.second spans) × IfSome i.withdrawn (λ u. odometer_at u now ≡ odometer_at u spans))
      (Weaker (sure_insertion origin log spans) (sure_insertion origin later now) (IsInsertionIn since_was log spans d) (IsInsertionIn since_now later now e))
      (λ i same. insertion-as log later spans now (holder_in origin) on.failed (TellsIn since_was d i.accepted.second) (TellsIn since_now e i.accepted.second) (tells-since i.accepted.second) i same)
      (insertions_of notes) on.insertions

  pub places-since : AllByRecursion (Weaker (sure_place origin log spans) (sure_place origin later now) (IsPlaceIn origin log spans) (IsPlaceIn origin later now)) (places_of notes)
  places-since = all-of
      (λ (p : PlaceNote). odometer_at p.second now ≡ odometer_at p.second spans)
      (Weaker (sure_place origin log spans) (sure_place origin later now) (IsPlaceIn origin log spans) (IsPlaceIn origin later now))
      (λ p same. place-as log later spans now (holder_in origin) on.failed p same)
      (places_of notes) on.places

  -- an accepted card stays, where the ring shows the same
  pub seated-since : (c : Card) (q : Option Seating) (ms : List (List ℕ)) (x y : List ℕ) → HasSameTurn x y →
      IfSome q (λ s. IsSeated (sure_insertion origin log spans) (IsInsertionIn since_was log spans d) c s (insertions_of notes) ms x) → IfSome q (λ s. IsSeated (sure_insertion origin later now) (IsInsertionIn since_now later now e) c s (insertions_of notes) ms y)
  seated-since c None ms x y same is = tt
  seated-since c (Some s) ms x y same is =
      let parts = all-parts (Weaker (sure_insertion origin log spans) (sure_insertion origin later now) (IsInsertionIn since_was log spans d) (IsInsertionIn since_now later now e)) (insertions_of notes) is.older is.own is.newer is.notes_are weaker-since in
      record {
        older = is.older;
        own = is.own;
        newer = is.newer;
        notes_are = is.notes_are;
        card_is = is.card_is;
        last = is.last;
        stays = is.stays;
        olders = is.olders;
        entry = is.entry;
        newers = is.newers;
        more_are = is.more_are;
        stand_before = stand-as (sure_insertion origin log spans) (sure_insertion origin later now) (IsInsertionIn since_was log spans d) (IsInsertionIn since_now later now e) is.older is.olders parts.0 is.stand_before;
        is = parts.1.1 is.entry is.is;
        each_behind = each-as (sure_insertion origin log spans) (sure_insertion origin later now) (IsInsertionIn since_was log spans d) (IsInsertionIn since_now later now e) is.newer is.newers parts.2 is.each_behind;
        behind = is.behind;
        there = ⊎_elim (λ at. inl (at.0, at.1, same.0 ∙ at.2, at.3, at.4, subst (LiesBehind insertion_ring s.index (suc s.behind)) (sym same.1) at.5)) (λ gone. inr gone) is.there;
      }

-- so far as it has gone
module _ (o : Since) (log later : RunLog) (spans now : List SpanFrom) (notes : List Note) (d e : Devices) (more : HaveLeftMore o.origin d e) (on : GoOn log later spans now notes) where
  pub tells-more : (u : ℕ) (c : Card) (registration : List ℕ) (time : ℕ) → TellsIn o d u c registration time → TellsIn o e u c registration time
  tells-more = tells-since o.origin o.told o.told o.trace o.trace o.moves o.moves (λ c u before. before) log later spans now notes d e more on

  pub insertions-weaker : AllByRecursion (Weaker (sure_insertion o.origin log spans) (sure_insertion o.origin later now) (IsInsertionIn o log spans d) (IsInsertionIn o later now e)) (insertions_of notes)
  insertions-weaker = weaker-since o.origin o.told o.told o.trace o.trace o.moves o.moves (λ c u before. before) log later spans now notes d e more on

  pub places-weaker : AllByRecursion (Weaker (sure_place o.origin log spans) (sure_place o.origin later now) (IsPlaceIn o.origin log spans) (IsPlaceIn o.origin later now)) (places_of notes)
  places-weaker = places-since o.origin o.told o.told o.trace o.trace o.moves o.moves (λ c u before. before) log later spans now notes d e more on

  pub seated-as : (c : Card) (q : Option Seating) (ms : List (List ℕ)) (x y : List ℕ) → HasSameTurn x y →
      IfSome q (λ s. IsSeated (sure_insertion o.origin log spans) (IsInsertionIn o log spans d) c s (insertions_of notes) ms x) → IfSome q (λ s. IsSeated (sure_insertion o.origin later now) (IsInsertionIn o later now e) c s (insertions_of notes) ms y)
  seated-as = seated-since o.origin o.told o.told o.trace o.trace o.moves o.moves (λ c u before. before) log later spans now notes d e more on

-- nothing of the log and the spans
pub go-on : (log : RunLog) (spans : List SpanFrom) (notes : List Note) → GoOn log log spans spans notes
go-on log spans notes = record {
  failed = λ u has. has;
  fell = λ u has. has;
  insertions = all-each (λ (i : InsertionNote). (odometer_at i.accepted.second spans ≡ odometer_at i.accepted.second spans) × IfSome i.withdrawn (λ u. odometer_at u spans ≡ odometer_at u spans)) (λ i. (refl, by i.withdrawn)) (insertions_of notes);
  places = all-each (λ (p : PlaceNote). odometer_at p.second spans ≡ odometer_at p.second spans) (λ p. refl) (places_of notes);
  reads = λ u n is. is;
}
  where
    by : (w : Option ℕ) → IfSome w (λ u. odometer_at u spans ≡ odometer_at u spans)
    by None = tt
    by (Some u) = refl

-- MORE SECONDS are told, and more of the trace, and more cards were moved: who has come before has come before.
abbrev pub MoreComeBefore : Devices → Type 0
MoreComeBefore d = (o : Origin) (told later : List ToldSecond) (trace now : List TraceSecond) (moves behind : List Move) → ((c : Card) (u : ℕ) → HasComeBefore told trace c u → HasComeBefore later now c u) → ((m : Move) → Contains moves m → Contains behind m) → (log : RunLog) (spans : List SpanFrom) (notes : List Note) (seats : Card → Option Seating) →
    Ringed (record { origin = o; told = told; trace = trace; moves = moves }) log spans notes seats d → Ringed (record { origin = o; told = later; trace = now; moves = behind }) log spans notes seats d

pub come-before : (d : Devices) → MoreComeBefore d
come-before d o told later trace now moves behind come moved log spans notes seats v = record {
  insertions = λ ring x left.
      let was = v.insertions ring x left in
      let all = weaker-since o told later trace now moves behind come log log spans spans notes d d (record { unit = λ y h. h; card = λ c y h. h }) (go-on log spans notes) in record {
        shows = record {
          more = was.shows.more;
          carries = was.shows.carries;
          stand = stand-as (sure_insertion o log spans) (sure_insertion o log spans) (IsInsertionIn (record { origin = o; told = told; trace = trace; moves = moves }) log spans d) (IsInsertionIn (record { origin = o; told = later; trace = now; moves = behind }) log spans d) (insertions_of notes) was.shows.more all was.shows.stand;
          few = was.shows.few;
        };
        seated = λ c. seated-since o told later trace now moves behind come log log spans spans notes d d (record { unit = λ y h. h; card = λ c y h. h }) (go-on log spans notes) c (seats c) was.shows.more x x (refl, refl) (was.seated c);
      };
  places = v.places;
  on_cards = v.on_cards;
  vehicles = vehicles-moved o spans (IsPutIn moves) (IsPutIn behind) d (λ c u at. moved (goes_in u c) at) v.vehicles;
  sessions = sessions-moved o moves behind moved log notes d v.sessions;
}

-- CALLS THAT WRITE NO RING
pub rings-stay : (d e : Devices) → RingsStay d e
rings-stay d e o log later spans now notes seats v stays more cards on = record {
  insertions = λ ring y left.
      let w = stays y left in
      let was = v.insertions ring w.0 w.1 in
      let is = ring_elsewhere insertion_ring insertion_shape w.0 y w.2.insertions was.shows.carries.points in record {
        shows = record {
          more = was.shows.more;
          carries = carries-same insertion_ring o.origin.recording.unit w.0 was.shows.more was.shows.carries insertion_shape y w.2.insertions;
          stand = stand-as (sure_insertion o.origin log spans) (sure_insertion o.origin later now) (IsInsertionIn o log spans d) (IsInsertionIn o later now e) (insertions_of notes) was.shows.more (insertions-weaker o log later spans now notes d e more on) was.shows.stand;
          few = few-go insertion_ring (sure_insertion o.origin log spans) (sure_insertion o.origin later now) (insertions_of notes) o.origin.recording.unit w.0 y
              (unsure-as (sure_insertion o.origin log spans) (sure_insertion o.origin later now) (IsInsertionIn o log spans d) (IsInsertionIn o later now e) (insertions_of notes) (insertions-weaker o log later spans now notes d e more on))
              (ring-stays insertion_ring insertion_shape w.0 y w.2.insertions was.shows.carries.points) was.shows.few;
        };
        seated = λ c. seated-as o log later spans now notes d e more on c (seats c) was.shows.more w.0 y (is.1, taken_elsewhere insertion_ring insertion_shape w.0 y w.2.insertions was.shows.carries.points) (was.seated c);
      };
  places = λ ring y left.
      let w = stays y left in
      let was = v.places ring w.0 w.1 in record {
        more = was.more;
        carries = carries-same unit_place_ring o.origin.recording.unit w.0 was.more was.carries place_shape y w.2.places;
        stand = stand-as (sure_place o.origin log spans) (sure_place o.origin later now) (IsPlaceIn o.origin log spans) (IsPlaceIn o.origin later now) (places_of notes) was.more (places-weaker o log later spans now notes d e more on) was.stand;
        few = few-go unit_place_ring (sure_place o.origin log spans) (sure_place o.origin later now) (places_of notes) o.origin.recording.unit w.0 y
            (unsure-as (sure_place o.origin log spans) (sure_place o.origin later now) (IsPlaceIn o.origin log spans) (IsPlaceIn o.origin later now) (places_of notes) (places-weaker o log later spans now notes d e more on))
            (ring-stays unit_place_ring place_shape w.0 y w.2.places was.carries.points) was.few;
      };
  on_cards = places-go o.origin log later spans now notes d e on.fell on.places cards.places v.on_cards;
  vehicles = vehicles-go o.origin spans now (IsPutIn o.moves) (λ c t. IsBrokenSince o.moves later c notes t) d e on.reads (λ c u some broken. broken-put o.moves later c notes u some broken) cards.vehicles v.vehicles;
  sessions = sessions-go o.origin o.moves log later notes d e on.failed on.fell cards.sessions v.sessions;
}

-- ---- lists

same-outside : (r q : Shape) (head x y : List ℕ) → (q.base + size_of q ≤ r.base) ⊎ (r.base + size_of r ≤ q.base) → (y ≡ x) ⊎ IsAdding q head x y → bytes_at y r.base (size_of r) ≡ bytes_at x r.base (size_of r)
same-outside r q head x y apart (inl same) = ap (λ (z : List ℕ). bytes_at z r.base (size_of r)) same
same-outside r q head x y apart (inr moment) = ring_outside r q.base (size_of q) x y apart moment.outside

or-false : (a b x : Bool) → (a || b) ≡ false → (b ≡ false → x ≡ false) → (a || x) ≡ false
or-false true b x none rest = none
or-false false b x none rest = rest none

none-behind : (c : Card) (newer : List InsertionNote) (n : InsertionNote) → list_any (λ (j : InsertionNote). same_card j.accepted.card c) newer ≡ false → same_card n.accepted.card c ≡ false →
    list_any (λ (j : InsertionNote). same_card j.accepted.card c) (newer ++ n ∷ []) ≡ false
none-behind c [] n none other = ap (λ (b : Bool). b || false) other
none-behind c (k ∷ newer) n none other =
    or-false (same_card k.accepted.card c) (list_any (λ (j : InsertionNote). same_card j.accepted.card c) newer) (list_any (λ (j : InsertionNote). same_card j.accepted.card c) (newer ++ n ∷ [])) none
    (λ rest. none-behind c newer n rest other)

-- ---- A PLACE

pub place-noted : (d e : Devices) (o : Since) (log : RunLog) (spans : List SpanFrom) (notes : List Note) (seats : Card → Option Seating) → Ringed o log spans notes seats d → HaveLeftMore o.origin d e → (p : PlaceNote) (head : List ℕ) → Writes (IsAdded unit_place_ring head) d e → length head ≡ unit_place_ring.width → IsPlaceIn o.origin log spans p head → (own : List ℕ) → length own ≡ place_width → IsPlaceOn spans p own → PlaceIsTaken o.origin log p own d e → VehiclesGo o.origin spans NoOtherComes d e → SessionsGo o.origin NoOtherComes d e →
    Ringed o log spans (notes ++ Enters p ∷ []) seats e
place-noted d e o log spans notes seats v more p head added full is own long on taken_ goes sessions_ = record {
  insertions = λ ring y left.
      let w = added y left in
      let was = v.insertions ring w.0 w.1 in
      let bytes = ring_outside insertion_ring unit_place_ring.base (size_of unit_place_ring) w.0 y (inr (omega arith)) w.2.outside in
      let same = ring_elsewhere insertion_ring insertion_shape w.0 y bytes was.shows.carries.points in
      let notes-same : insertions_of (notes ++ Enters p ∷ []) ≡ insertions_of notes = insertions-more notes (Enters p) in record {
        shows = record {
          more = was.shows.more;
          carries = carries-same insertion_ring o.origin.recording.unit w.0 was.shows.more was.shows.carries insertion_shape y bytes;
          stand = subst (λ (l : List InsertionNote). Stand (sure_insertion o.origin log spans) (IsInsertionIn o log spans e) l was.shows.more) (sym notes-same)
              (stand-as (sure_insertion o.origin log spans) (sure_insertion o.origin log spans) (IsInsertionIn o log spans d) (IsInsertionIn o log spans e) (insertions_of notes) was.shows.more (insertions-weaker o log log spans spans notes d e more (go-on log spans notes)) was.shows.stand);
          few = subst (λ (l : List InsertionNote). AreNoFewer insertion_ring (sure_insertion o.origin log spans) l o.origin.recording.unit y) (sym notes-same)
              (few-as insertion_ring (sure_insertion o.origin log spans) (insertions_of notes) o.origin.recording.unit w.0 y (ring-stays insertion_ring insertion_shape w.0 y bytes was.shows.carries.points) was.shows.few);
        };
        seated = λ c. subst (λ (l : List InsertionNote). IfSome (seats c) (λ s. IsSeated (sure_insertion o.origin log spans) (IsInsertionIn o log spans e) c s l was.shows.more y)) (sym notes-same)
            (seated-as o log log spans spans notes d e more (go-on log spans notes) c (seats c) was.shows.more w.0 y (same.1, taken_elsewhere insertion_ring insertion_shape w.0 y bytes was.shows.carries.points) (was.seated c));
      };
  places = λ ring y left.
      let w = added y left in
      let was = v.places ring w.0 w.1 in record {
        more = was.more ++ head ∷ [];
        carries = subst (λ (l : List ℕ). RingKeeps unit_place_ring o.origin.recording.unit y (was.more ++ l ∷ [])) (whole-head unit_place_ring w.0 (taken unit_place_ring w.0) head full) (carries-more unit_place_ring o.origin.recording.unit w.0 was.more was.carries head y w.2);
        stand = subst (λ (l : List PlaceNote). Stand (sure_place o.origin log spans) (IsPlaceIn o.origin log spans) l (was.more ++ head ∷ [])) (sym (places-more notes (Enters p)))
            (stand-one (sure_place o.origin log spans) (IsPlaceIn o.origin log spans) (places_of notes) was.more p head was.stand is);
        few = subst (λ (l : List PlaceNote). AreNoFewer unit_place_ring (sure_place o.origin log spans) l o.origin.recording.unit y) (sym (places-more notes (Enters p)))
            (few-more unit_place_ring (sure_place o.origin log spans) (places_of notes) p o.origin.recording.unit w.0 y (ring-takes unit_place_ring head w.0 y was.carries.points w.2) was.few);
      };
  on_cards = places-taken o.origin log spans notes p own d e long on taken_ v.on_cards;
  vehicles = vehicles-go o.origin spans spans (IsPutIn o.moves) NoOtherComes d e (λ u n is. is) (λ c u some none. absurd none) goes v.vehicles;
  sessions = sessions-entered o.origin o.moves log notes p d e sessions_ v.sessions;
}

-- or the unit failed in it
pub place-broken : (d e : Devices) (o : Since) (log : RunLog) (spans : List SpanFrom) (notes : List Note) (seats : Card → Option Seating) → Ringed o log spans notes seats d → HaveLeftMore o.origin d e → (p : PlaceNote) (head : List ℕ) → Writes (MayBeAdded unit_place_ring head) d e → length head ≡ unit_place_ring.width → IsPlaceIn o.origin log spans p head → has_failed_in log p.second ≡ true → (own : List ℕ) → length own ≡ place_width → IsPlaceOn spans p own → PlaceIsTaken o.origin log p own d e → VehiclesGo o.origin spans NoOtherComes d e → SessionsGo o.origin NoOtherComes d e →
    Ringed o log spans (notes ++ Enters p ∷ []) (λ c. None) e
place-broken d e o log spans notes seats v more p head adding full is has own long on taken_ goes sessions_ = record {
  insertions = λ ring y left.
      let w = adding y left in
      let was = v.insertions ring w.0 w.1 in
      let bytes = same-outside insertion_ring unit_place_ring head w.0 y (inr (omega arith)) w.2 in
      let notes-same : insertions_of (notes ++ Enters p ∷ []) ≡ insertions_of notes = insertions-more notes (Enters p) in record {
        shows = record {
          more = was.shows.more;
          carries = carries-same insertion_ring o.origin.recording.unit w.0 was.shows.more was.shows.carries insertion_shape y bytes;
          stand = subst (λ (l : List InsertionNote). Stand (sure_insertion o.origin log spans) (IsInsertionIn o log spans e) l was.shows.more) (sym notes-same)
              (stand-as (sure_insertion o.origin log spans) (sure_insertion o.origin log spans) (IsInsertionIn o log spans d) (IsInsertionIn o log spans e) (insertions_of notes) was.shows.more (insertions-weaker o log log spans spans notes d e more (go-on log spans notes)) was.shows.stand);
          few = subst (λ (l : List InsertionNote). AreNoFewer insertion_ring (sure_insertion o.origin log spans) l o.origin.recording.unit y) (sym notes-same)
              (few-as insertion_ring (sure_insertion o.origin log spans) (insertions_of notes) o.origin.recording.unit w.0 y (ring-stays insertion_ring insertion_shape w.0 y bytes was.shows.carries.points) was.shows.few);
        };
        seated = λ c. tt;
      };
  places = λ ring y left.
      let w = adding y left in
      let was = v.places ring w.0 w.1 in
      subst (λ (l : List PlaceNote). ShowsNotes unit_place_ring (sure_place o.origin log spans) (IsPlaceIn o.origin log spans) l o.origin.recording.unit y) (sym (places-more notes (Enters p)))
      (maybe unit_place_ring o.origin.recording.unit w.0 y head (sure_place o.origin log spans) (IsPlaceIn o.origin log spans) (places_of notes) p was full is (ap not has) w.2);
  on_cards = places-taken o.origin log spans notes p own d e long on taken_ v.on_cards;
  vehicles = vehicles-go o.origin spans spans (IsPutIn o.moves) NoOtherComes d e (λ u n is. is) (λ c u some none. absurd none) goes v.vehicles;
  sessions = sessions-entered o.origin o.moves log notes p d e sessions_ v.sessions;
}

-- ---- AN INSERTION

-- as many, or fewer
many-or : (n k : ℕ) (A : Type 0) → (k < n → A) → A ⊎ (n ≤ k)
many-or n k A few = by (nat_lt k n) refl
  where
    by : (b : Bool) → nat_lt k n ≡ b → A ⊎ (n ≤ k)
    by true is = inl (few (ltb-true k n is))
    by false is = inr (ltb-false k n is)

-- the cards that were accepted before
seated-more : (sure : InsertionNote → Bool) (Is : InsertionNote → List ℕ → Type 0) (c : Card) (q : Option Seating) (ns : List InsertionNote) (ms : List (List ℕ)) (x y : List ℕ) (a : Acceptance) (head : List ℕ) → PointsInside insertion_ring x → IsAdded insertion_ring head x y →
    same_card a.card c ≡ false → Is (record { accepted = a; withdrawn = None }) head → IfSome q (λ s. IsSeated sure Is c s ns ms x) →
    IfSome (option_map one_behind q) (λ s. IsSeated sure Is c s (ns ++ record { accepted = a; withdrawn = None } ∷ []) (ms ++ head ∷ []) y)
seated-more sure Is c None ns ms x y a head points added other is sits = tt
seated-more sure Is c (Some s) ns ms x y a head points added other is sits = record {
  older = sits.older;
  own = sits.own;
  newer = sits.newer ++ record { accepted = a; withdrawn = None } ∷ [];
  notes_are = ap (λ (l : List InsertionNote). l ++ record { accepted = a; withdrawn = None } ∷ []) sits.notes_are ∙ append_assoc sits.older (sits.own ∷ sits.newer) (record { accepted = a; withdrawn = None } ∷ []);
  card_is = sits.card_is;
  last = none-behind c sits.newer (record { accepted = a; withdrawn = None }) sits.last other;
  stays = sits.stays;
  olders = sits.olders;
  entry = sits.entry;
  newers = sits.newers ++ head ∷ [];
  more_are = ap (λ (l : List (List ℕ)). l ++ head ∷ []) sits.more_are ∙ append_assoc sits.olders (sits.entry ∷ sits.newers) (head ∷ []);
  stand_before = sits.stand_before;
  is = sits.is;
  each_behind = each-append Is sits.newer (record { accepted = a; withdrawn = None } ∷ []) sits.newers (head ∷ []) sits.each_behind (is, tt);
  behind = (let long : length (sits.newers ++ head ∷ []) ≡ length sits.newers + 1 = length-append sits.newers (head ∷ []) in let was = sits.behind in omega (arith, long, was));
  there = ⊎_elim
      (λ at. ⊎_elim
      (λ stays. many-or insertion_ring.count (suc s.behind) (StandsAt (one_behind s) y) (λ few. (
        stays.0,
        at.1 ++ taken insertion_ring x ∷ [],
        stays.1,
        (let long : length (at.1 ++ taken insertion_ring x ∷ []) ≡ length at.1 + 1 = length-append at.1 (taken insertion_ring x ∷ []) in let was = at.3 in omega (arith, long, was)),
        at.4,
        subst (LiesBehind insertion_ring s.index (suc (suc s.behind))) (sym (added.list points).next_is)
            (lies-next insertion_ring.count s.index (suc s.behind) (taken insertion_ring x) at.4 few (taken_below insertion_ring x points) at.5),
      )))
      (λ gone. inr (⊎_elim (λ here. absurd (let own = gone.2 in omega (arith, here, own))) (λ round. let own = gone.2 in omega (arith, round, own)) at.5))
      (index-stays insertion_ring head x y points added at.0 s.index at.1 at.2))
      (λ few. inr (omega (arith, few)))
      sits.there;
}

pub insertion-noted : (d e : Devices) (o : Since) (log : RunLog) (spans : List SpanFrom) (notes : List Note) (seats now : Card → Option Seating) → Ringed o log spans notes seats d → HaveLeftMore o.origin d e → (a : Acceptance) → IsPutIn o.moves a.card a.second → CardsGo o.origin spans (OpensIn log a) d e → Opens o.origin log a e → (head : List ℕ) (index : ℕ) → Writes (IsAddedAt index head) d e → length head ≡ insertion_ring.width →
    IsInsertionIn o log spans e (record { accepted = a; withdrawn = None }) head → ((c : Card) → ((same_card a.card c ≡ false) × (now c ≡ option_map one_behind (seats c))) ⊎ ((same_card a.card c ≡ true) × (now c ≡ Some (record { index = index; behind = 0 })))) →
    Ringed o log spans (notes ++ Accepts a ∷ []) now e
insertion-noted d e o log spans notes seats now v more a put cards opens head index added full is each = record {
  insertions = λ ring y left.
      let w = added y left in
      let was = v.insertions ring w.0 w.1 in
      let points = was.shows.carries.points in
      let are : insertions_of (notes ++ Accepts a ∷ []) ≡ insertions_of notes ++ record { accepted = a; withdrawn = None } ∷ [] = insertions-more notes (Accepts a) in
      let stands = stand-as (sure_insertion o.origin log spans) (sure_insertion o.origin log spans) (IsInsertionIn o log spans d) (IsInsertionIn o log spans e) (insertions_of notes) was.shows.more (insertions-weaker o log log spans spans notes d e more (go-on log spans notes)) was.shows.stand in record {
        shows = record {
          more = was.shows.more ++ head ∷ [];
          carries = subst (λ (l : List ℕ). RingKeeps insertion_ring o.origin.recording.unit y (was.shows.more ++ l ∷ [])) (whole-head insertion_ring w.0 (taken insertion_ring w.0) head full) (carries-more insertion_ring o.origin.recording.unit w.0 was.shows.more was.shows.carries head y w.2.0);
          stand = subst (λ (l : List InsertionNote). Stand (sure_insertion o.origin log spans) (IsInsertionIn o log spans e) l (was.shows.more ++ head ∷ [])) (sym are)
              (stand-one (sure_insertion o.origin log spans) (IsInsertionIn o log spans e) (insertions_of notes) was.shows.more (record { accepted = a; withdrawn = None }) head stands is);
          few = subst (λ (l : List InsertionNote). AreNoFewer insertion_ring (sure_insertion o.origin log spans) l o.origin.recording.unit y) (sym are)
              (few-more insertion_ring (sure_insertion o.origin log spans) (insertions_of notes) (record { accepted = a; withdrawn = None }) o.origin.recording.unit w.0 y (ring-takes insertion_ring head w.0 y points w.2.0) was.shows.few);
        };
        seated = λ c. subst (λ (l : List InsertionNote). IfSome (now c) (λ s. IsSeated (sure_insertion o.origin log spans) (IsInsertionIn o log spans e) c s l (was.shows.more ++ head ∷ []) y)) (sym are) (⊎_elim
            (λ other. subst (λ (q : Option Seating). IfSome q (λ s. IsSeated (sure_insertion o.origin log spans) (IsInsertionIn o log spans e) c s (insertions_of notes ++ record { accepted = a; withdrawn = None } ∷ []) (was.shows.more ++ head ∷ []) y)) (sym other.1)
            (seated-more (sure_insertion o.origin log spans) (IsInsertionIn o log spans e) c (seats c) (insertions_of notes) was.shows.more w.0 y a head points w.2.0 other.0 is
            (seated-as o log log spans spans notes d e more (go-on log spans notes) c (seats c) was.shows.more w.0 w.0 (refl, refl) (was.seated c))))
            (λ own. subst (λ (q : Option Seating). IfSome q (λ s. IsSeated (sure_insertion o.origin log spans) (IsInsertionIn o log spans e) c s (insertions_of notes ++ record { accepted = a; withdrawn = None } ∷ []) (was.shows.more ++ head ∷ []) y)) (sym own.1)
            (record {
              older = insertions_of notes;
              own = record { accepted = a; withdrawn = None };
              newer = [];
              notes_are = refl;
              card_is = own.0;
              last = refl;
              stays = refl;
              olders = was.shows.more;
              entry = head;
              newers = [];
              more_are = refl;
              stand_before = stands;
              is = is;
              each_behind = tt;
              behind = refl;
              there = inl (
                staying insertion_ring w.0,
                [],
                (w.2.0.list points).indices_are ∙ ap (λ (t : ℕ). staying insertion_ring w.0 ++ t ∷ []) (sym (w.2.1 points)),
                refl,
                subst (λ (t : ℕ). t < insertion_ring.count) (sym (w.2.1 points)) (taken_below insertion_ring w.0 points),
                subst (LiesBehind insertion_ring index 1) (sym ((w.2.0.list points).next_is ∙ ap (next insertion_ring) (sym (w.2.1 points)))) (lies-first insertion_ring.count index),
              );
            }))
            (each c));
      };
  places = λ ring y left.
      let w = added y left in
      let was = v.places ring w.0 w.1 in
      let bytes = ring_outside unit_place_ring insertion_ring.base (size_of insertion_ring) w.0 y (inl (omega arith)) w.2.0.outside in
      subst (λ (l : List PlaceNote). ShowsNotes unit_place_ring (sure_place o.origin log spans) (IsPlaceIn o.origin log spans) l o.origin.recording.unit y) (sym (places-more notes (Accepts a) ∙ append-nil (places_of notes))) (record {
        more = was.more;
        carries = carries-same unit_place_ring o.origin.recording.unit w.0 was.more was.carries place_shape y bytes;
        stand = was.stand;
        few = few-as unit_place_ring (sure_place o.origin log spans) (places_of notes) o.origin.recording.unit w.0 y (ring-stays unit_place_ring place_shape w.0 y bytes was.carries.points) was.few;
      });
  on_cards = places-beside o.origin log spans notes (Accepts a) d e refl cards.places v.on_cards;
  vehicles = vehicles-go o.origin spans spans (IsPutIn o.moves) (OpensIn log a) d e (λ u n is. is) (λ c u some opens_. opens-put o.moves log a c u put some opens_) cards.vehicles v.vehicles;
  sessions = sessions-accepted o.origin o.moves log notes a d e cards.sessions opens v.sessions;
}

-- or the unit failed in it
pub insertion-broken : (d e : Devices) (o : Since) (log : RunLog) (spans : List SpanFrom) (notes : List Note) (seats : Card → Option Seating) → Ringed o log spans notes seats d → HaveLeftMore o.origin d e → (a : Acceptance) → IsPutIn o.moves a.card a.second → CardsGo o.origin spans (OpensIn log a) d e → (head : List ℕ) → Writes (MayBeAdded insertion_ring head) d e → length head ≡ insertion_ring.width →
    IsInsertionIn o log spans e (record { accepted = a; withdrawn = None }) head → has_failed_in log a.second ≡ true → Ringed o log spans (notes ++ Accepts a ∷ []) (λ c. None) e
insertion-broken d e o log spans notes seats v more a put cards head adding full is has = record {
  insertions = λ ring y left.
      let w = adding y left in
      let was = v.insertions ring w.0 w.1 in
      let stands = stand-as (sure_insertion o.origin log spans) (sure_insertion o.origin log spans) (IsInsertionIn o log spans d) (IsInsertionIn o log spans e) (insertions_of notes) was.shows.more (insertions-weaker o log log spans spans notes d e more (go-on log spans notes)) was.shows.stand in
      record {
        shows = subst (λ (l : List InsertionNote). ShowsNotes insertion_ring (sure_insertion o.origin log spans) (IsInsertionIn o log spans e) l o.origin.recording.unit y) (sym (insertions-more notes (Accepts a)))
            (maybe insertion_ring o.origin.recording.unit w.0 y head (sure_insertion o.origin log spans) (IsInsertionIn o log spans e) (insertions_of notes) (record { accepted = a; withdrawn = None }) (record { more = was.shows.more; carries = was.shows.carries; stand = stands; few = was.shows.few }) full is (ap not has) w.2);
        seated = λ c. tt;
      };
  places = λ ring y left.
      let w = adding y left in
      let was = v.places ring w.0 w.1 in
      let bytes = same-outside unit_place_ring insertion_ring head w.0 y (inl (omega arith)) w.2 in
      subst (λ (l : List PlaceNote). ShowsNotes unit_place_ring (sure_place o.origin log spans) (IsPlaceIn o.origin log spans) l o.origin.recording.unit y) (sym (places-more notes (Accepts a) ∙ append-nil (places_of notes))) (record {
        more = was.more;
        carries = carries-same unit_place_ring o.origin.recording.unit w.0 was.more was.carries place_shape y bytes;
        stand = was.stand;
        few = few-as unit_place_ring (sure_place o.origin log spans) (places_of notes) o.origin.recording.unit w.0 y (ring-stays unit_place_ring place_shape w.0 y bytes was.carries.points) was.few;
      });
  on_cards = places-beside o.origin log spans notes (Accepts a) d e refl cards.places v.on_cards;
  vehicles = vehicles-go o.origin spans spans (IsPutIn o.moves) (OpensIn log a) d e (λ u n is. is) (λ c u some opens_. opens-put o.moves log a c u put some opens_) cards.vehicles v.vehicles;
  sessions = sessions-accepted o.origin o.moves log notes a d e cards.sessions (opens-none o.origin log a e (call-failed log a.second has)) v.sessions;
}
