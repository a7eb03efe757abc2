-- What the rings of places on the cards carry, over each step.
use Rattle.std.proofs.Common.{◌≡◌, ◌⊎◌, inl, inr, ⊎_elim, ℕ, ◌<◌, ◌≤◌, min, Bool, true, false, cond, not, ◌&&◌, ◌||◌, nat_eq, List, [], ◌∷◌, ◌++◌, filter, drop, length, refl, ap, sym, subst, ◌∙◌, arith, append-nil}
use Rattle.std.specs.List.{AllByRecursion, list_any}
use Rattle.std.proofs.lemmas.List.{length-take}
use Rattle.std.proofs.lemmas.List.Elements.{filter-append}
use Rattle.run_devices.specs.trace_model.declared.Card.{Card}
use Rattle.run_events.specs.gated_ring.Ring.{Shape, PointsInside, place_of, entry_at, taken, with_head}
use Rattle.run_events.specs.gated_ring.Change.{IsAdding}
use Rattle.run_devices.specs.log_model.declared.lines.Break.{Break}
use Rattle.run_devices.specs.log_model.Log.{RunLog}
use Rattle.run_devices.specs.log_model.Causes.{is_cut, has_failed, second_of}
use Rattle.run_devices.specs.log_model.Slots.{same_card}
use Rattle.run_devices.specs.note_model.Done.{has_failed_in}
use Rattle.run_devices.specs.note_model.Odometer.{SpanFrom, odometer_at}
use Rattle.run_devices.specs.note_model.Noted.{PlaceNote, Note, Enters, place_in, places_of}
use Rattle.run_devices.specs.note_model.Rings.{AreNoFewer}
use Rattle.run_devices.specs.safety_model.Recording.{card_image}
use Rattle.run_devices.specs.safety_model.Safe.{Devices, card_of}
use Rattle.run_events.specs.run_rings.Carried.{RingKeeps}
use Rattle.run_events.proofs.run_rings.Carried.{carries-none, carries-same, carries-more, carries-maybe}
use Rattle.run_events.proofs.run_rings.Standing.{stand-one, stand-unsure}
use Rattle.run_events.proofs.run_rings.Few.{ring-stays, ring-takes, ring-may, few-start, few-go, few-as, few-more, few-unsure}
use Rattle.run_note_record.specs.Origin.{Origin}
use Rattle.tach_media.specs.card_layout.declared.files.Application.{Application}
use Rattle.run_devices.specs.card_image.Own.{own_sizes}
use Rattle.run_devices.proofs.Measured.{goes-itself, goes-then, goes-more}
use Rattle.run_note_record.specs.OnCards.{ShowsNotes, has_call_failed_in, places_in, place_width, places_on, IsPlaceOn, is_sure_on, HasPlaces, PlacesOnCards, LeavesPlaces, PlacesStay, IsReading, IsReadingOf, GoesByReadings, VehiclesOnCards, VehiclesGo, NoOtherComes, CardsStay, TakesPlace, PlaceIsTaken}
use Rattle.run_note_record.specs.RingsSoFar.{HasMoreBreaks}
use Rattle.run_note_record.proofs.Readings.{reading-as}
use Rattle.run_note_record.proofs.Sessions.{sessions-itself}
use Rattle.run_note_record.proofs.Stands.{Weaker, stand-as, unsure-as, all-of, with-whole, places-more}

entry-fits : (r : Shape) (x : List ℕ) (i : ℕ) → length (entry_at r x i) ≤ r.width
entry-fits r x i = let long : length (entry_at r x i) ≡ min r.width (length (drop (place_of r i) x)) = length-take r.width (drop (place_of r i) x) in omega (arith, long)

pub whole-head : (r : Shape) (x : List ℕ) (i : ℕ) (head : List ℕ) → length head ≡ r.width → with_head r x i head ≡ head
whole-head r x i head full = with-whole r x i head (let fits = entry-fits r x i in omega (arith, fits, full))

-- ---- lists

-- an entry more that may stand
pub maybe : {N : Type 0} (r : Shape) (start x y head : List ℕ) (sure : N → Bool) (Is : N → List ℕ → Type 0) (notes : List N) (n : N) → ShowsNotes r sure Is notes start x → length head ≡ r.width → Is n head → sure n ≡ false → (y ≡ x) ⊎ IsAdding r head x y →
    ShowsNotes r sure Is (notes ++ n ∷ []) start y
maybe r start x y head sure Is notes n was full is unsure (inl same) = record {
  more = was.more;
  carries = subst (λ (z : List ℕ). RingKeeps r start z was.more) (sym same) was.carries;
  stand = stand-unsure sure Is notes was.more n was.stand unsure;
  few = few-unsure r sure notes n start x y unsure (ring-may r head x y was.carries.points (inl same)) was.few;
}
maybe r start x y head sure Is notes n was full is unsure (inr moment) = ⊎_elim
    (λ carries. record { more = was.more; carries = carries; stand = stand-unsure sure Is notes was.more n was.stand unsure; few = few })
    (λ carries. record {
      more = was.more ++ head ∷ [];
      carries = subst (λ (l : List ℕ). RingKeeps r start y (was.more ++ l ∷ [])) (whole-head r x (taken r x) head full) carries;
      stand = stand-one sure Is notes was.more n head was.stand is;
      few = few;
    })
    (carries-maybe r start x was.more was.carries head y moment)
  where
    few : AreNoFewer r sure (notes ++ n ∷ []) start y
    few = few-unsure r sure notes n start x y unsure (ring-may r head x y was.carries.points (inr moment)) was.few

all-filter : {X : Type 0} (P : X → Type 0) (f : X → Bool) (xs : List X) → AllByRecursion P xs → AllByRecursion P (filter f xs)
all-filter P f [] all = tt
all-filter P f (x ∷ xs) all = by (f x) (all-filter P f xs all.1)
  where
    by : (b : Bool) → AllByRecursion P (filter f xs) → AllByRecursion P (cond b (x ∷ filter f xs) (filter f xs))
    by true rest = (all.0, rest)
    by false rest = rest

pub any-front : {X : Type 0} (p : X → Bool) (xs ys : List X) → list_any p xs ≡ true → list_any p (xs ++ ys) ≡ true
any-front p [] ys is = absurd (cc)
any-front p (x ∷ xs) ys is = by (p x) is (any-front p xs ys)
  where
    by : (b : Bool) → (b || list_any p xs) ≡ true → (list_any p xs ≡ true → list_any p (xs ++ ys) ≡ true) → (b || list_any p (xs ++ ys)) ≡ true
    by true has rest = refl
    by false has rest = rest has

-- ---- calls that failed

-- a failed call on the unit is one
pub call-failed : (log : RunLog) (u : ℕ) → has_failed_in log u ≡ true → has_call_failed_in log u ≡ true
call-failed log u = by log.breaks
  where
    step : (b : Break) (bs : List Break) (cut failed : Bool) → (list_any (λ (x : Break). nat_eq (second_of x) u) (filter (λ (x : Break). is_cut x && has_failed x) bs) ≡ true → list_any (λ (x : Break). nat_eq (second_of x) u) (filter has_failed bs) ≡ true)
        → list_any (λ (x : Break). nat_eq (second_of x) u) (cond (cut && failed) (b ∷ filter (λ (x : Break). is_cut x && has_failed x) bs) (filter (λ (x : Break). is_cut x && has_failed x) bs)) ≡ true
        → list_any (λ (x : Break). nat_eq (second_of x) u) (cond failed (b ∷ filter has_failed bs) (filter has_failed bs)) ≡ true
    step b bs true true rest is = or-by (nat_eq (second_of b) u) is
      where
        or-by : (h : Bool) → (h || list_any (λ (x : Break). nat_eq (second_of x) u) (filter (λ (x : Break). is_cut x && has_failed x) bs)) ≡ true → (h || list_any (λ (x : Break). nat_eq (second_of x) u) (filter has_failed bs)) ≡ true
        or-by true has = refl
        or-by false has = rest has
    step b bs true false rest is = rest is
    step b bs false true rest is = or-by (nat_eq (second_of b) u)
      where
        or-by : (h : Bool) → (h || list_any (λ (x : Break). nat_eq (second_of x) u) (filter has_failed bs)) ≡ true
        or-by true = refl
        or-by false = rest is
    step b bs false false rest is = rest is

    by : (bs : List Break) → list_any (λ (x : Break). nat_eq (second_of x) u) (filter (λ (x : Break). is_cut x && has_failed x) bs) ≡ true → list_any (λ (x : Break). nat_eq (second_of x) u) (filter has_failed bs) ≡ true
    by [] is = is
    by (b ∷ bs) is = step b bs (is_cut b) (has_failed b) (by bs) is

-- more breaks
pub call-failed-more : (log later : RunLog) → HasMoreBreaks log later → (u : ℕ) → has_call_failed_in log u ≡ true → has_call_failed_in later u ≡ true
call-failed-more log later more u has =
    ap (λ (bs : List Break). list_any (λ (b : Break). nat_eq (second_of b) u) (filter has_failed bs)) more.1
    ∙ ap (list_any (λ (b : Break). nat_eq (second_of b) u)) (filter-append has_failed log.breaks more.0)
    ∙ any-front (λ (b : Break). nat_eq (second_of b) u) (filter has_failed log.breaks) (filter has_failed more.0) has

-- ---- what stands for a place, as a log and the spans go on
place-on-as : (log later : RunLog) (spans now : List SpanFrom) → ((u : ℕ) → has_call_failed_in log u ≡ true → has_call_failed_in later u ≡ true) → (p : PlaceNote) → odometer_at p.second now ≡ odometer_at p.second spans →
    Weaker (is_sure_on log) (is_sure_on later) (IsPlaceOn spans) (IsPlaceOn now) p
place-on-as log later spans now fell p same = (
  by (has_call_failed_in log p.second) refl,
  λ e is. record { entry = is.entry; bytes = is.bytes; time = is.time; kind = is.kind; country = is.country; region = is.region; odometer = is.odometer ∙ sym same },
)
  where
    by : (b : Bool) → has_call_failed_in log p.second ≡ b → not (has_call_failed_in log p.second) ≡ false → not (has_call_failed_in later p.second) ≡ false
    by true has none = ap not (fell p.second has)
    by false has none = let both : true ≡ false = ap not (sym has) ∙ none in absurd (cc)

-- AT THE START
pub places-none : (o : Origin) (log : RunLog) (spans : List SpanFrom) (d : Devices) → ((c : Card) (x : List ℕ) → (card_of d c).may_leave x → x ≡ card_image o.recording c) → PlacesOnCards o log spans [] d
places-none o log spans d start c has x left = record {
  more = [];
  carries = subst (λ (y : List ℕ). RingKeeps (places_in (card_image o.recording c)) (card_image o.recording c) y []) (sym (start c x left)) (carries-none (places_in (card_image o.recording c)) (card_image o.recording c) has.ring);
  stand = refl;
  few = few-start (places_in (card_image o.recording c)) (is_sure_on log) (card_image o.recording c) x has.ring (start c x left);
}

-- NONE IS CALLED
pub places-itself : (o : Origin) (d : Devices) → PlacesStay o d d
places-itself o d c valid y left = (y, left, refl)

-- ---- the vehicle entries
pub vehicles-none : (o : Origin) (spans : List SpanFrom) (May : Card → ℕ → Type 0) (d : Devices) → ((c : Card) (x : List ℕ) → (card_of d c).may_leave x → x ≡ card_image o.recording c) → VehiclesOnCards o spans May d
vehicles-none o spans May d start c valid x left =
    subst (λ (y : List ℕ). GoesByReadings spans (May c) (card_image o.recording c) (card_image o.recording c) y) (sym (start c x left)) (goes-itself (own_sizes (card_image o.recording c)) (IsReadingOf spans (May c)) (card_image o.recording c))

pub vehicles-itself : (o : Origin) (spans : List SpanFrom) (May : Card → ℕ → Type 0) (d : Devices) → VehiclesGo o spans May d d
vehicles-itself o spans May d c valid y left = (y, left, goes-itself (own_sizes (card_image o.recording c)) (IsReadingOf spans (May c)) y)

pub stay-itself : (o : Origin) (spans : List SpanFrom) (d : Devices) → CardsStay o spans d d
stay-itself o spans d = record { places = places-itself o d; vehicles = vehicles-itself o spans NoOtherComes d; sessions = sessions-itself o NoOtherComes d }

-- as the spans go on, and calls measure them
pub vehicles-go : (o : Origin) (spans now : List SpanFrom) (Was May : Card → ℕ → Type 0) (d e : Devices) → ((u n : ℕ) → IsReading spans u n → IsReading now u n) → ((c : Card) (u : ℕ) → 0 < u → May c u → Was c u) → VehiclesGo o now May d e → VehiclesOnCards o spans Was d → VehiclesOnCards o now Was e
vehicles-go o spans now Was May d e reads puts goes v c valid y left =
    let w = goes c valid y left in
    let app : Application = own_sizes (card_image o.recording c) in
    goes-then app (IsReadingOf now (Was c)) (card_image o.recording c) w.0 y
    (goes-more app (IsReadingOf spans (Was c)) (IsReadingOf now (Was c)) (reading-as spans now (Was c) (Was c) reads (λ u some was. was)) (card_image o.recording c) w.0 (v c valid w.0 w.1))
    (goes-more app (IsReadingOf now (May c)) (IsReadingOf now (Was c)) (reading-as now now (May c) (Was c) (λ u n is. is) (puts c)) w.0 y w.2)

-- where cards were put in in more seconds
pub vehicles-moved : (o : Origin) (spans : List SpanFrom) (Was Now : Card → ℕ → Type 0) (d : Devices) → ((c : Card) (u : ℕ) → Was c u → Now c u) → VehiclesOnCards o spans Was d → VehiclesOnCards o spans Now d
vehicles-moved o spans Was Now d more v c valid y left =
    goes-more (own_sizes (card_image o.recording c)) (IsReadingOf spans (Was c)) (IsReadingOf spans (Now c)) (reading-as spans spans (Was c) (Now c) (λ u n is. is) (λ u some. more c u)) (card_image o.recording c) y (v c valid y left)

-- ---- the places

-- CALLS THAT LEAVE THEM
pub places-go : (o : Origin) (log later : RunLog) (spans now : List SpanFrom) (notes : List Note) (d e : Devices) → ((u : ℕ) → has_call_failed_in log u ≡ true → has_call_failed_in later u ≡ true) →
    AllByRecursion (λ (p : PlaceNote). odometer_at p.second now ≡ odometer_at p.second spans) (places_of notes) → PlacesStay o d e → PlacesOnCards o log spans notes d → PlacesOnCards o later now notes e
places-go o log later spans now notes d e fell same stays v c has y left =
    let w = stays c has.valid y left in
    let was = v c has w.0 w.1 in
    let weaker : AllByRecursion (Weaker (is_sure_on log) (is_sure_on later) (IsPlaceOn spans) (IsPlaceOn now)) (places_on c (places_of notes)) =
    all-of (λ (p : PlaceNote). odometer_at p.second now ≡ odometer_at p.second spans) (Weaker (is_sure_on log) (is_sure_on later) (IsPlaceOn spans) (IsPlaceOn now)) (place-on-as log later spans now fell) (places_on c (places_of notes))
    (all-filter (λ (p : PlaceNote). odometer_at p.second now ≡ odometer_at p.second spans) (λ (p : PlaceNote). same_card p.card c) (places_of notes) same) in record {
      more = was.more;
      carries = carries-same (places_in (card_image o.recording c)) (card_image o.recording c) w.0 was.more was.carries has.shape y w.2;
      stand = stand-as (is_sure_on log) (is_sure_on later) (IsPlaceOn spans) (IsPlaceOn now) (places_on c (places_of notes)) was.more weaker was.stand;
      few = few-go (places_in (card_image o.recording c)) (is_sure_on log) (is_sure_on later) (places_on c (places_of notes)) (card_image o.recording c) w.0 y
          (unsure-as (is_sure_on log) (is_sure_on later) (IsPlaceOn spans) (IsPlaceOn now) (places_on c (places_of notes)) weaker)
          (ring-stays (places_in (card_image o.recording c)) has.shape w.0 y w.2 was.carries.points) was.few;
    }

-- a note that is no place
pub places-beside : (o : Origin) (log : RunLog) (spans : List SpanFrom) (notes : List Note) (n : Note) (d e : Devices) → place_in n ≡ [] → PlacesStay o d e → PlacesOnCards o log spans notes d → PlacesOnCards o log spans (notes ++ n ∷ []) e
places-beside o log spans notes n d e none stays v c has y left =
    let w = stays c has.valid y left in
    let was = v c has w.0 w.1 in
    let are : places_of (notes ++ n ∷ []) ≡ places_of notes = places-more notes n ∙ ap (λ (l : List PlaceNote). places_of notes ++ l) none ∙ append-nil (places_of notes) in
    subst (λ (l : List PlaceNote). ShowsNotes (places_in (card_image o.recording c)) (is_sure_on log) (IsPlaceOn spans) (places_on c l) (card_image o.recording c) y) (sym are) (record {
      more = was.more;
      carries = carries-same (places_in (card_image o.recording c)) (card_image o.recording c) w.0 was.more was.carries has.shape y w.2;
      stand = was.stand;
      few = few-as (places_in (card_image o.recording c)) (is_sure_on log) (places_on c (places_of notes)) (card_image o.recording c) w.0 y (ring-stays (places_in (card_image o.recording c)) has.shape w.0 y w.2 was.carries.points) was.few;
    })

-- A PLACE IS NOTED, or may be
module _ (o : Origin) (log : RunLog) (spans : List SpanFrom) (notes : List Note) (p : PlaceNote) (own : List ℕ) (d e : Devices) (full : length own ≡ place_width) (is : IsPlaceOn spans p own) (taken_ : PlaceIsTaken o log p own d e) (v : PlacesOnCards o log spans notes d) where
  abbrev image : Card → List ℕ
  image c = card_image o.recording c

  abbrev front : Card → List PlaceNote
  front c = places_on c (places_of notes)

  abbrev Shows : Card → List PlaceNote → List ℕ → Type 0
  Shows c l z = ShowsNotes (places_in (image c)) (is_sure_on log) (IsPlaceOn spans) l (image c) z

  are-more : (c : Card) → places_on c (places_of (notes ++ Enters p ∷ [])) ≡ front c ++ places_on c (p ∷ [])
  are-more c = ap (places_on c) (places-more notes (Enters p)) ∙ filter-append (λ (q : PlaceNote). same_card q.card c) (places_of notes) (p ∷ [])

  other-card : (c : Card) → HasPlaces (image c) → (y : List ℕ) → (card_of e c).may_leave y → same_card p.card c ≡ false → LeavesPlaces (image c) (card_of d c) (card_of e c) → Shows c (front c ++ places_on c (p ∷ [])) y
  other-card c has y left apart_ leaves =
      let w = leaves y left in
      let was = v c has w.0 w.1 in
      let none : front c ++ places_on c (p ∷ []) ≡ front c = ap (λ (b : Bool). front c ++ cond b (p ∷ []) []) apart_ ∙ append-nil (front c) in
      subst (λ (l : List PlaceNote). Shows c l y) (sym none) (record {
        more = was.more;
        carries = carries-same (places_in (image c)) (image c) w.0 was.more was.carries has.shape y w.2;
        stand = was.stand;
        few = few-as (places_in (image c)) (is_sure_on log) (front c) (image c) w.0 y (ring-stays (places_in (image c)) has.shape w.0 y w.2 was.carries.points) was.few;
      })

  by-image : (c : Card) (x y : List ℕ) → Shows c (front c) x → TakesPlace log p own (image c) x y → Shows c (front c ++ p ∷ []) y
  by-image c x y was (inl added) = record {
    more = was.more ++ own ∷ [];
    carries = subst (λ (l : List ℕ). RingKeeps (places_in (image c)) (image c) y (was.more ++ l ∷ [])) (whole-head (places_in (image c)) x (taken (places_in (image c)) x) own full) (carries-more (places_in (image c)) (image c) x was.more was.carries own y added);
    stand = stand-one (is_sure_on log) (IsPlaceOn spans) (front c) was.more p own was.stand is;
    few = few-more (places_in (image c)) (is_sure_on log) (front c) p (image c) x y (ring-takes (places_in (image c)) own x y was.carries.points added) was.few;
  }
  by-image c x y was (inr (unsure, moment)) = maybe (places_in (image c)) (image c) x y own (is_sure_on log) (IsPlaceOn spans) (front c) p was full is (ap not unsure) moment

  own-card : (c : Card) → HasPlaces (image c) → (y : List ℕ) → (card_of e c).may_leave y → same_card p.card c ≡ true
      → ((z : List ℕ) → (card_of e c).may_leave z → (x : List ℕ) × (card_of d c).may_leave x × (PointsInside (places_in (image c)) x → TakesPlace log p own (image c) x z)) → Shows c (front c ++ places_on c (p ∷ [])) y
  own-card c has y left same takes =
      let w = takes y left in
      let was = v c has w.0 w.1 in
      let one : front c ++ places_on c (p ∷ []) ≡ front c ++ p ∷ [] = ap (λ (b : Bool). front c ++ cond b (p ∷ []) []) same in
      subst (λ (l : List PlaceNote). Shows c l y) (sym one) (by-image c w.0 y was (w.2 was.carries.points))

  pub places-taken : PlacesOnCards o log spans (notes ++ Enters p ∷ []) e
  places-taken c has y left =
      subst (λ (l : List PlaceNote). Shows c l y) (sym (are-more c))
      (⊎_elim (λ apart_. other-card c has y left apart_.0 apart_.1) (λ same. own-card c has y left same.0 same.1) (taken_ c has.valid))
