-- An event or a place is noted on a card: it stays valid and shows the same, and the rules stay.
use Rattle.std.proofs.Common.{◌≡◌, ◌⊎◌, inl, inr, ⊎_elim, ℕ, ◌+◌, ◌/◌, ◌<◌, ◌≤◌, true, Option, option_map, IfSome, List, [], ap, subst, ◌∙◌, sym, arith}
use Rattle.card_layout.proofs.Images.{part_before, part_after}
use Rattle.card_layout.specs.Images.{big_number}
use Rattle.activity_codec.specs.declared.entries.Entry.{Entry}
use Rattle.trace_model.specs.declared.Card.{Card}
use Rattle.tach_media.specs.Medium.{State, IsCoherent, LeavesOnly, SameOutside, bytes_at}
use Rattle.tach_media.proofs.Runs.{at_image, weaken}
use Rattle.card_session.specs.gated_ring.Ring.{PointsInside, place_of as entry_place, size_of as ring_size}
use Rattle.card_session.proofs.gated_ring.Places.{place_high}
use Rattle.card_session.proofs.gated_ring.Elsewhere.{points_elsewhere}
use Rattle.card_layout.specs.declared.files.Application.{Application}
use Rattle.card_layout.specs.Application.{application_of, IsApplication, first_bad_field, place_of_field}
use Rattle.card_layout.specs.Files.{files_of, place_of, size_of}
use Rattle.card_files.specs.Rings.{event_ring}
use Rattle.card_files.proofs.Sets.{set_inside}
use Rattle.unit_rule.specs.card_model.Days.{Day}
use Rattle.unit_rule.specs.card_model.Image.{oldest_pointer}
use Rattle.unit_rule.specs.card_model.Checks.{first_failing}
use Rattle.unit_rule.proofs.card_model.Elsewhere.{oldest_elsewhere, bad_elsewhere}
use Rattle.card_validity.specs.card_image.Fields.{file, day_string, vehicle_ring, place_ring, card_days, last_use, session_time}
use Rattle.card_validity.specs.card_image.Beside.{HaveSameSizes, HaveSameDays, HaveSameVehicles, HaveSameSession}
use Rattle.card_validity.specs.card_image.Judging.{IsValid, word_checks}
use Rattle.card_validity.specs.card_image.Own.{own_sizes, own_view}
use Rattle.card_validity.specs.card_image.View.{CardView, card_view}
use Rattle.card_validity.proofs.card_image.Beside.{days_same, session_same, last_use_same, view_same}
use Rattle.card_session.proofs.OnCard.{ring_shape}
use Rattle.unit_rule.specs.history_model.Book.{Book}
use Rattle.unit_rule.specs.device_rule.Device.{LeavesViews, Nothing}
use Rattle.unit_rule.specs.device_rule.Rules.{Standing, Out, In, Torn, MeetsStanding}
use Rattle.unit_rule.proofs.device_rule.CardLaws.{look-dark}
use Rattle.unit_rule.proofs.device_rule.EnterLaws.{tear-card}
use Rattle.unit_rule.proofs.device_rule.Viewed.{seen-run, seen-coherent}
use Rattle.device_calls.specs.Rule.{Both, opened, unit_seen, card_seen, AnyString, CardHolds, CardRests}
use Rattle.device_calls.specs.Minute.{IsNotIn}
use Rattle.device_calls.specs.CardNotes.{IsNote, IsSound}
use Rattle.device_calls.proofs.OnCard.{own-is}
use Rattle.device_calls.proofs.Passed.{Passes, valid-passes, passes-valid, pointer-passes, passes-pointer}

-- ---- where it stands

module _ (app : Application) where
  sizes_first : place_of app (file 0x0501) + size_of app (file 0x0501) ≤ place_of app (file 0x0502)
  unfolding files_of
  sizes_first = omega arith

  events_low : place_of app (file 0x0502) + size_of app (file 0x0502) ≤ (day_string app).base
  unfolding files_of
  events_low = omega arith

  days_low : (day_string app).base + (4 + (day_string app).size) ≤ (vehicle_ring app).base
  unfolding files_of
  days_low = omega arith

  vehicles_low : (vehicle_ring app).base + ring_size (vehicle_ring app) ≤ (place_ring app).base
  unfolding files_of
  vehicles_low = omega arith

  places_low : (place_ring app).base + ring_size (place_ring app) ≤ place_of app (file 0x0507)
  unfolding files_of
  places_low = omega arith

-- ---- what it leaves of what is judged and shown

pub record Leaves (app : Application) (x c : List ℕ) : Type 0 where
  pub sizes : HaveSameSizes app x c
  pub days : HaveSameDays app x c
  pub vehicles : HaveSameVehicles app x c
  pub session : HaveSameSession app x c
  pub points : PointsInside (place_ring app) c

module _ (app : Application) (x : List ℕ) (points : PointsInside (place_ring app) x) where
  same_leaves : (c : List ℕ) → c ≡ x → Leaves app x c
  same_leaves c is = record {
    sizes = ap (λ (l : List ℕ). bytes_at l (place_of app (file 0x0501)) (size_of app (file 0x0501))) is;
    days = ap (λ (l : List ℕ). bytes_at l (day_string app).base (4 + (day_string app).size)) is;
    vehicles = ap (λ (l : List ℕ). bytes_at l (vehicle_ring app).base (ring_size (vehicle_ring app))) is;
    session = ap (λ (l : List ℕ). bytes_at l (place_of app (file 0x0507)) 4) is;
    points = subst (PointsInside (place_ring app)) (sym is) points;
  }

  event_leaves : (kind i : ℕ) (c : List ℕ) → i < (event_ring app kind).count → SameOutside (entry_place (event_ring app kind) i) (event_ring app kind).width x c → Leaves app x c
  event_leaves kind i c below outside =
      let p : ℕ = entry_place (event_ring app kind) i in
      let n : ℕ = (event_ring app kind).width in
      let low : place_of app (file 0x0502) ≤ entry_place (event_ring app kind) i = omega arith in
      let high : entry_place (event_ring app kind) i + (event_ring app kind).width ≤ (day_string app).base = omega (arith, place_high (event_ring app kind) i below, set_inside app kind, events_low app) in
      let pointer_same : bytes_at c (place_ring app).base 1 ≡ bytes_at x (place_ring app).base 1 = part_after p n (place_ring app).base 1 x c outside (omega (arith, high, days_low app, vehicles_low app)) in
      record {
        sizes = part_before p n (place_of app (file 0x0501)) (size_of app (file 0x0501)) x c outside (omega (arith, low, sizes_first app));
        days = part_after p n (day_string app).base (4 + (day_string app).size) x c outside high;
        vehicles = part_after p n (vehicle_ring app).base (ring_size (vehicle_ring app)) x c outside (omega (arith, high, days_low app));
        session = part_after p n (place_of app (file 0x0507)) 4 x c outside (omega (arith, high, days_low app, vehicles_low app, places_low app));
        points = subst (λ (l : List ℕ). big_number 1 l < app.places) (sym pointer_same) points;
      }

  note_leaves : (c : List ℕ) → IsNote app x c → Leaves app x c
  note_leaves c (inl noting) =
      let kind : ℕ = noting.0.kind in
      let i : ℕ = noting.1.place in
      ⊎_elim
      (λ same. same_leaves c same)
      (λ changed. ⊎_elim (λ absent. event_leaves noting.0.kind noting.1.place c noting.1.takes.below absent.outside) (λ replaced. event_leaves noting.0.kind noting.1.place c noting.1.takes.below replaced.outside) changed)
      noting.1.entry
  note_leaves c (inr noting) =
      let p : ℕ = (place_ring app).base in
      let n : ℕ = ring_size (place_ring app) in
      let outside : SameOutside (place_ring app).base (ring_size (place_ring app)) x c = noting.1.outside in
      record {
        sizes = part_before p n (place_of app (file 0x0501)) (size_of app (file 0x0501)) x c outside (omega (arith, sizes_first app, events_low app, days_low app, vehicles_low app));
        days = part_before p n (day_string app).base (4 + (day_string app).size) x c outside (omega (arith, days_low app, vehicles_low app));
        vehicles = part_before p n (vehicle_ring app).base (ring_size (vehicle_ring app)) x c outside (vehicles_low app);
        session = part_after p n (place_of app (file 0x0507)) 4 x c outside (places_low app);
        points = (noting.1.step points).points;
      }

-- ---- a valid card is valid, and shows the same

own-same : (app : Application) (x c : List ℕ) → HaveSameSizes app x c → own_sizes c ≡ own_sizes x
unfolding own_sizes files_of
own-same app x c same = ap application_of same

module _ (app : Application) (sound : IsApplication app) (x : List ℕ) (valid : IsValid app x) (c : List ℕ) (note : IsNote app x c) where
  passes : Passes app x
  passes = valid-passes app x valid

  points : PointsInside (vehicle_ring app) x
  points = pointer-passes (vehicle_ring app) x passes.vehicles

  pub left : Leaves app x c
  left = note_leaves app x (pointer-passes (place_ring app) x passes.places) c note

  pub noted-view : card_view app c ≡ card_view app x
  noted-view = view_same app x c sound points left.vehicles left.days left.session

  use_same : last_use app c ≡ last_use app x
  use_same = last_use_same app x c sound points left.vehicles

  words_by : (oldest last session : ℕ) → List Day → Option ℕ
  words_by oldest last session ds = first_failing (word_checks app.activity oldest (last / 60) session ds)

  words_same : words_by (oldest_pointer (day_string app) c) (last_use app c) (session_time app c) (card_days app c) ≡ words_by (oldest_pointer (day_string app) x) (last_use app x) (session_time app x) (card_days app x)
  words_same =
      ap (λ (o : ℕ). words_by o (last_use app c) (session_time app c) (card_days app c)) (oldest_elsewhere (day_string app) x c left.days)
      ∙ ap (λ (u : ℕ). words_by (oldest_pointer (day_string app) x) u (session_time app c) (card_days app c)) use_same
      ∙ ap (λ (s : ℕ). words_by (oldest_pointer (day_string app) x) (last_use app x) s (card_days app c)) (session_same app x c left.session)
      ∙ ap (λ (ds : List Day). words_by (oldest_pointer (day_string app) x) (last_use app x) (session_time app x) ds) (days_same app x c left.days)

  pub noted-valid : IsValid app c
  unfolding words_by
  noted-valid = passes-valid app c (record {
    sizes = ap (λ (l : List ℕ). option_map place_of_field (first_bad_field l)) left.sizes ∙ passes.sizes;
    days = bad_elsewhere (day_string app) x c left.days ∙ passes.days;
    vehicles = passes-pointer (vehicle_ring app) c (points_elsewhere (vehicle_ring app) (ring_shape app sound) x c left.vehicles points);
    places = passes-pointer (place_ring app) c left.points;
    words = words_same ∙ passes.words;
  })

  pub noted-sizes : own_sizes c ≡ own_sizes x
  noted-sizes = own-same app x c left.sizes

  pub noted-own : own_sizes x ≡ app → own_view c ≡ own_view x
  noted-own is = own-is app c (noted-sizes ∙ is) ∙ noted-view ∙ sym (own-is app x is)

-- ---- so its rule stays

module _ (r : Both) (c : Card) (b : Book) (app : Application) (sound : IsApplication app) {X Y : State} (whole : IsCoherent X) (known : IfSome X.image (IsSound app)) (run : LeavesOnly X Y (IsNote app)) where
  abbrev Same : CardView → CardView → Type 0
  Same v w = w ≡ v

  shows : LeavesViews (card_seen X) (card_seen Y) Same
  shows = seen-run own_view (λ x y. own_view y ≡ own_view x) Same X Y whole
      (weaken run (λ x y told note. let is = at_image (IsSound app) told known in noted-own app sound x is.1 y note is.0)) (λ x y same. same)

  nothing : LeavesViews (card_seen X) (card_seen Y) Nothing
  nothing = record {
    later = shows.later;
    since = λ t w le on. inl (⊎_elim (λ was. was) (λ same. subst (λ (v : CardView). (card_seen X).left_since t v) (sym same.2) ((seen-coherent own_view X whole).counts_now t same.0 le same.1)) (shows.since t w le on));
    now = λ w on. inl (⊎_elim (λ was. was) (λ same. subst (λ (v : CardView). (card_seen X).may_leave v) (sym same.2) same.1) (shows.now w on));
  }

  was : (w : CardView) → (card_seen Y).may_leave w → (card_seen X).may_leave w
  was w on = ⊎_elim (λ was. was) (λ never. absurd never.2) (nothing.now w on)

  was_since : (t : ℕ) (w : CardView) → t ≤ X.clock → (card_seen Y).left_since t w → (card_seen X).left_since t w
  was_since t w le on = ⊎_elim (λ was. was) (λ never. absurd never.2) (nothing.since t w le on)

  module _ (U : State) where
    pub noted-rests : (z : Standing) → CardRests r c b z U X → CardRests r c b z U Y
    noted-rests z rests = look-dark c (opened r c).start AnyString {U = unit_seen r U} {X = card_seen X} {Y = card_seen Y} (opened r c).began b z nothing rests

    stands : (z : Standing) (d : List Entry) → IsNotIn z ⊎ (Y.works ≡ true) → (opened r c).began ≤ X.clock → MeetsStanding c (opened r c).start (opened r c).began z d (unit_seen r U) (card_seen X) → MeetsStanding c (opened r c).start (opened r c).began z d (unit_seen r U) (card_seen Y)
    stands Out d works le so = tt
    stands (In session newest) d (inl never) le so = absurd never
    stands (In session newest) d (inr works) le so = (works, λ w on. so.1 w (was_since (opened r c).began w le on), λ u w here on. so.2 u w here (was w on))
    stands (Torn session newest floor) d works le so = (λ w on. so.0 w (was_since (opened r c).began w le on), λ u w here on. so.1 u w here (was w on))

    pub noted-holds : (z : Standing) (m d : List Entry) → IsNotIn z ⊎ (Y.works ≡ true) → CardHolds r c b z m d U X → CardHolds r c b z m d U Y
    noted-holds z m d works rule = record { dark = noted-rests z rule.dark; cells = rule.cells; stands = stands z d works rule.dark.later rule.stands }

    -- where it failed the card is torn out
    pub noted-tears : (time newest floor : ℕ) → CardHolds r c b (In time newest) [] [] U X → CardHolds r c b (Torn time newest floor) [] [] U Y
    noted-tears time newest floor rule = noted-holds (Torn time newest floor) [] [] (inl tt)
        (tear-card c (opened r c).start AnyString (opened r c).began b {U = unit_seen r U} {X = card_seen X} time newest floor rule)
