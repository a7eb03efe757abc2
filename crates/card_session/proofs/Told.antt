-- The parts of a keep by what a session has kept: the end of the string tells which words and which distance are written.
use Rattle.std.proofs.Common.{◌≡◌, inl, inr, ⊎_elim, ℕ, suc, ◌/◌, ◌≤◌, Bool, true, false, cond, List, Option, Some, None, refl, sym, ◌∙◌, ap, subst, arith}
use Rattle.std.specs.Prelude.{◌⊎◌, nat_lt, ◌&&◌}
use Rattle.card_layout.proofs.Images.{outside_same}
use Rattle.activity_codec.specs.declared.values.Activity.TheVariants.{Rest}
use Rattle.activity_codec.specs.declared.entries.Entry.{Entry}
use Rattle.tacho_types.specs.declared.texts.Registration.{Registration}
use Rattle.tacho_types.specs.declared.numbers.Odometer.{Odometer}
use Rattle.tach_media.specs.Medium.{State}
use Rattle.card_layout.specs.declared.files.Application.{Application}
use Rattle.card_files.specs.declared.vehicle.Vehicle.{Vehicle}
use Rattle.card_days.specs.card_model.Days.{Day, total}
use Rattle.card_days.specs.card_model.Changes.{with_newest, with_km}
use Rattle.card_days.specs.card_model.Image.{StringShape, HoldsDays, newest_pointer}
use Rattle.gated_ring.specs.Ring.{Shape, IsNewest}
use Rattle.card_days.specs.declared.head.Tail.{Tail}
use Rattle.card_days.specs.Held.{Held, Knows, tail_in}
use Rattle.card_validity.specs.card_retention.Expected.{is_newest}
use Rattle.card_validity.specs.card_retention.Shown.{sizes, is_open}
use Rattle.card_validity.specs.card_image.Fields.{day_string, vehicle_ring, last_use_of}
use Rattle.card_session.specs.Books.{Book, mark_of, latest_of, closing_word, entry_word, tells_state, km_after, travelled, goes_on_with}
use Rattle.card_session.specs.Telling.{gap_word, is_newest_day, entry_change, km_told}
use Rattle.card_session.specs.Sessions.{Session, IsValue, KnowsCard, book_of}
use Rattle.card_session.specs.Cards.{days_and_vehicles}
use Rattle.card_session.specs.Parts.{DoesPart, IsPartDone, IsPartMoment, HasSame, SameButVehicle, TakesSome, with_some, IsAdding, IsBeforeGapOf, with_gap_closed, IsClosingGap, IsBeforeEntry, with_entry_words, IsWriting, BeginsDay, with_day, IsBeforeDay, HasDay, with_more, IsTravelling}
use Rattle.card_session.proofs.Composing.{part_of, part_none}
use Rattle.card_session.proofs.OnCard.{newest_told}
use Rattle.card_session.proofs.Following.{gap_told, day_told, change_told, km_is}
use Rattle.card_session.proofs.Preparing.{gap_asks, gap_makes, gap_moments, change_asks, change_makes, change_moments, day_asks, day_makes, day_moments}

-- ---- values

-- a session by its parts
abbrev pub session : Application → Held → Shape → Option ℕ → Option Vehicle → Registration → ℕ → Option Odometer → Session
session p h r n v g m o = record { application = p; days = h; vehicles = r; newest = n; vehicle = v; registration = g; minute = m; odometer = o }

pub days_else : (p : Application) (h : Held) (r : Shape) (n : Option ℕ) (v : Option Vehicle) (g : Registration) (m : ℕ) (o : Option Odometer) (s : Session) → session p h r n v g m o ≡ s → (next : Held) → HasSame s (session p next r n v g m o)
days_else p h r n v g m o s is next = record {
  application = ap (λ (t : Session). t.application) is;
  vehicles = ap (λ (t : Session). t.vehicles) is;
  newest = ap (λ (t : Session). t.newest) is;
  vehicle = ap (λ (t : Session). t.vehicle) is;
  registration = ap (λ (t : Session). t.registration) is;
  minute = ap (λ (t : Session). t.minute) is;
  odometer = ap (λ (t : Session). t.odometer) is;
}

pub ring_else : (p : Application) (h : Held) (r : Shape) (n : Option ℕ) (v : Option Vehicle) (g : Registration) (m : ℕ) (o : Option Odometer) (s : Session) → session p h r n v g m o ≡ s → (ring : Shape) (newest : Option ℕ) (vehicle : Option Vehicle) → SameButVehicle s (session p h ring newest vehicle g m o)
ring_else p h r n v g m o s is ring newest vehicle = record {
  application = ap (λ (t : Session). t.application) is;
  days = ap (λ (t : Session). t.days) is;
  registration = ap (λ (t : Session). t.registration) is;
  minute = ap (λ (t : Session). t.minute) is;
  odometer = ap (λ (t : Session). t.odometer) is;
}

-- ---- parts

module _ (s : Session) (value : IsValue s) (t : Session) where
  abbrev app : Application
  app = s.application

  abbrev size : ℕ
  size = s.application.activity

  abbrev Days : List ℕ → List Day
  Days x = (book_of s.application x).days

  abbrev Tells : Option Tail → Type 0
  Tells tail = (x : List ℕ) (days : List Day) → Knows s.days x days → tail ≡ tail_in s.days.shape x days

  -- no word, no call
  pub none_part : t ≡ s → (state : State) → DoesPart state state false (IsPartDone s t (TakesSome None) (with_some size None)) (IsPartMoment s (TakesSome None) (IsAdding size None))
  none_part is state = part_none state (λ x was knows any. (
    record {
      outside = outside_same (day_string app).base (days_and_vehicles app) x;
      holds = subst (λ (q : StringShape). HoldsDays q x (Days x)) value.days knows.days.holds;
      points = knows.points;
      told = (refl, refl);
    },
    subst (λ (u : Session). KnowsCard u x) (sym is) knows,
  ))

  -- the gap
  pub gap_part : {old new : State} {failed : Bool} (minute mark : ℕ) (tail : Option Tail) (word : Option ℕ) → mark ≡ last_use_of s.vehicle / 60 → Tells tail → word ≡ gap_word mark minute tail
      → DoesPart old new failed (IsPartDone s t (TakesSome word) (with_some size word)) (IsPartMoment s (TakesSome word) (IsAdding size word))
      → DoesPart old new failed (IsPartDone s t (IsBeforeGapOf minute) (with_gap_closed size minute)) (IsPartMoment s (IsBeforeGapOf minute) (IsClosingGap size minute))
  gap_part minute mark tail word mark_is told is part =
      part_of s t (TakesSome word) (IsBeforeGapOf minute) (with_some size word) (with_gap_closed size minute) (IsAdding size word) (IsClosingGap size minute) part
      (λ x knows before. gap_asks size value.sizes.string_least (book_of app x) knows.days.holds.ordered minute before word (word_is x knows before))
      (λ x knows before. gap_makes size value.sizes.string_least (book_of app x) knows.days.holds.ordered minute before word (word_is x knows before))
      (λ x knows before ds v adding. gap_moments size value.sizes.string_least (book_of app x) knows.days.holds.ordered minute before word (word_is x knows before) ds v adding)
    where
      word_is : (x : List ℕ) → KnowsCard s x → IsBeforeGapOf minute (book_of app x)
          → word ≡ cond (is_open (mark_of (book_of app x)) (Days x) && nat_lt (suc (mark_of (book_of app x))) minute) (Some (closing_word (suc (mark_of (book_of app x))) Rest (latest_of (Days x)))) None
      word_is x knows before =
          is ∙ ap (λ (m : ℕ). gap_word m minute tail) (mark_is ∙ ap (λ (o : Option Vehicle). last_use_of o / 60) knows.vehicle)
          ∙ ap (gap_word (mark_of (book_of app x)) minute) (told x (Days x) knows.days)
          ∙ gap_told (mark_of (book_of app x)) minute (newest_pointer s.days.shape x) (total (Days x)) (Days x) knows.days.holds.ordered (omega (arith, before.1))

  -- the words of an entry, on the newest day
  module _ (e : Entry) (tail : Option Tail) (told : Tells tail) where
    newest_is : (x : List ℕ) → KnowsCard s x → is_newest (e.minute / 1440) (sizes (Days x)) ≡ is_newest_day e.minute tail
    newest_is x knows = sym (ap (is_newest_day e.minute) (told x (Days x) knows.days) ∙ day_told 0 e.minute (newest_pointer s.days.shape x) (total (Days x)) (Days x) knows.days.holds.ordered)

    pub change_part : {old new : State} {failed : Bool} (word : Option ℕ) → is_newest_day e.minute tail ≡ true → word ≡ entry_change e tail
        → DoesPart old new failed (IsPartDone s t (TakesSome word) (with_some size word)) (IsPartMoment s (TakesSome word) (IsAdding size word))
        → DoesPart old new failed (IsPartDone s t (IsBeforeEntry e) (with_entry_words size e)) (IsPartMoment s (IsBeforeEntry e) (IsWriting size e))
    change_part word in_day is part =
        part_of s t (TakesSome word) (IsBeforeEntry e) (with_some size word) (with_entry_words size e) (IsAdding size word) (IsWriting size e) part
        (λ x knows before. change_asks size value.sizes.string_least (book_of app x) knows.days.holds.ordered e before (newest_is x knows ∙ in_day) word (word_is x knows))
        (λ x knows before. change_makes size value.sizes.string_least (book_of app x) knows.days.holds.ordered e before (newest_is x knows ∙ in_day) word (word_is x knows))
        (λ x knows before ds v adding. change_moments size value.sizes.string_least (book_of app x) knows.days.holds.ordered e before (newest_is x knows ∙ in_day) word (word_is x knows) ds v adding)
      where
        word_is : (x : List ℕ) → KnowsCard s x → word ≡ cond (tells_state e (Days x)) None (Some (entry_word e))
        word_is x knows =
            is ∙ ap (entry_change e) (told x (Days x) knows.days)
            ∙ change_told e (newest_pointer s.days.shape x) (total (Days x)) (e.minute / 1440) (Days x) (newest_is x knows ∙ in_day)

    -- or a day
    pub day_part : {old new : State} {failed : Bool} → is_newest_day e.minute tail ≡ false → 1440 ≤ e.minute
        → DoesPart old new failed (IsPartDone s t (BeginsDay e) (with_day size e)) (IsPartMoment s (BeginsDay e) (IsBeforeDay size e))
        → DoesPart old new failed (IsPartDone s t (IsBeforeEntry e) (with_entry_words size e)) (IsPartMoment s (IsBeforeEntry e) (IsWriting size e))
    day_part other some part =
        part_of s t (BeginsDay e) (IsBeforeEntry e) (with_day size e) (with_entry_words size e) (IsBeforeDay size e) (IsWriting size e) part
        (λ x knows before. day_asks size value.sizes.string_least (book_of app x) knows.days.holds.ordered e before (newest_is x knows ∙ other) some)
        (λ x knows before. day_makes size value.sizes.string_least (book_of app x) knows.days.holds.ordered e before (newest_is x knows ∙ other) some)
        (λ x knows before ds v is. day_moments size value.sizes.string_least (book_of app x) knows.days.holds.ordered e before (newest_is x knows ∙ other) some ds v is)

  -- the distance
  pub km_part : {old new : State} {failed : Bool} (more km : ℕ) (tail : Option Tail) → Tells tail → km ≡ km_after more (km_told tail)
      → DoesPart old new failed (IsPartDone s t HasDay (λ b. let c : Book = record { days = with_newest (with_km km) b.days; vehicles = b.vehicles } in c)) (IsPartMoment s HasDay (λ b ds v. ((ds ≡ b.days) ⊎ (ds ≡ with_newest (with_km km) b.days)) × (v ≡ b.vehicles)))
      → DoesPart old new failed (IsPartDone s t HasDay (with_more more)) (IsPartMoment s HasDay (IsTravelling more))
  km_part more km tail told is part =
      part_of s t HasDay HasDay (λ b. let c : Book = record { days = with_newest (with_km km) b.days; vehicles = b.vehicles } in c) (with_more more) (λ b ds v. ((ds ≡ b.days) ⊎ (ds ≡ with_newest (with_km km) b.days)) × (v ≡ b.vehicles)) (IsTravelling more) part
      (λ x knows some. some) (λ x knows some. ap (λ (ds : List Day). let c : Book = record { days = ds; vehicles = (book_of app x).vehicles } in c) (days_is x knows))
      (λ x knows some ds v moment. (⊎_elim (λ still. inl still) (λ set. inr (set ∙ days_is x knows)) moment.0, moment.1))
    where
      days_is : (x : List ℕ) → KnowsCard s x → with_newest (with_km km) (Days x) ≡ travelled more (Days x)
      days_is x knows =
          ap (λ (n : ℕ). with_newest (with_km n) (Days x)) (is ∙ ap (λ (o : Option Tail). km_after more (km_told o)) (told x (Days x) knows.days))
          ∙ km_is more (newest_pointer s.days.shape x) (total (Days x)) (Days x)

-- ---- the newest vehicle entry

-- it does not go on with a minute, or there is none
pub not_going : (s : Session) (minute : ℕ) → (s.newest ≡ None) ⊎ (goes_on_with s.registration minute s.vehicle ≡ false) → (x : List ℕ) → KnowsCard s x → goes_on_with s.registration minute (book_of s.application x).vehicles.newest ≡ false
not_going s minute (inl none) x knows =
    ap (goes_on_with s.registration minute) (newest_told s.application x None (subst (λ (o : Option ℕ). IsNewest (vehicle_ring s.application) x o) none knows.newest))
not_going s minute (inr other) x knows = ap (goes_on_with s.registration minute) (sym knows.vehicle) ∙ other
