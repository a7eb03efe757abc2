-- The parts of a keep, one after the other.
use Rattle.std.proofs.Common.{◌≡◌, inl, inr, ⊎_elim, ℕ, ◌*◌, ◌<◌, Bool, true, false, cond, List, Option, Some, IfSome, refl, sym, ◌∙◌, ap, subst, arith}
use Rattle.std.specs.Prelude.{◌⊎◌}
use Rattle.activity_codec.specs.declared.entries.Entry.{Entry}
use Rattle.tach_media.specs.Medium.{State}
use Rattle.tach_media.proofs.Runs.{where_told, at_image}
use Rattle.tacho_types.specs.declared.texts.Registration.{Registration}
use Rattle.card_layout.specs.declared.files.Application.{Application}
use Rattle.card_files.specs.declared.vehicle.Vehicle.{Vehicle}
use Rattle.card_days.specs.card_model.Days.{Day}
use Rattle.card_session.proofs.Round.{vehicles_is, map_twice, newest_twice}
use Rattle.card_session.specs.Vehicles.{Vehicles, renewed, with_vehicle, with_room}
use Rattle.card_session.specs.Books.{Book, goes_on_in, goes_on_with, measured_to, last_used, used_until, vehicle_counter, begun_vehicle, measured, used, vehicles_with}
use Rattle.gated_ring.specs.Ring.{PointsInside, IsNewest}
use Rattle.card_days.specs.Held.{Held, Knows}
use Rattle.card_validity.specs.card_image.Fields.{vehicle_ring}
use Rattle.card_session.specs.Sessions.{Session, IsValue, IsSession, IsOpenBook, KnowsCard, newest_in, book_of}
use Rattle.card_session.specs.Cards.{IsCard, IsCardKept, IsCardKeeping, grown}
use Rattle.card_session.specs.Moments.{IsBook, IsKeepMoment}
use Rattle.card_session.specs.Parts.{DoesPart, IsPartDone, IsPartMoment, IsBeforeGapOf, with_gap_closed, IsClosingGap, IsBeforeEntry, with_entry_words, IsWriting, HasDay, with_more, IsTravelling, AnyBook, with_use, IsUsing, with_measured, IsSettingOdometer, with_last_use, IsSettingUse, with_new_use, IsAddingUse, entered}
use Rattle.card_session.proofs.Composing.{then_part, failed_part, part_of, told_book}
use Rattle.card_session.proofs.Preparing.{gap_are, gap_ready, words_ready, entry_last}

-- ---- the use of the vehicle

module _ (s : Session) (odometer minute : ℕ) where
  abbrev on_both : Book → Book
  on_both b = with_last_use (60 * minute) (with_measured odometer b)

  abbrev IsUsingOn : Book → List Day → Vehicles → Type 0
  IsUsingOn b days vehicles = (days ≡ b.days) × ((vehicles ≡ b.vehicles) ⊎ ((vehicles ≡ measured_to odometer b.vehicles) ⊎ (vehicles ≡ last_used (60 * minute) (measured_to odometer b.vehicles))))

  -- the newest vehicle entry goes on: two fields
  module _ (v : Vehicle) (here : s.vehicle ≡ Some v) (on : goes_on_in s.registration minute v ≡ true) where
    on_is : (x : List ℕ) → KnowsCard s x → goes_on_with s.registration minute (book_of s.application x).vehicles.newest ≡ true
    on_is x knows = ap (goes_on_with s.registration minute) (sym knows.vehicle ∙ here) ∙ on

    after_is : (w : Vehicles) → goes_on_with s.registration minute w.newest ≡ true → last_used (60 * minute) (measured_to odometer w) ≡ vehicles_with s.registration odometer minute w
    after_is w goes =
        vehicles_is (last_used (60 * minute) (measured_to odometer w)) (renewed (used_until odometer (60 * minute)) w) (map_twice (measured odometer) (used (60 * minute)) w.newest)
        (newest_twice (measured odometer) (used (60 * minute)) w.ring)
        ∙ sym (ap (λ (g : Bool). cond g (renewed (used_until odometer (60 * minute)) w) (with_vehicle (begun_vehicle s.registration odometer minute (vehicle_counter w.newest)) w)) goes)

    pub on_part : {old new : State} {failed : Bool} (t : Session) → DoesPart old new failed (IsPartDone s t AnyBook on_both) (IsPartMoment s AnyBook IsUsingOn)
        → DoesPart old new failed (IsPartDone s t AnyBook (with_use s.registration odometer minute)) (IsPartMoment s AnyBook (IsUsing s.registration odometer minute))
    on_part t part =
        part_of s t AnyBook AnyBook on_both (with_use s.registration odometer minute) IsUsingOn (IsUsing s.registration odometer minute) part (λ x knows any. tt)
        (λ x knows any. ap (λ (o : Vehicles). let c : Book = record { days = (book_of s.application x).days; vehicles = o } in c) (after_is (book_of s.application x).vehicles (on_is x knows)))
        (λ x knows any ds now is. (
          is.0,
          ⊎_elim (λ still. inl (inl still))
              (λ written. ⊎_elim (λ first. inl (inr (inl (on_is x knows, first)))) (λ both. inr (both ∙ after_is (book_of s.application x).vehicles (on_is x knows))) written) is.1,
        ))

  pub on_then : {old mid new : State} {failed : Bool} (u t : Session) → u.application ≡ s.application
      → DoesPart old mid false (IsPartDone s u AnyBook (with_measured odometer)) (IsPartMoment s AnyBook (IsSettingOdometer odometer))
      → DoesPart mid new failed (IsPartDone u t AnyBook (with_last_use (60 * minute))) (IsPartMoment u AnyBook (IsSettingUse (60 * minute)))
      → DoesPart old new failed (IsPartDone s t AnyBook on_both) (IsPartMoment s AnyBook IsUsingOn)
  on_then u t app first next =
      then_part s u t AnyBook AnyBook (with_measured odometer) (with_last_use (60 * minute)) (IsSettingOdometer odometer) (IsSettingUse (60 * minute)) IsUsingOn app first next (λ x y knows any then. tt)
      (λ b ds v any is. (is.0, ⊎_elim (λ still. inl still) (λ set. inr (inl set)) is.1))
      (λ b ds v any is. (is.0, ⊎_elim (λ still. inr (inl still)) (λ set. inr (inr set)) is.1))

  pub on_failed : {old new : State} {failed : Bool} (u t : Session) → DoesPart old new true (IsPartDone s u AnyBook (with_measured odometer)) (IsPartMoment s AnyBook (IsSettingOdometer odometer)) → failed ≡ true
      → DoesPart old new failed (IsPartDone s t AnyBook on_both) (IsPartMoment s AnyBook IsUsingOn)
  on_failed u t part is =
      failed_part s u t AnyBook (with_measured odometer) on_both (IsSettingOdometer odometer) IsUsingOn part is (λ b ds v any q. (q.0, ⊎_elim (λ still. inl still) (λ set. inr (inl set)) q.1))

  -- a new entry
  abbrev with_one : Vehicle → Book → Book
  with_one v b = record { days = b.days; vehicles = with_vehicle v b.vehicles }

  abbrev IsAddingOne : Vehicle → Book → List Day → Vehicles → Type 0
  IsAddingOne v b ds u = (ds ≡ b.days) × ((u ≡ b.vehicles) ⊎ ((u ≡ with_room b.vehicles) ⊎ (u ≡ with_vehicle v b.vehicles)))

  pub new_use_as : {old new : State} {failed : Bool} (t : Session) (v : Vehicle) → v ≡ begun_vehicle s.registration odometer minute (vehicle_counter s.vehicle)
      → DoesPart old new failed (IsPartDone s t AnyBook (with_one v)) (IsPartMoment s AnyBook (IsAddingOne v))
      → DoesPart old new failed (IsPartDone s t AnyBook (with_new_use s.registration odometer minute)) (IsPartMoment s AnyBook (IsAddingUse s.registration odometer minute))
  new_use_as t v is part =
      part_of s t AnyBook AnyBook (with_one v) (with_new_use s.registration odometer minute) (IsAddingOne v) (IsAddingUse s.registration odometer minute) part (λ x knows any. tt)
      (λ x knows any. ap (λ (w : Vehicle). with_one w (book_of s.application x)) (v_is x knows))
      (λ x knows any ds u moment. (
        moment.0,
        ⊎_elim (λ still. inl still)
            (λ changed. inr (⊎_elim (λ room. inl room) (λ one. inr (one ∙ ap (λ (w : Vehicle). with_vehicle w (book_of s.application x).vehicles) (v_is x knows))) changed)) moment.1,
      ))
    where
      v_is : (x : List ℕ) → KnowsCard s x → v ≡ begun_vehicle s.registration odometer minute (vehicle_counter (book_of s.application x).vehicles.newest)
      v_is x knows = is ∙ ap (λ (o : Option Vehicle). begun_vehicle s.registration odometer minute (vehicle_counter o)) knows.vehicle

  -- where the newest one does not go on
  module _ (other : (x : List ℕ) → KnowsCard s x → goes_on_with s.registration minute (book_of s.application x).vehicles.newest ≡ false) where
    new_is : (w : Vehicles) → goes_on_with s.registration minute w.newest ≡ false → with_vehicle (begun_vehicle s.registration odometer minute (vehicle_counter w.newest)) w ≡ vehicles_with s.registration odometer minute w
    new_is w is = sym (ap (λ (g : Bool). cond g (renewed (used_until odometer (60 * minute)) w) (with_vehicle (begun_vehicle s.registration odometer minute (vehicle_counter w.newest)) w)) is)

    pub new_use_part : {old new : State} {failed : Bool} (t : Session) → DoesPart old new failed (IsPartDone s t AnyBook (with_new_use s.registration odometer minute)) (IsPartMoment s AnyBook (IsAddingUse s.registration odometer minute))
        → DoesPart old new failed (IsPartDone s t AnyBook (with_use s.registration odometer minute)) (IsPartMoment s AnyBook (IsUsing s.registration odometer minute))
    new_use_part t part =
        part_of s t AnyBook AnyBook (with_new_use s.registration odometer minute) (with_use s.registration odometer minute) (IsAddingUse s.registration odometer minute) (IsUsing s.registration odometer minute) part (λ x knows any. tt)
        (λ x knows any. ap (λ (v : Vehicles). let c : Book = record { days = (book_of s.application x).days; vehicles = v } in c) (new_is (book_of s.application x).vehicles (other x knows)))
        (λ x knows any ds now is. (
          is.0,
          ⊎_elim (λ still. inl (inl still))
              (λ changed. ⊎_elim (λ room. inl (inr (inr (other x knows, room)))) (λ one. inr (one ∙ new_is (book_of s.application x).vehicles (other x knows))) changed) is.1,
        ))

-- ---- an entry

module _ (s : Session) (value : IsValue s) (odometer more : ℕ) (e : Entry) where
  abbrev size : ℕ
  size = s.application.activity

  abbrev P : Book → Type 0
  P = IsBeforeGapOf e.minute

  abbrev K : Book → List Day → Vehicles → Type 0
  K = IsKeepMoment size s.registration odometer more e

  abbrev f1 : Book → Book
  f1 = with_gap_closed size e.minute

  abbrev f2 : Book → Book
  f2 b = with_entry_words size e (f1 b)

  abbrev f3 : Book → Book
  f3 b = with_more more (f2 b)

  gap_moment : (b : Book) (ds : List Day) (v : Vehicles) → P b → IsClosingGap size e.minute b ds v → K b ds v
  gap_moment b ds v p is = inl (is.1, ⊎_elim (λ left. inl left) (λ done. inr (inl (inl done))) is.0)

  words_moment : (b : Book) (ds : List Day) (v : Vehicles) → P b → IsWriting size e (f1 b) ds v → K b ds v
  words_moment b ds v p is = inl (is.1, ⊎_elim (λ left. inr (inl left)) (λ done. inr (inr (inl done))) is.0)

  km_moment : (b : Book) (ds : List Day) (v : Vehicles) → P b → IsTravelling more (f2 b) ds v → K b ds v
  km_moment b ds v p is = inl (is.1, ⊎_elim (λ still. inr (inr (inl still))) (λ done. inr (inr (inr done))) is.0)

  use_moment : (b : Book) (ds : List Day) (v : Vehicles) → P b → IsUsing s.registration odometer e.minute (f3 b) ds v → K b ds v
  use_moment b ds v p is = inr is

  pub gap_failed : {old new : State} {failed : Bool} (s1 t : Session) → DoesPart old new true (IsPartDone s s1 P f1) (IsPartMoment s P (IsClosingGap size e.minute)) → failed ≡ true
      → DoesPart old new failed (IsPartDone s t P (entered size s.registration odometer more e)) (IsPartMoment s P K)
  gap_failed s1 t part is = failed_part s s1 t P f1 (entered size s.registration odometer more e) (IsClosingGap size e.minute) K part is gap_moment

  pub words_then : {old mid new : State} {failed : Bool} (s1 s2 : Session) → s1.application ≡ s.application → DoesPart old mid false (IsPartDone s s1 P f1) (IsPartMoment s P (IsClosingGap size e.minute))
      → DoesPart mid new failed (IsPartDone s1 s2 (IsBeforeEntry e) (with_entry_words s1.application.activity e)) (IsPartMoment s1 (IsBeforeEntry e) (IsWriting s1.application.activity e))
      → DoesPart old new failed (IsPartDone s s2 P f2) (IsPartMoment s P K)
  words_then {old} {mid} {new} {failed} s1 s2 app first next =
      then_part s s1 s2 P (IsBeforeEntry e) f1 (with_entry_words size e) (IsClosingGap size e.minute) (IsWriting size e) K app first
      (subst (λ (p : Application). DoesPart mid new failed (IsPartDone s1 s2 (IsBeforeEntry e) (with_entry_words p.activity e)) (IsPartMoment s1 (IsBeforeEntry e) (IsWriting p.activity e))) app next)
      (λ x y knows p then. gap_ready size value.sizes.string_least (book_of s.application x) knows.days.holds.ordered e.minute p e refl) gap_moment words_moment

  pub km_then : {old mid new : State} {failed : Bool} (s2 s3 : Session) → s2.application ≡ s.application → DoesPart old mid false (IsPartDone s s2 P f2) (IsPartMoment s P K)
      → DoesPart mid new failed (IsPartDone s2 s3 HasDay (with_more more)) (IsPartMoment s2 HasDay (IsTravelling more))
      → DoesPart old new failed (IsPartDone s s3 P f3) (IsPartMoment s P K)
  km_then s2 s3 app first next =
      then_part s s2 s3 P HasDay f2 (with_more more) K (IsTravelling more) K app first next
      (λ x y knows p then.
      let b : Book = book_of s.application x in
      words_ready size value.sizes.string_least (f1 b) (gap_are size value.sizes.string_least b knows.days.holds.ordered e.minute p) e (gap_ready size value.sizes.string_least b knows.days.holds.ordered e.minute p e refl))
      (λ b ds v p k. k) km_moment

  pub use_then : {old mid new : State} {failed : Bool} (s3 t : Session) → s3.application ≡ s.application → s3.registration ≡ s.registration → DoesPart old mid false (IsPartDone s s3 P f3) (IsPartMoment s P K)
      → DoesPart mid new failed (IsPartDone s3 t AnyBook (with_use s3.registration odometer e.minute)) (IsPartMoment s3 AnyBook (IsUsing s3.registration odometer e.minute))
      → DoesPart old new failed (IsPartDone s t P (entered size s.registration odometer more e)) (IsPartMoment s P K)
  use_then {old} {mid} {new} {failed} s3 t app registration first next =
      then_part s s3 t P AnyBook f3 (with_use s.registration odometer e.minute) K (IsUsing s.registration odometer e.minute) K app first
      (subst (λ (r : Registration). DoesPart mid new failed (IsPartDone s3 t AnyBook (with_use r odometer e.minute)) (IsPartMoment s3 AnyBook (IsUsing r odometer e.minute))) registration next)
      (λ x y knows p then. tt) (λ b ds v p k. k) use_moment

  -- parts of which the last failed
  pub entry_failed : {old new : State} {failed : Bool} (u t : Session) (f : Book → Book) → DoesPart old new true (IsPartDone s u P f) (IsPartMoment s P K) → failed ≡ true
      → DoesPart old new failed (IsPartDone s t P (entered size s.registration odometer more e)) (IsPartMoment s P K)
  entry_failed u t f part is = failed_part s u t P f (entered size s.registration odometer more e) K K part is (λ b ds v p k. k)

  -- ---- a keep, of a card that the session knows

  asked : (x : List ℕ) → s.minute < e.minute → IsSession s x → P (book_of s.application x)
  asked x later knows = (knows.book, omega (arith, later, knows.minute))

  pub kept_moment : (x c : List ℕ) → s.minute < e.minute → more ≡ grown s.odometer odometer → IsPartMoment s P K x c → IsSession s x → IsCardKeeping s e odometer x c
  kept_moment x c later is part knows =
      record { card = subst (λ (m : ℕ). IsCard s.application (IsKeepMoment size s.registration odometer m e (book_of s.application x)) x c) is (part knows.card (asked x later knows)) }

  pub kept_done : (x y : List ℕ) (t u : Session) → s.minute < e.minute → more ≡ grown s.odometer odometer → t.application ≡ s.application → IsPartDone s t P (entered size s.registration odometer more e) x y
      → u.application ≡ t.application → u.days ≡ t.days → u.newest ≡ t.newest → u.vehicle ≡ t.vehicle → u.minute ≡ e.minute → IsSession s x → IsCardKept s u e odometer x y
  kept_done x y t u later is app part same_app days newest vehicle minute knows =
      let b : Book = book_of s.application x in
      let p = asked x later knows in
      let done = part knows.card p in
      let made : book_of s.application y ≡ entered size s.registration odometer more e b = told_book s.application (entered size s.registration odometer more e b) x y done.0 in
      let last = entry_last size value.sizes.string_least s.registration odometer more e b knows.card.days.holds.ordered p in
      let there : book_of u.application y ≡ entered size s.registration odometer more e b = ap (λ (q : Application). book_of q y) (same_app ∙ app) ∙ made in
      record {
        card = subst (λ (m : ℕ). IsCard s.application (IsBook (entered size s.registration odometer m e b)) x y) is done.0;
        knows = record {
          card = knows_same t u y same_app days newest vehicle done.1;
          book = subst IsOpenBook (sym there) last.0;
          minute = minute ∙ sym last.1 ∙ sym (ap newest_in there);
        };
      }
    where
      knows_same : (t u : Session) (y : List ℕ) → u.application ≡ t.application → u.days ≡ t.days → u.newest ≡ t.newest → u.vehicle ≡ t.vehicle → KnowsCard t y → KnowsCard u y
      knows_same t u y app days newest vehicle knows = record {
        days = subst (λ (p : Application). Knows u.days y (book_of p y).days) (sym app) (subst (λ (h : Held). Knows h y (book_of t.application y).days) (sym days) knows.days);
        points = subst (λ (p : Application). PointsInside (vehicle_ring p) y) (sym app) knows.points;
        newest = subst (λ (p : Application). IsNewest (vehicle_ring p) y u.newest) (sym app) (subst (λ (o : Option ℕ). IsNewest (vehicle_ring t.application) y o) (sym newest) knows.newest);
        vehicle = vehicle ∙ knows.vehicle ∙ ap (λ (p : Application). (book_of p y).vehicles.newest) (sym app);
      }

  pub kept_told : {old new : State} (t u : Session) → s.minute < e.minute → more ≡ grown s.odometer odometer → t.application ≡ s.application → DoesPart old new false (IsPartDone s t P (entered size s.registration odometer more e)) (IsPartMoment s P K)
      → u.application ≡ t.application → u.days ≡ t.days → u.newest ≡ t.newest → u.vehicle ≡ t.vehicle → u.minute ≡ e.minute → IfSome old.image (λ x. IfSome new.image (λ y. IsSession s x → IsCardKept s u e odometer x y))
  kept_told {old} {new} t u later is app part same_app days newest vehicle minute =
      where_told old.image new.image (λ x y. IsSession s x → IsCardKept s u e odometer x y) (λ x y was there knows.
      kept_done x y t u later is app
      (at_image (λ y. IsPartDone s t P (entered size s.registration odometer more e) x y) there (at_image (λ x. IfSome new.image (IsPartDone s t P (entered size s.registration odometer more e) x)) was (part.done refl)))
      same_app days newest vehicle minute knows)
