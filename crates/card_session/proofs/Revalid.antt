-- A valid card whose session was left open is valid at each moment of an insertion.
use Rattle.std.proofs.Common.{◌≡◌, ◌≢◌, inl, inr, ⊎_elim, ℕ, suc, ◌+◌, ◌/◌, ◌≤◌, Bool, true, false, not, ◌&&◌, cond, Option, Some, None, List, [], ◌∷◌, ◌++◌, length, filter, refl, sym, ◌∙◌, ap, subst, arith}
use Rattle.std.specs.Prelude.{◌⊎◌, nat_eq, nat_lt, nat_le}
use Rattle.std.specs.List.{AllByRecursion}
use Rattle.std.proofs.lemmas.Bool.{eq-eqb, le-ltb}
use Rattle.std.proofs.lemmas.Bool.Decides.{nat_tests}
use Rattle.std.proofs.lemmas.List.Elements.{filter-append}
use Rattle.activity_codec.specs.declared.values.Activity.TheVariants.{Rest}
use Rattle.activity_codec.specs.declared.entries.Entry.{Entry}
use Rattle.activity_codec.specs.Words.{word_minute, word_absent}
use Rattle.tacho_types.specs.declared.texts.Registration.{Registration}
use Rattle.card_layout.specs.declared.files.Application.{Application}
use Rattle.card_layout.specs.Application.{IsApplication}
use Rattle.card_layout.specs.Files.{image_size_of, place_of}
use Rattle.card_days.specs.card_model.Days.{Day, AreDays, AreWords, Ascend, last_word, len_of}
use Rattle.card_days.specs.card_model.Changes.{OnNewest, date_of, trimmed, with_newest, with_word}
use Rattle.card_days.specs.card_model.Checks.{first_failing, first_bad, file_place}
use Rattle.card_days.specs.card_model.Image.{oldest_pointer}
use Rattle.card_days.proofs.card_model.Ascending.{words_ascend, words_below, first_last}
use Rattle.card_days.proofs.card_model.Judging.{holds_passes}
use Rattle.card_days.proofs.card_model.Trims.{are_trimmed, trim_from_moment, trimmed_twice}
use Rattle.card_validity.specs.card_retention.Entries.{newest_word}
use Rattle.gated_ring.specs.Ring.{PointsInside}
use Rattle.gated_ring.proofs.Elsewhere.{points_elsewhere}
use Rattle.card_validity.specs.card_image.Fields.{file, day_string, vehicle_ring, last_of, card_days, end_mark, session_time}
use Rattle.card_validity.specs.card_image.Beside.{HaveSameDays, HaveSameVehicles, HaveSameSizes, HaveSamePlacePointer}
use Rattle.card_validity.specs.card_image.Judging.{PlacedWord, minute_at, words_placed, days_placed, tells_none, leaves_gap, closing_checks, words_behind_mark, newest_rises, IsValid}
use Rattle.card_validity.proofs.card_image.Beside.{days_same, session_same as session_beside}
use Rattle.card_validity.proofs.card_image.DaysBeside.{bad_elsewhere}
use Rattle.card_validity.specs.Words.{first_of}
use Rattle.card_validity.proofs.Checking.{checks_open, checks_closed}
use Rattle.card_session.specs.Vehicles.{Vehicles, last_use_in}
use Rattle.card_session.specs.Books.{Book, mark_of, with_entry, closed}
use Rattle.card_session.specs.Sessions.{EndsStrictly, IsOpenBook, book_of}
use Rattle.card_session.specs.Moments.{IsBook, IsCloseMoment}
use Rattle.card_session.specs.Cards.{IsCard}
use Rattle.card_session.specs.Parts.{IsBeforeGapOf}
use Rattle.card_session.specs.Inserting.{Follow, lacked, with_cut, with_owed, IsBeforeAll, IsReplaying, EndsCut, repaired, IsRepairMoment, IsStill, IsRepaired, IsRepairing, IsNoted, IsNoting, IsShut, IsShutting, IsReopening, InsertingOpen}
use Rattle.card_session.proofs.Composing.{told_book}
use Rattle.card_session.proofs.OnCard.{ring_shape, ring_behind, ring_inside, string_shape}
use Rattle.card_session.proofs.Preparing.{ends_by}
use Rattle.card_session.proofs.Marks.{session_same}
use Rattle.card_session.proofs.Valid.{valid_by, valid_strict, strict_passes, flat_of, keep_strict, after_strict, close_strict, closed_low}
use Rattle.card_session.proofs.InsertingBooks.{cut_ready, trimmed_low}
use Rattle.card_session.proofs.InsertingCards.{noted_same, noting_same}
use Rattle.card_session.proofs.InsertingUse.{use_inside}
use Rattle.card_session.proofs.InsertingOpen.{Same, reopening_same}
use Rattle.card_session.proofs.InsertingAgain.{noted_keeps, inserting_keeps}
use Rattle.card_session.proofs.Replaying.{with_are, with_before, replay_low}
use Rattle.card_session.proofs.Repairing.{lacked_many, mark_beside}

-- ---- no word stands behind the end mark

module _ (mark size oldest : ℕ) where
  abbrev late : PlacedWord → Bool
  late p = nat_lt mark (minute_at p)

  quiet_words : (k date low w : ℕ) (ws : List ℕ) → Ascend low (w ∷ ws) → date / 60 + word_minute (last_word (w ∷ ws)) ≤ mark → filter late (words_placed size oldest k date (w ∷ ws)) ≡ []
  quiet_words k date low w [] up le =
      ap (λ (t : Bool). cond t ((let p : PlacedWord = record { date = date; word = w; place = file_place size oldest k } in p) ∷ []) []) (le-ltb mark (date / 60 + word_minute w) le)
  quiet_words k date low w (v ∷ ws) up le =
      ap (λ (t : Bool). cond t ((let p : PlacedWord = record { date = date; word = w; place = file_place size oldest k } in p) ∷ filter late (words_placed size oldest (k + 2) date (v ∷ ws))) (filter late (words_placed size oldest (k + 2) date (v ∷ ws))))
      (le-ltb mark (date / 60 + word_minute w) (omega (arith, first_last low w (v ∷ ws) up, le)))
      ∙ quiet_words (k + 2) date (word_minute w) v ws up.2 le

  quiet_day : (k date : ℕ) (ws : List ℕ) → AreWords ws → date / 60 + word_minute (last_word ws) ≤ mark → filter late (words_placed size oldest k date ws) ≡ []
  quiet_day k date [] are le = absurd are
  quiet_day k date (w ∷ ws) are le = quiet_words k date 0 w ws (words_ascend (w ∷ ws) are) le

  -- the newest word is the latest
  newest_high : (date : ℕ) (d : Day) (ds : List Day) → AreDays date (d ∷ ds) → d.date / 60 ≤ newest_word (d ∷ ds)
  newest_high date d [] are = omega arith
  newest_high date d (e ∷ ds) are = omega (arith, are.2.0, newest_high d.date e ds are.2)

  -- and those of the days before it are earlier
  older_low : (date : ℕ) (d e : Day) (ds : List Day) → AreDays date (d ∷ e ∷ ds) → newest_word (e ∷ ds) ≤ mark → d.date / 60 + word_minute (last_word d.words) ≤ mark
  older_low date d e ds are le = omega (arith, words_below d.words are.1.ordered, are.1.midnight, are.2.0, are.2.1.midnight, newest_high d.date e ds are.2, le)

  quiet_days : (k date : ℕ) (ds : List Day) → AreDays date ds → newest_word ds ≤ mark → filter late (days_placed size oldest k ds) ≡ []
  quiet_days k date [] are le = refl
  quiet_days k date (d ∷ []) are le =
      filter-append late (words_placed size oldest (k + 12) d.date d.words) []
      ∙ ap (λ (l : List PlacedWord). l ++ []) (quiet_day (k + 12) d.date d.words are.1.ordered le)
  quiet_days k date (d ∷ e ∷ ds) are le =
      filter-append late (words_placed size oldest (k + 12) d.date d.words) (days_placed size oldest (k + len_of d) (e ∷ ds))
      ∙ ap (λ (l : List PlacedWord). l ++ filter late (days_placed size oldest (k + len_of d) (e ∷ ds))) (quiet_day (k + 12) d.date d.words are.1.ordered (older_low date d e ds are le))
      ∙ quiet_days (k + len_of d) d.date (e ∷ ds) are.2 le

  -- so nothing fails there
  behind_none : (ds : List Day) → AreDays 0 ds → newest_word ds ≤ mark → first_failing (words_behind_mark mark (days_placed size oldest 0 ds)) ≡ None
  behind_none ds are le =
      ap (λ (l : List PlacedWord). first_failing (closing_checks mark (last_of (filter (λ (p : PlacedWord). nat_le (minute_at p) mark) (days_placed size oldest 0 ds))) l)) (quiet_days 0 0 ds are le)

  -- ---- one word stands there, which closes what is open at the end mark

  just_late : (n : ℕ) → n ≡ suc mark → nat_lt mark n ≡ true
  just_late n is = grind (arith, nat_tests)

  -- this word alone, at the minute after it
  abbrev IsAlone : ℕ → List PlacedWord → Type 0
  IsAlone w ps = (p : PlacedWord) × (ps ≡ p ∷ []) × (p.word ≡ w) × (minute_at p ≡ suc mark)

  closing_words : (k date low w v : ℕ) (ws : List ℕ) → Ascend low (v ∷ ws) → date / 60 + word_minute (last_word (v ∷ ws)) ≤ mark → date / 60 + word_minute w ≡ suc mark
      → IsAlone w (filter late (words_placed size oldest k date ((v ∷ ws) ++ w ∷ [])))
  closing_words k date low w v [] up le at =
      let p : PlacedWord = record { date = date; word = v; place = file_place size oldest k } in
      let q : PlacedWord = record { date = date; word = w; place = file_place size oldest (k + 2) } in (
        q,
        ap (λ (t : Bool). cond t (p ∷ filter late (q ∷ [])) (filter late (q ∷ []))) (le-ltb mark (date / 60 + word_minute v) le)
            ∙ ap (λ (t : Bool). cond t (q ∷ []) []) (just_late (date / 60 + word_minute w) at),
        refl,
        at,
      )
  closing_words k date low w v (u ∷ ws) up le at =
      let p : PlacedWord = record { date = date; word = v; place = file_place size oldest k } in
      let more : List PlacedWord = filter late (words_placed size oldest (k + 2) date ((u ∷ ws) ++ w ∷ [])) in
      let rest = closing_words (k + 2) date (word_minute v) w u ws up.2 le at in
      (rest.0, ap (λ (t : Bool). cond t (p ∷ more) more) (le-ltb mark (date / 60 + word_minute v) (omega (arith, first_last low v (u ∷ ws) up, le))) ∙ rest.1, rest.2, rest.3)

  closing_day : (k date w : ℕ) (ws : List ℕ) → AreWords ws → date / 60 + word_minute (last_word ws) ≤ mark → date / 60 + word_minute w ≡ suc mark
      → IsAlone w (filter late (words_placed size oldest k date (ws ++ w ∷ [])))
  closing_day k date w [] are le at = absurd are
  closing_day k date w (v ∷ ws) are le at = closing_words k date 0 w v ws (words_ascend (v ∷ ws) are) le at

  closing_days : (k date w : ℕ) (ds : List Day) → AreDays date ds → newest_word ds ≤ mark → OnNewest (λ d. d.date / 60 + word_minute w ≡ suc mark) ds
      → IsAlone w (filter late (days_placed size oldest k (with_newest (with_word w) ds)))
  closing_days k date w [] are le on = absurd on
  closing_days k date w (d ∷ []) are le on =
      let last = closing_day (k + 12) d.date w d.words are.1.ordered le on in
      (last.0, filter-append late (words_placed size oldest (k + 12) d.date (d.words ++ w ∷ [])) [] ∙ ap (λ (l : List PlacedWord). l ++ []) last.1, last.2, last.3)
  closing_days k date w (d ∷ e ∷ ds) are le on =
      let rest = closing_days (k + len_of d) d.date w (e ∷ ds) are.2 le on in
      let more : List PlacedWord = days_placed size oldest (k + len_of d) (with_newest (with_word w) (e ∷ ds)) in (
        rest.0,
        filter-append late (words_placed size oldest (k + 12) d.date d.words) more
            ∙ ap (λ (l : List PlacedWord). l ++ filter late more) (quiet_day (k + 12) d.date d.words are.1.ordered (older_low date d e ds are le))
            ∙ rest.1,
        rest.2,
        rest.3,
      )

  no_third : (a b : Bool) → (a && (b && false)) ≡ false
  no_third true true = refl
  no_third true false = refl
  no_third false b = refl

  no_gap : (l : Option PlacedWord) (p : PlacedWord) → minute_at p ≡ suc mark → leaves_gap mark l p ≡ false
  no_gap None p at = refl
  no_gap (Some l) p at =
      ap (λ (t : Bool). nat_eq l.date (date_of mark) && (not (tells_none l) && not t)) (eq-eqb (minute_at p) (suc mark) at)
      ∙ no_third (nat_eq l.date (date_of mark)) (not (tells_none l))

  -- so nothing fails there either
  pub behind_closed : (w : ℕ) (ds : List Day) → AreDays 0 ds → newest_word ds ≤ mark → word_absent w ≡ true → OnNewest (λ d. d.date / 60 + word_minute w ≡ suc mark) ds
      → first_failing (words_behind_mark mark (days_placed size oldest 0 (with_newest (with_word w) ds))) ≡ None
  behind_closed w ds are le absent on =
      let one = closing_days 0 0 w ds are le on in
      let latest : Option PlacedWord = last_of (filter (λ (p : PlacedWord). nat_le (minute_at p) mark) (days_placed size oldest 0 (with_newest (with_word w) ds))) in
      ap (λ (l : List PlacedWord). first_failing (closing_checks mark latest l)) one.1
      ∙ ap (λ (t : Bool). cond (t && not (leaves_gap mark latest one.0)) (first_failing []) (Some one.0.place)) (ap word_absent one.2 ∙ absent)
      ∙ ap (λ (t : Bool). cond (true && not t) (first_failing []) (Some one.0.place)) (no_gap latest one.0 one.3)

-- ---- of a card

-- its days hold, and the words of the newest one rise up to the end mark
pub record Fine (app : Application) (y : List ℕ) : Type 0 where
  pub days : first_bad (day_string app) y ≡ None
  pub points : PointsInside (vehicle_ring app) y
  pub ordered : AreDays 0 (card_days app y)
  pub strict : EndsStrictly (trimmed (end_mark app y) (card_days app y))

-- no word stands behind the end mark
abbrev pub Low : Application → List ℕ → Type 0
Low app y = newest_word (card_days app y) ≤ end_mark app y

module _ (app : Application) (x y : List ℕ) (valid : IsValid app x) (sizes : HaveSameSizes app x y) (places : HaveSamePlacePointer app x y) (fine : Fine app y) where
  abbrev oldest : ℕ
  oldest = oldest_pointer (day_string app) y

  abbrev count : Option ℕ
  count = first_failing (newest_rises app.activity oldest 0 (card_days app y))

  pub fine_open : nat_eq (session_time app y) 0 ≡ false → IsValid app y
  fine_open open_ =
      valid_by app x valid y sizes places fine.days fine.points
      (checks_open app.activity oldest (end_mark app y) (session_time app y) (card_days app y) open_ ∙ strict_passes app.activity oldest 0 (trimmed (end_mark app y) (card_days app y)) fine.strict)

  abbrev behind : Option ℕ
  behind = first_failing (words_behind_mark (end_mark app y) (days_placed app.activity oldest 0 (card_days app y)))

  fine_shut : behind ≡ None → EndsStrictly (card_days app y) → nat_eq (session_time app y) 0 ≡ true → IsValid app y
  fine_shut closes strict shut =
      valid_by app x valid y sizes places fine.days fine.points
      (checks_closed app.activity oldest (end_mark app y) (session_time app y) (card_days app y) shut
      ∙ ap (λ (o : Option ℕ). first_of o (first_of (first_failing (newest_rises app.activity oldest 0 (trimmed (end_mark app y) (card_days app y)))) count)) closes
      ∙ ap (λ (o : Option ℕ). first_of o count) (strict_passes app.activity oldest 0 (trimmed (end_mark app y) (card_days app y)) fine.strict)
      ∙ strict_passes app.activity oldest 0 (card_days app y) strict)

  -- where nothing fails behind the end mark
  pub fine_behind : behind ≡ None → EndsStrictly (card_days app y) → IsValid app y
  fine_behind closes strict = by (nat_eq (session_time app y) 0) refl
    where
      by : (t : Bool) → nat_eq (session_time app y) 0 ≡ t → IsValid app y
      by false is = fine_open is
      by true is = fine_shut closes strict is

  pub fine_low : Low app y → IsValid app y
  fine_low low =
      fine_behind (behind_none (end_mark app y) app.activity oldest (card_days app y) fine.ordered low)
      (subst EndsStrictly (flat_of (end_mark app y) 0 (card_days app y) fine.ordered low) fine.strict)

module _ (app : Application) (sound : IsApplication app) where
  pub card_fine : (P : List Day → Vehicles → Type 0) (z y : List ℕ) → image_size_of app ≤ length z → IsCard app P z y → EndsStrictly (trimmed (mark_of (book_of app y)) (book_of app y).days) → Fine app y
  unfolding book_of
  card_fine P z y fits card strict = record {
    days = holds_passes (day_string app) (string_shape app sound) y (omega (arith, card.outside.same_length, fits, ring_behind app, ring_inside app)) (book_of app y).days card.holds;
    points = card.points;
    ordered = card.holds.ordered;
    strict = strict;
  }

  module _ (z y : List ℕ) (days : HaveSameDays app z y) (vehicles : HaveSameVehicles app z y) (fine : Fine app z) where
    pub beside_fine : Fine app y
    beside_fine = record {
      days = bad_elsewhere (day_string app) z y days ∙ fine.days;
      points = points_elsewhere (vehicle_ring app) (ring_shape app sound) z y vehicles fine.points;
      ordered = subst (λ (ds : List Day). AreDays 0 ds) (sym (days_same app z y days)) fine.ordered;
      strict = subst (λ (ds : List Day). EndsStrictly (trimmed (end_mark app y) ds)) (sym (days_same app z y days))
          (subst (λ (n : ℕ). EndsStrictly (trimmed n (card_days app z))) (sym (mark_beside app sound z y days vehicles fine.points)) fine.strict);
    }

    pub beside_low : Low app z → Low app y
    beside_low low =
        subst (λ (ds : List Day). newest_word ds ≤ end_mark app y) (sym (days_same app z y days))
        (subst (λ (n : ℕ). newest_word (card_days app z) ≤ n) (sym (mark_beside app sound z y days vehicles fine.points)) low)

-- by its book
pub strict_told : (app : Application) (y : List ℕ) (b : Book) → book_of app y ≡ b → EndsStrictly (trimmed (mark_of b) b.days) → EndsStrictly (trimmed (mark_of (book_of app y)) (book_of app y).days)
strict_told app y b is strict = subst (λ (k : Book). EndsStrictly (trimmed (mark_of k) k.days)) (sym is) strict

pub low_told : (app : Application) (y : List ℕ) (b : Book) → book_of app y ≡ b → newest_word b.days ≤ mark_of b → Low app y
unfolding book_of
low_told app y b is low = subst (λ (k : Book). newest_word k.days ≤ mark_of k) (sym is) low

-- ---- a closing word, where no word stands behind the end mark

module _ (app : Application) (sound : IsApplication app) (z : List ℕ) (fine : Fine app z) (low : Low app z) where
  pub book_are : AreDays 0 (book_of app z).days
  unfolding book_of
  book_are = fine.ordered

  book_strict : EndsStrictly (trimmed (mark_of (book_of app z)) (book_of app z).days)
  unfolding book_of
  book_strict = fine.strict

  book_low : newest_word (book_of app z).days ≤ mark_of (book_of app z)
  unfolding book_of
  book_low = low

  pub book_may : IsOpenBook (book_of app z)
  book_may = record {
    ends = ends_by (mark_of (book_of app z)) (book_of app z).days book_low;
    strict = subst EndsStrictly (flat_of (mark_of (book_of app z)) 0 (book_of app z).days book_are book_low) book_strict;
  }

  module _ (fits : image_size_of app ≤ length z) (w : List ℕ) where
    pub shutting_fine : IsShutting app z w → Fine app w
    shutting_fine card =
        card_fine app sound (IsCloseMoment app.activity Rest (book_of app z)) z w fits card
        (close_strict app.activity sound.string_least (book_of app z) book_are Rest book_may book_strict (book_of app w).days (book_of app w).vehicles card.holds.ordered card.told)

    pub shut_fine : IsShut app z w → Fine app w
    shut_fine card = shutting_fine (record { outside = card.outside; holds = card.holds; points = card.points; told = inr card.told })

    pub shut_low : IsShut app z w → Low app w
    shut_low card = low_told app w (closed app.activity Rest (book_of app z)) (told_book app (closed app.activity Rest (book_of app z)) z w card) (closed_low app.activity sound.string_least (book_of app z) book_are Rest book_may book_low)

-- ---- the days at each moment of a repair

module _ (size : ℕ) (long : 5544 ≤ size) (registration : Registration) (odometer : ℕ) where
  replay_strict : (es : List Entry) (b : Book) → AreDays 0 b.days → EndsStrictly (trimmed (mark_of b) b.days) → IsBeforeAll es b → AllByRecursion (λ e. 1440 ≤ e.minute) es
      → (ds : List Day) (v : Vehicles) → AreDays 0 ds → IsReplaying size registration odometer es b ds v → EndsStrictly (trimmed (last_use_in v / 60) ds)
  replay_strict [] b are strict before many ds v ordered is =
      subst (λ (l : List Day). EndsStrictly (trimmed (last_use_in v / 60) l)) (sym is.0) (subst (λ (o : Vehicles). EndsStrictly (trimmed (last_use_in o / 60) b.days)) (sym is.1) strict)
  replay_strict (e ∷ es) b are strict before many ds v ordered (inl moment) =
      let gap : IsBeforeGapOf e.minute b = (before.0, before.1.0) in
      keep_strict size long b are strict e gap registration odometer 0 ds v ordered moment
  replay_strict (e ∷ es) b are strict before many ds v ordered (inr later) =
      let gap : IsBeforeGapOf e.minute b = (before.0, before.1.0) in
      let next : AreDays 0 (with_entry size registration odometer 0 b e).days = with_are size long registration odometer 0 b are e gap many.0 in
      replay_strict es (with_entry size registration odometer 0 b e) next (after_strict size long b are strict e gap registration odometer 0 next) (with_before size long registration odometer 0 b are e gap many.0 es before.1.1)
      many.1 ds v ordered later

  all_done : (es : List Entry) (b : Book) → IsReplaying size registration odometer es b (with_owed size registration odometer es b).days (with_owed size registration odometer es b).vehicles
  all_done [] b = (refl, refl)
  all_done (e ∷ es) b = inr (all_done es (with_entry size registration odometer 0 b e))

  module _ (b : Book) (are : AreDays 0 b.days) (strict : EndsCut b) (owed : List Entry) (ordered : Follow 1439 owed) where
    abbrev ls : List Entry
    ls = lacked (mark_of b) owed

    abbrev cut : Book
    cut = with_cut (mark_of b) b

    before : IsBeforeAll ls cut
    before = cut_ready 1439 (mark_of b) owed b are refl strict ordered

    repair_low : newest_word (repaired size registration odometer owed b).days ≤ mark_of (repaired size registration odometer owed b)
    repair_low = replay_low size long registration odometer 0 ls cut (are_trimmed (mark_of b) 0 b.days are) (trimmed_low (mark_of b) b.days are) before (lacked_many (mark_of b) owed ordered)

    repair_strict : (ds : List Day) (v : Vehicles) → AreDays 0 ds → IsRepairMoment size registration odometer owed b ds v → EndsStrictly (trimmed (last_use_in v / 60) ds)
    repair_strict ds v are_kept (inl cutting) =
        let whole : trimmed (mark_of b) ds ≡ trimmed (mark_of b) b.days = ⊎_elim (λ shorter. trim_from_moment (mark_of b) b.days ds shorter) (λ done. ap (trimmed (mark_of b)) done ∙ trimmed_twice (mark_of b) b.days) cutting.0 in
        subst (λ (o : Vehicles). EndsStrictly (trimmed (last_use_in o / 60) ds)) (sym cutting.1) (subst EndsStrictly (sym whole) strict)
    repair_strict ds v are_kept (inr replaying) =
        replay_strict ls cut (are_trimmed (mark_of b) 0 b.days are) (subst EndsStrictly (sym (trimmed_twice (mark_of b) b.days)) strict) before (lacked_many (mark_of b) owed ordered) ds v are_kept replaying

    repaired_strict : AreDays 0 (repaired size registration odometer owed b).days → EndsStrictly (trimmed (mark_of (repaired size registration odometer owed b)) (repaired size registration odometer owed b).days)
    repaired_strict whole = repair_strict (repaired size registration odometer owed b).days (repaired size registration odometer owed b).vehicles whole (inr (all_done ls cut))

-- ---- a card whose session was left open

module _ (app : Application) (sound : IsApplication app) (x : List ℕ) (fits : image_size_of app ≤ length x) (registration : Registration) (long : length registration.0 ≡ 15) (odometer now : ℕ) (owed : List Entry) (ordered : Follow 1439 owed)
    (valid : IsValid app x) (open_ : nat_eq (session_time app x) 0 ≡ false) where
  abbrev full : Book
  full = repaired app.activity registration odometer owed (book_of app x)

  abbrev pub Stands : List ℕ → Type 0
  Stands y = Fine app y × ((session_time app y ≡ session_time app x) ⊎ Low app y)

  module _ (y : List ℕ) (still : IsStill app x y) where
    pub days_are : AreDays 0 (book_of app x).days
    days_are = subst (λ (ds : List Day). AreDays 0 ds) still.told.0 still.holds.ordered

    pub cut_strict : EndsCut (book_of app x)
    unfolding book_of
    cut_strict = valid_strict app x valid days_are open_

    still_fine : Fine app y
    still_fine = card_fine app sound (IsBook (book_of app x)) x y fits still (strict_told app y (book_of app x) (told_book app (book_of app x) x y still) cut_strict)

    still_fits : image_size_of app ≤ length y
    still_fits = omega (arith, fits, still.outside.same_length)

    repairing_fine : (z : List ℕ) → IsRepairing app registration odometer owed y z → Fine app z
    repairing_fine z card =
        card_fine app sound (IsRepairMoment app.activity registration odometer owed (book_of app y)) y z still_fits card
        (repair_strict app.activity sound.string_least registration odometer (book_of app x) days_are cut_strict owed ordered (book_of app z).days (book_of app z).vehicles card.holds.ordered
        (subst (λ (k : Book). IsRepairMoment app.activity registration odometer owed k (book_of app z).days (book_of app z).vehicles) (told_book app (book_of app x) x y still) card.told))

    module _ (z : List ℕ) (card : IsRepaired app registration odometer owed y z) where
      pub full_is : book_of app z ≡ full
      full_is = told_book app (repaired app.activity registration odometer owed (book_of app y)) y z card ∙ ap (repaired app.activity registration odometer owed) (told_book app (book_of app x) x y still)

      full_fits : image_size_of app ≤ length z
      full_fits = omega (arith, still_fits, card.outside.same_length)

      full_fine : Fine app z
      full_fine =
          card_fine app sound (IsBook (repaired app.activity registration odometer owed (book_of app y))) y z still_fits card
          (strict_told app z full full_is
          (repaired_strict app.activity sound.string_least registration odometer (book_of app x) days_are cut_strict owed ordered (subst (λ (k : Book). AreDays 0 k.days) full_is card.holds.ordered)))

      full_low : Low app z
      full_low = low_told app z full full_is (repair_low app.activity sound.string_least registration odometer (book_of app x) days_are cut_strict owed ordered)

      full_session : session_time app z ≡ session_time app x
      full_session = session_same app (IsBook (repaired app.activity registration odometer owed (book_of app y))) y z card ∙ session_same app (IsBook (book_of app x)) x y still

      noting_stands : (c : List ℕ) → IsNoting app now z c → Stands c
      noting_stands c noting =
          let side = noting_same app now z c noting in
          (beside_fine app sound z c side.0 side.1 full_fine, inl (session_beside app z c side.2 ∙ full_session))

      module _ (c : List ℕ) (noted : IsNoted app now z c) where
        pub noted_fine : Fine app c
        noted_fine = let side = noted_same app now z c noted in beside_fine app sound z c side.0 side.1 full_fine

        pub noted_low : Low app c
        noted_low = let side = noted_same app now z c noted in beside_low app sound z c side.0 side.1 full_fine full_low

        pub noted_fits : image_size_of app ≤ length c
        noted_fits = omega (arith, full_fits, (noted_keeps app now z c (omega (arith, use_inside app, full_fits)) noted).1)

        shutting_stands : (w : List ℕ) → IsShutting app c w → Stands w
        shutting_stands w card = (
          shutting_fine app sound c noted_fine noted_low noted_fits w card,
          inl (session_same app (IsCloseMoment app.activity Rest (book_of app c)) c w card ∙ session_beside app z c (noted_same app now z c noted).2 ∙ full_session),
        )

        pub use_low : (w v : List ℕ) → IsShut app c w → Same app w v → Low app v
        use_low w v card side = beside_low app sound w v side.0 side.1 (shut_fine app sound c noted_fine noted_low noted_fits w card) (shut_low app sound c noted_fine noted_low noted_fits w card)

        use_stands : (w v : List ℕ) → IsShut app c w → IsReopening app registration now w v → Stands v
        use_stands w v card reopening =
            let room : place_of app (file 0x0507) + 19 ≤ length w = omega (arith, use_inside app, noted_fits, card.outside.same_length) in
            let side = reopening_same app registration now long w v room reopening in
            let done = shut_fine app sound c noted_fine noted_low noted_fits w card in (
              beside_fine app sound w v side.0 side.1 done,
              inr (use_low w v card side),
            )

  pub stands : (y : List ℕ) → InsertingOpen app registration odometer owed now x y → Stands y
  stands y (inl still) = (still_fine y still, inl (session_same app (IsBook (book_of app x)) x y still))
  stands y (inr (x1, still, inl repairing)) =
      (repairing_fine x1 still y repairing, inl (session_same app (IsRepairMoment app.activity registration odometer owed (book_of app x1)) x1 y repairing ∙ session_same app (IsBook (book_of app x)) x x1 still))
  stands y (inr (x1, still, inr (x2, mended, inl noting))) = noting_stands x1 still x2 mended y noting
  stands y (inr (x1, still, inr (x2, mended, inr (x3, noted, inl shutting)))) = shutting_stands x1 still x2 mended x3 noted y shutting
  stands y (inr (x1, still, inr (x2, mended, inr (x3, noted, inr (x4, shut, reopening))))) = use_stands x1 still x2 mended x3 noted x4 y shut reopening

  -- SO IT IS VALID
  pub again_valid : (y : List ℕ) → session_time app x ≢ 0 → InsertingOpen app registration odometer owed now x y → IsValid app y
  again_valid y some inserting =
      let same = inserting_keeps app registration odometer now owed long x y (omega (arith, use_inside app, fits)) (inr (some, inserting)) in
      let there = stands y inserting in
      ⊎_elim
      (λ session. fine_open app x y valid same.0 same.3 there.0 (ap (λ (n : ℕ). nat_eq n 0) session ∙ open_))
      (λ low. fine_low app x y valid same.0 same.3 there.0 low) there.1
